-- The blocks that a file gives: "blocks, counted from that address", "touching blocks joined". "Blocks read are in bits as everywhere, 8 × (address - load
-- address), ascending, touching ones joined, whatever the order of the records."
use Rattle.std.specs.Prelude.{Bool, List, [], ◌∷◌, map, ℕ, zero, suc, ◌+◌, ◌-◌, ◌*◌, eqb}
use Rattle.prelude.specs.Pick.{pick}
use Rattle.blocks.specs.declared.Block.{Block}
use Rattle.blocks.specs.Walk.{block}
use Rattle.record_lines.specs.Pieces.{Piece}
use Rattle.record_scan.specs.Steps.{highest}
use Rattle.record_read.specs.Given.{given}

-- A byte in front of runs of bytes that stand behind it: it joins the first of them if that touches it, and is a run of its own otherwise.
abbrev pub in_front : ℕ → List Block → List Block
in_front a [] = block a 1 ∷ []
in_front a (b ∷ l) = pick (eqb b.origin (suc a)) (block a (suc b.size) ∷ l) (block a 1 ∷ b ∷ l)

-- The runs of those n bytes from `at` on for which a test holds.
unfoldable pub runs : (ℕ → Bool) → ℕ → ℕ → List Block
runs test at zero = []
runs test at (suc n) = pick (test at) (in_front at (runs test (suc at) n)) (runs test (suc at) n)

-- A byte of the file, counted from the load address; how many such bytes there are up to the highest end.
abbrev pub is_given : ℕ → List Piece → ℕ → Bool
is_given load pieces j = given pieces (load + j)

abbrev pub reach : ℕ → List Piece → ℕ
reach load pieces = highest pieces - load

unfoldable pub runs_given : ℕ → List Piece → List Block
runs_given load pieces = runs (is_given load pieces) 0 (reach load pieces)

-- In bits.
abbrev pub in_bits : Block → Block
in_bits b = block (8 * b.origin) (8 * b.size)

abbrev pub blocks_given : ℕ → List Piece → List Block
blocks_given load pieces = map in_bits (runs_given load pieces)
