-- "touching blocks joined": a block that ends where the next one begins is one with it.
use mathlib.Core.List.{List, [], ◌∷◌, Memᴰ}
use Rattle.std.specs.Prelude.{ℕ, ◌+◌, ◌/◌, ◌≤◌, ◌<◌, eqb}
use Rattle.prelude.specs.Pick.{pick}
use Rattle.blocks.specs.declared.Block.{Block}
use Rattle.blocks.specs.Walk.{block, end_of}

abbrev pub before : Block → List Block → List Block
before b [] = b ∷ []
before b (c ∷ l) = pick (eqb (end_of b) c.origin) (block b.origin (b.size + c.size) ∷ l) (b ∷ c ∷ l)

unfoldable pub joined : List Block → List Block
joined [] = []
joined (b ∷ l) = before b (joined l)

-- ---- blocks of which none touches the next stay as they are

-- Byte x of the image lies in a block.
abbrev pub InSome : List Block → ℕ → Type 0
InSome l x = (b : Block) × Memᴰ b l × (b.origin / 8 ≤ x) × (x < b.origin / 8 + b.size / 8)
