-- Blocks that fit a width have pieces that do.
use Rattle.std.specs.Prelude.{◌≡◌, ℕ, ◌+◌, ◌/◌, ◌^◌, true, List, [], ◌∷◌, length, nat_le}
use Rattle.std.proofs.Common.{sym, subst, leb-true}
use Rattle.prelude.specs.Laws.Bools.{both}
use Rattle.bitvec.specs.Bits.{Bytes}
use Rattle.sort.specs.Agree.{All}
use Rattle.blocks.specs.declared.Block.{Block}
use Rattle.record_lines.specs.Telling.{Rises}
use Rattle.record_write.specs.Checks.{all_parts, all_placed, all_short}
use Rattle.record_write.specs.Cut.{blocks_in, pieces_of}
use Rattle.record_write.specs.Laws.Exactly.{each-short}
use Rattle.record_write.specs.Laws.Rising.{EndsBy, rise-below}
use Rattle.record_write.specs.Theorems.Rising.{pieces-rise}
use Rattle.record_write.specs.Exactly.{FitsWidth, narrow, wide}

-- Blocks that fit the width have pieces that do.
short-ends : (load : ℕ) (blocks : List Block) → all_short load blocks ≡ true → All (EndsBy 65536 load) blocks
unfolding all_short
short-ends load [] e = tt
short-ends load (b ∷ l) e =
    let (here, rest) = both (nat_le (load + b.origin / 8 + b.size / 8) 65536) (all_short load l) e in
    (leb-true (load + b.origin / 8 + b.size / 8) 65536 here, short-ends load l rest)

pub pieces-fit : (width load : ℕ) (image offsets sizes : List ℕ) → Bytes image → all_parts (length image) (blocks_in offsets sizes) ≡ true
    → all_placed load (blocks_in offsets sizes) ≡ true
    → FitsWidth width load offsets sizes
    → Rises (256 ^ width) load (pieces_of load image (blocks_in offsets sizes))
pieces-fit width load image offsets sizes good p q (wide e) =
    let blocks = blocks_in offsets sizes in
    subst (λ (w : ℕ). Rises (256 ^ w) load (pieces_of load image blocks)) (sym e) (pieces-rise load image blocks good p q)
pieces-fit width load image offsets sizes good p q (narrow e s) =
    let blocks = blocks_in offsets sizes in
    subst (λ (w : ℕ). Rises (256 ^ w) load (pieces_of load image blocks)) (sym e)
    (rise-below 65536 load image good blocks p q (short-ends load blocks (each-short load offsets sizes s)))
