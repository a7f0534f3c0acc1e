-- Laws that Theorems/Row rests on.
use Rattle.std.specs.Prelude.{refl, ℕ, ◌<◌}
use mathlib.Core.List.{List, [], ◌∷◌, Memᴰ}
use Rattle.std.proofs.Common.{⊎_elim, le_refl, arith}
use Rattle.sort.specs.Theorems.Order.{NoneBelow, Ascending}
use Rattle.sort.specs.Laws.Sorted.{le-or-lt}
use Rattle.blocks.specs.declared.Block.{Block}
use Rattle.blocks.specs.Bits.{InBlock, SomeElement, NoSharedBit}
use Rattle.blocks.specs.Rising.{origin_of}
use Rattle.blocks.specs.Walk.{end_of}

abbrev pub InARow : List Block → Type 0
InARow [] = Unit {0}
InARow (b ∷ l) = NoneBelow origin_of (end_of b) l × InARow l

-- a block that starts no lower than b, is not empty and shares no bit with b starts no lower than b ends
ends-before : (b : Block) (l : List Block) → NoneBelow origin_of b.origin l → ((x : Block) → Memᴰ x l → 0 < x.size)
    → ((bit : ℕ) → InBlock bit b → SomeElement (InBlock bit) l → ⊥)
    → NoneBelow origin_of (end_of b) l
ends-before b [] h k s = tt
ends-before b (c ∷ l) h k s = (
  ⊎_elim
      (λ le. le)
      (λ lt. let some = k c (Memᴰ.head refl) in absurd (s c.origin (h.0, lt) (c, Memᴰ.head refl, (le_refl c.origin, omega arith))))
      (le-or-lt (end_of b) c.origin),
  ends-before b l h.1 (λ x m. k x (Memᴰ.tail m)) (λ bit i o. s bit i (o.0, Memᴰ.tail o.1, o.2)),
)

pub row : (l : List Block) → Ascending origin_of l → ((x : Block) → Memᴰ x l → 0 < x.size) → NoSharedBit InBlock l → InARow l
row [] h k s = tt
row (b ∷ l) h k s = (ends-before b l h.0 (λ x m. k x (Memᴰ.tail m)) s.0, row l h.1 (λ x m. k x (Memᴰ.tail m)) s.1)
