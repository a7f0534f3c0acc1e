-- Theorems about what Fills defines.
use Rattle.std.specs.Prelude.{◌≡◌, ℕ, ◌≤◌, length}
use Rattle.std.proofs.Math.Path.{ap}
use Rattle.std.proofs.Common.{◌∙◌, arith}
use mathlib.Core.List.{[], ◌∷◌}
use Rattle.bankdef.specs.Check.{banks_of}
use Rattle.bankdef.specs.Fill.{full_length, fill_by}
use Rattle.bankdef.specs.FillBits.{ones_in}
use Rattle.bitvec.specs.Bits.{of_bits}
use Rattle.bitvec.specs.Lists.{list_of}
use Rattle.bitvec.specs.Numeral.{numeral}
use Rattle.build_visits.specs.Visits.{visits_to, each}
use Rattle.build_visits.specs.Items.{image_of}
use Rattle.build_write.specs.Blank.{blank_of}
use Rattle.output.specs.Output.{Input, fill_of, Lent, room_of, visits_of, left_by, Builds}
use Rattle.output.specs.declared.Output.{Output}
use Rattle.output.specs.Fills.{lock_banks, lock_build}
use Rattle.output.specs.Laws.Fills.{built, full-lock, inherited-lock}
use Rattle.output.specs.Built.{done_with}

-- "or full fill, where the fill's length is the largest offset + size among banks with fill, size and offset, or 0"
pub full-fills-all : (b : Input) → b.choices.fill ≡ 1 → fill_of b ≡ full_length (banks_of b.banks)
full-fills-all b e = ap (λ (choice : ℕ). fill_by choice (banks_of b.banks)) e

module _ (old : Lent) (wide : 2 ≤ length old.image) {r : Output} {new : Lent} where
  -- "is missing from the image, because the inherited rule does nothing when the length equals the bank's last bit"
  pub lock-bank-missing : Builds (lock_build 0 0) old r new → r.build ≡ done_with 1 8 0
  lock-bank-missing p = built p (inherited-lock (room_of old) wide).0

  -- with full fill it is there
  pub lock-bank-there : Builds (lock_build 0 1) old r new → r.build ≡ done_with 1 9 0
  lock-bank-there p = built p (full-lock (room_of old) wide).0

-- With fill bits of one (Ticket 6) the lock bit reads as erased flash does, where it is in the image: two bytes are lent.
module _ (old : Lent) (two : length old.image ≡ 2) {r : Output} {new : Lent} where
  lock-image : (choice bits : ℕ) → Builds (lock_build 1 choice) old r new → r.build ≡ done_with 1 bits 0 → new.image ≡ blank_of (banks_of (lock_banks 1)) bits 2
  unfolding visits_to each image_of
  lock-image choice bits p e =
      ap (λ (l : Lent). l.image) (p.left ∙ ap (left_by (lock_banks 1) (visits_of (lock_build 1 choice) r.passes) [] old) e)
      ∙ ap (λ (n : ℕ). blank_of (banks_of (lock_banks 1)) bits n) two

  pub lock-bit-erased : Builds (lock_build 1 1) old r new → new.image ≡ 255 ∷ 128 ∷ []
  unfolding blank_of of_bits list_of numeral ones_in
  lock-bit-erased p = lock-image 1 9 p (built p (full-lock (room_of old) (omega arith)).1)

  pub lock-bit-left-out : Builds (lock_build 1 0) old r new → new.image ≡ 255 ∷ 0 ∷ []
  unfolding blank_of of_bits list_of numeral ones_in
  lock-bit-left-out p = lock-image 0 8 p (built p (inherited-lock (room_of old) (omega arith)).1)

-- ---- both choices
