-- What is lent to the bench: "the released image and a small overlay of curves under trial, both at the same offsets", and the blocks
-- of the overlay, offsets and sizes in bits.
use Rattle.std.specs.Prelude.{List, ℕ}

pub record Trial : Type 0 where
  pub overlay : List ℕ
  pub released : List ℕ
  pub offsets : List ℕ
  pub sizes : List ℕ

abbrev pub trial : List ℕ → List ℕ → List ℕ → List ℕ → Trial
trial overlay released offsets sizes = record { overlay = overlay; released = released; offsets = offsets; sizes = sizes }
