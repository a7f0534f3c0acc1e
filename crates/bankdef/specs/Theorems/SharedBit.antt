-- Theorems about what SharedBit defines.
use Rattle.std.specs.Prelude.{◌≡◌, refl, true, false, ◌↔◌, ℕ, Option, None, Some}
use Rattle.bankdef.specs.declared.Bankdef.{Bankdef}
use Rattle.prelude.specs.Laws.Bools.{clash}
use Rattle.bankdef.specs.Numbers.{is_zero}
use Rattle.bankdef.specs.Overlap.{ranges_overlap, places_overlap, pair_overlaps}
use Rattle.bankdef.specs.Laws.SharedBit.{common, overlapping}
use Rattle.bankdef.specs.SharedBit.{InBank, InBoth, InPlace, InRange}

-- Two ranges of the output that have bits overlap exactly when some bit belongs to both.
pub ranges-share-a-bit : (o : ℕ) (m : Option ℕ) (p : ℕ) (n : Option ℕ) → is_zero m ≡ false → is_zero n ≡ false → (ranges_overlap o m p n ≡ true) ↔ InBoth (InRange o m)
    (InRange p n)
ranges-share-a-bit o m p n h k = (common o m p n h k, λ s. overlapping o m p n s.0 s.1 s.2)

places : (a m b n : Option ℕ) → is_zero m ≡ false → is_zero n ≡ false → (places_overlap a m b n ≡ true) ↔ InBoth (InPlace a m) (InPlace b n)
places None m b n h k = (λ e. absurd (clash e refl), λ s. absurd s.1)
places (Some o) m None n h k = (λ e. absurd (clash e refl), λ s. absurd s.2)
places (Some o) m (Some p) n h k = ranges-share-a-bit o m p n h k

-- Two banks of which neither has size 0 overlap exactly when some bit of the output belongs to both. (Of size 0, a bank has no bit, and
-- the rule calls it overlapping where its offset is strictly inside another.)
pub banks-share-a-bit : (a b : Bankdef) → is_zero a.size ≡ false → is_zero b.size ≡ false → (pair_overlaps a b ≡ true) ↔ InBoth (InBank a) (InBank b)
banks-share-a-bit a b h k = places a.offset a.size b.offset b.size h k
