-- Laws that Theorems/SharedBit rests on.
use Rattle.std.specs.Prelude.{◌≡◌, refl, true, false, ℕ, ◌+◌, ◌-◌, ltb, Option, None, Some}
use Rattle.std.proofs.Common.{arith, ltb-true, lt-ltb}
use Rattle.std.proofs.lemmas.Bool.{eqb-false}
use Rattle.bankdef.specs.declared.Bankdef.{Bankdef}
use Rattle.prelude.specs.Laws.Bools.{both}
use Rattle.bankdef.specs.Numbers.{is_zero}
use Rattle.bankdef.specs.Overlap.{ranges_overlap}
use Rattle.bankdef.specs.SharedBit.{InBank, InBoth, InPlace, InRange}

-- the later of two offsets
abbrev later : ℕ → ℕ → ℕ
later o p = o + (p - o)

pub common : (o : ℕ) (m : Option ℕ) (p : ℕ) (n : Option ℕ) → is_zero m ≡ false → is_zero n ≡ false → ranges_overlap o m p n ≡ true → InBoth (InRange o m) (InRange p n)
common o None p None h k e = (later o p, omega arith, omega arith)
common o None p (Some n) h k e =
    let past = ltb-true o (p + n) e in
    (later o p, omega arith, omega (arith, eqb-false n 0 k))
common o (Some m) p None h k e =
    let past = ltb-true p (o + m) e in
    (later o p, omega (arith, eqb-false m 0 h), omega arith)
common o (Some m) p (Some n) h k e =
    let t = both (ltb p (o + m)) (ltb o (p + n)) e in
    let first = ltb-true p (o + m) t.0 in
    let second = ltb-true o (p + n) t.1 in
    (later o p, omega (arith, eqb-false m 0 h), omega (arith, eqb-false n 0 k))

pub overlapping : (o : ℕ) (m : Option ℕ) (p : ℕ) (n : Option ℕ) (bit : ℕ) → InRange o m bit → InRange p n bit → ranges_overlap o m p n ≡ true
overlapping o None p None bit a b = refl
overlapping o None p (Some n) bit a b = lt-ltb o (p + n) (omega arith)
overlapping o (Some m) p None bit a b = lt-ltb p (o + m) (omega arith)
overlapping o (Some m) p (Some n) bit a b = rw (lt-ltb p (o + m) (omega arith), lt-ltb o (p + n) (omega arith))

-- Where a bit belongs to both of two banks: both have an offset, and their ranges overlap.
pub record OffsetsMeet (a m b n : Option ℕ) : Type 0 where
  pub first : ℕ
  pub second : ℕ
  pub first-offset : a ≡ Some first
  pub second-offset : b ≡ Some second
  pub overlap : ranges_overlap first m second n ≡ true

places-meet : (a m b n : Option ℕ) (bit : ℕ) → InPlace a m bit → InPlace b n bit → OffsetsMeet a m b n
places-meet None m b n bit x y = absurd x
places-meet (Some o) m None n bit x y = absurd y
places-meet (Some o) m (Some p) n bit x y =
    record { first = o; second = p; first-offset = refl; second-offset = refl; overlap = overlapping o m p n bit x y }

pub offsets-meet : (a b : Bankdef) (bit : ℕ) → InBank a bit → InBank b bit → OffsetsMeet a.offset a.size b.offset b.size
offsets-meet a b bit x y = places-meet a.offset a.size b.offset b.size bit x y
