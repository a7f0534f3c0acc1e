-- The tests of Interval say what they are named for: two intervals share a bit exactly where `shares_bit` is true.
use Rattle.std.specs.Prelude.{◌≡◌, ◌↔◌, true, ℕ, ◌<◌, min, max}
use Rattle.std.proofs.Common.{arith, ltb-true, lt-ltb, eq-eqb, ne_eqb}
use Rattle.prelude.specs.Laws.Bools.{both}
use Rattle.overlap_checker.specs.declared.Entry.{Entry}
use Rattle.overlap_checker.specs.Interval.{end, ShareBit, shares_bit, StrictlyInside, strictly_inside, clashes}

-- The test is true exactly when some bit belongs to both.
pub shares-exactly : (e f : Entry) → (shares_bit e f ≡ true) ↔ ShareBit e f
unfolding shares_bit
shares-exactly e f = (
  (λ h. let lt = ltb-true (max e.position f.position) (min (end e) (end f)) h in
      (max e.position f.position, (omega arith, omega arith), (omega arith, omega arith))),
  (λ b. lt-ltb (max e.position f.position) (min (end e) (end f)) (omega (arith, b.1, b.2))),
)

-- The test is true exactly when the position is strictly inside.
pub inside-exactly : (p : ℕ) (f : Entry) → (strictly_inside p f ≡ true) ↔ StrictlyInside p f
unfolding strictly_inside
inside-exactly p f = (
  (λ h. let (low, high) = both _ _ h in (ltb-true f.position p low, ltb-true p (end f) high)),
  (λ h. rw (lt-ltb f.position p h.0, lt-ltb p (end f) h.1)),
)

-- A nonzero offer clashes with a stored interval exactly when they share a bit.
pub clash-exactly : (e f : Entry) → 0 < e.size → (clashes e f ≡ true) ↔ ShareBit e f
unfolding clashes
clash-exactly e f n = rw (ne_eqb e.size 0 (λ z. omega arith)) (shares-exactly e f)

-- An offer of size 0 clashes exactly when it is strictly inside.
pub clash-empty-exactly : (e f : Entry) → e.size ≡ 0 → (clashes e f ≡ true) ↔ StrictlyInside e.position f
unfolding clashes
clash-empty-exactly e f z = rw (eq-eqb e.size 0 z) (inside-exactly e.position f)
