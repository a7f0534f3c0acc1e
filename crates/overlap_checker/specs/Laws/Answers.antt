-- Laws that Theorems/Answers rests on.
use Rattle.std.specs.Prelude.{◌≡◌, true, false, ℕ, ◌≤◌, ◌<◌, Err}
use Rattle.std.proofs.Common.{arith, lt-ltb, le-ltb, le-leb}
use Rattle.std.proofs.lemmas.Bool.{lt-leb}
use Rattle.prelude.specs.Laws.Bools.{unlike}
use Rattle.prelude.specs.Limits.{max_stored}
use Rattle.prelude.specs.declared.Refusal.{Refusal}
use Rattle.prelude.specs.Verdict.{Accepted}
use Rattle.overlap_checker.specs.Offers.{lacks_room}

-- ---- room

module _ (intervals marks size : ℕ) where
  pub room-below : 0 < size → intervals < max_stored → lacks_room intervals marks size ≡ false
  unfolding lacks_room
  room-below n h = rw (lt-ltb 0 size n) (lt-leb max_stored intervals h)

  pub no_room : 0 < size → max_stored ≤ intervals → lacks_room intervals marks size ≡ true
  unfolding lacks_room
  no_room n h = rw (lt-ltb 0 size n) (le-leb max_stored intervals h)

  pub mark-room : size ≡ 0 → marks < max_stored → lacks_room intervals marks size ≡ false
  unfolding lacks_room
  mark-room z h = rw (le-ltb 0 size (omega arith)) (lt-leb max_stored marks h)

  pub no-mark-room : size ≡ 0 → max_stored ≤ marks → lacks_room intervals marks size ≡ true
  unfolding lacks_room
  no-mark-room z h = rw (le-ltb 0 size (omega arith)) (le-leb max_stored marks h)

-- accepted is not refused
pub not-both : {r : Refusal} → Accepted ≡ Err r → ⊥
not-both e = unlike cc
