-- What a call of `differences` leaves, by its contract: each refusal exactly when, in order, and then nothing lent is changed; else the
-- runs stand at the front, and what stands past them stays.
use Rattle.std.specs.Prelude.{◌≡◌, true, List, ◌↔◌, ℕ, ◌≤◌, length, Result, Ok, Err}
use Rattle.std.proofs.Common.{sym, ◌∙◌}
use Rattle.prelude.specs.Laws.Bools.{unlike}
use Rattle.prelude.specs.Pick.{pick}
use Rattle.prelude.specs.declared.Refusal.TheVariants.{TooShort}
use Rattle.prelude.specs.declared.Refusal.{Refusal}
use Rattle.blocks.specs.Outcome.{room_for}
use Rattle.blocks.specs.Theorems.Exactly.{room-exactly}
use Rattle.overlay.specs.Laws.CoverFacts.{either}
use Rattle.overlay.specs.List.{Lists}
use Rattle.overlay.specs.Order.{in_order, Acceptable}
use Rattle.overlay.specs.Theorems.Order.{in-order-exactly}
use Rattle.overlay.specs.Runs.{runs_of}
use Rattle.overlay.specs.Trial.{Trial}

module _ (t : Trial) (fs cs : List ℕ) (r : Result ℕ Refusal) (fs' cs' : List ℕ) (met : Lists t fs cs r fs' cs') where
  -- There is room for the runs in both of the lent slices.
  pub record Room : Type 0 where
    pub first : length (runs_of t) ≤ length fs
    pub second : length (runs_of t) ≤ length cs

  room-true : Room → room_for (runs_of t) fs cs ≡ true
  room-true m = (room-exactly (runs_of t) fs cs).1 (m.first, m.second)

  true-room : room_for (runs_of t) fs cs ≡ true → Room
  true-room e = let p = (room-exactly (runs_of t) fs cs).0 e in record { first = p.0; second = p.1 }

  -- After 4:
  module _ (ok : Acceptable t.offsets t.sizes) where
    order : in_order 0 t.offsets t.sizes ≡ true
    order = (in-order-exactly t.offsets t.sizes).1 ok

    answered : r ≡ pick (room_for (runs_of t) fs cs) (Ok (length (runs_of t))) (Err (TooShort 2))
    answered = rw order at met.answer

    -- "14 for a short list"
    pub list-refused-14-exactly : (r ≡ Err (TooShort 2)) ↔ (Room → ⊥)
    list-refused-14-exactly = (
      (λ e m. not_short (sym e ∙ (rw (room-true m) at answered))),
      (λ h. either (room_for (runs_of t) fs cs) (λ e. absurd (h (true-room e))) (λ e. rw e at answered)),
    )
      where
        not_short : Err (TooShort 2) ≡ Ok (length (runs_of t)) → ⊥
        not_short e = unlike cc
