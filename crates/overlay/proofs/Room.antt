-- A call as a whole, by the runs that are written.
use Rattle.std.specs.Prelude.{Ok, Err, Result}
use mathlib.Core.Path.{◌≡◌, refl, ap, ◌∙◌}
use mathlib.Core.Bool.{Bool, true, false}
use mathlib.Core.List.{List}
use Prim.Native.Nat.{ℕ}
use lib.ListN.{length}
use Rattle.prelude.specs.Pick.{pick}
use Rattle.prelude.specs.Told.{gives, refuses}
use Rattle.prelude.specs.declared.Place.TheVariants.{One}
use Rattle.prelude.specs.declared.Refusal.TheVariants.{Malformed, TooShort}
use Rattle.prelude.specs.declared.Refusal.{Refusal}
use Rattle.blocks.specs.Outcome.{room_for}
use Rattle.overlay.specs.Order.{in_order}
use Rattle.overlay.specs.List.{Written, told_listed, Lists}
use Rattle.overlay.specs.Runs.{runs_of}
use Rattle.overlay.specs.Trial.{Trial}

-- the answers of `write_runs`, in the document's figures
answer-told : (t : Bool) (n : ℕ) → told_listed (pick t (Ok n) (Err (TooShort 2))) ≡ pick t (gives n) (refuses 14 (One 2))
answer-told true n = refl
answer-told false n = refl

-- A whole call: refused at once, or as its runs are written.
module _ (t : Trial) (fs cs : List ℕ) where
  pub malformed : in_order 0 t.offsets t.sizes ≡ false → Lists t fs cs (Err (Malformed 0)) fs cs
  malformed e = record { answer = rw e; figures = rw e; first = rw e; second = rw e }

  pub well-formed : in_order 0 t.offsets t.sizes ≡ true → (r : Result ℕ Refusal) (fs₁ cs₁ : List ℕ) → Written (runs_of t) fs cs r fs₁ cs₁ → Lists t fs cs r fs₁ cs₁
  well-formed e r fs₁ cs₁ w =
      record {
        answer = rw e w.answer;
        figures = rw e (ap told_listed w.answer ∙ answer-told (room_for (runs_of t) fs cs) (length (runs_of t)));
        first = rw e w.first;
        second = rw e w.second;
      }
