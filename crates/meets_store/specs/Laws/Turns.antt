-- An outcome that meets the sentences is the definition's, so that calls in turn by the sentences are calls in turn by the definition.
use Rattle.std.specs.Prelude.{◌≡◌, refl, false, List, [], ◌∷◌, ◌↔◌, ℕ, ◌<◌, Err}
use Rattle.std.proofs.Common.{sym, ap, ◌∙◌, arith}
use Rattle.prelude.specs.Told.{Told, gives, refuses, Nothing, told_number, told_verdict}
use Rattle.prelude.specs.Theorems.Told.{number-some}
use Rattle.prelude.specs.Refusals.{place_of}
use Rattle.prelude.specs.Verdict.{Verdict, Accepted}
use Rattle.overlap_checker.specs.declared.Entry.{Entry}
use Rattle.overlap_checker.specs.State.{after, is_accepted}
use Rattle.overlap_checker.specs.Lent as def
use Rattle.overlap_checker.specs.Lent.{Lent, state_in, laid_into, leaving, call_answer, call_figures}
use Rattle.overlap_checker.specs.Folds.{accepted_by, RefusedBy, CallsInTurn}
use Rattle.overlap_checker.specs.Theorems.Checks.{told-call}
use Rattle.c_answers.specs.Stores.{in_figures}
use Rattle.says.specs.Words.{refused, passed}
use Rattle.says.specs.Store as w
use Rattle.says.specs.Words.{Not}
use Rattle.says.specs.Store.{Store, Arrays, Outcome, OfferSays}
use Rattle.says.specs.Offers.{handed}
use Rattle.meets_store.specs.Calls as c
use Rattle.meets_store.specs.Calls.{Calls}
use Rattle.meets_store.specs.Laws.Held.{as_lent}
use Rattle.meets_store.specs.Laws.Call.{outcome_of, call-says}
use Rattle.meets_store.specs.Theorems.Decides.{offer-decides}

-- ---- arrays of 512 stay so
pub arrays-kept : {s : Store} {e : Entry} {y : Outcome} → Arrays s → OfferSays s e y → Arrays (handed y)
arrays-kept a (refused x m) = record { positions = a.positions; sizes = a.sizes; marks = a.marks }
arrays-kept a (passed n (refused i m)) = record { positions = a.positions; sizes = a.sizes; marks = a.marks }
arrays-kept a (passed n (passed o (refused i m))) = record { positions = a.positions; sizes = a.sizes; marks = a.marks }
arrays-kept a (passed n (passed o (passed p (refused x m)))) = record { positions = a.positions; sizes = a.sizes; marks = a.marks }
arrays-kept a (passed n (passed o (passed p (passed q (w.overlaps x m))))) = record { positions = a.positions; sizes = a.sizes; marks = a.marks }
arrays-kept a (passed n (passed o (passed p (passed q (w.full x m))))) = record { positions = a.positions; sizes = a.sizes; marks = a.marks }
arrays-kept a (passed n (passed o (passed p (passed q (w.stored x m k i f g))))) =
    record { positions = f.as_long ∙ a.positions; sizes = g.as_long ∙ a.sizes; marks = a.marks }
arrays-kept a (passed n (passed o (passed p (passed q (w.marked x m k i f))))) =
    record { positions = a.positions; sizes = a.sizes; marks = f.as_long ∙ a.marks }

-- ---- one call
module _ (s : Store) (e : Entry) where
  abbrev left : Lent
  left = leaving (call_answer (as_lent s) e) (laid_into (as_lent s) (after (state_in (as_lent s)) e)) (as_lent s)

  -- the definition's own outcome
  abbrev pub made : Outcome
  made = outcome_of (call_figures (as_lent s) e) left

  pub made-says : Arrays s → OfferSays s e made
  made-says a = call-says s e a left refl

  pub outcome-made : {y : Outcome} → Arrays s → OfferSays s e y → y ≡ made
  outcome-made {y} a says = offer-decides s e y made says (made-says a)

number_of : (t : Told Nothing) (m n : ℕ) → (in_figures t m n).refusal ≡ told_number t
number_of (gives x) m n = refl
number_of (refuses k p) m n = refl

counts_of : (t : Told Nothing) (b : Lent) → as_lent (handed (outcome_of t b)) ≡ b
counts_of (gives x) b = refl
counts_of (refuses k p) b = refl

module _ {s : Store} {e : Entry} {y : Outcome} (a : Arrays s) (says : OfferSays s e y) where
  pub call-made : def.Calls (as_lent s) e (call_answer (as_lent s) e) (as_lent (handed y))
  call-made =
      record {
        verdict = refl;
        told = told-call (as_lent s) e;
        left = ap (λ (x : Outcome). as_lent (handed x)) (outcome-made s e a says) ∙ counts_of (call_figures (as_lent s) e) (left s e);
      }

  -- the answer's number
  pub number_is : y.answer.refusal ≡ told_number (told_verdict (call_answer (as_lent s) e))
  number_is =
      ap (λ (x : Outcome). x.answer.refusal) (outcome-made s e a says)
      ∙ number_of (call_figures (as_lent s) e) (left s e).count (left s e).mark_count
      ∙ ap told_number (sym (told-call (as_lent s) e))

-- ---- numbers and verdicts
pub by_number : (v : Verdict) (n : ℕ) → 0 < n → RefusedBy n v ↔ (told_number (told_verdict v) ≡ n)
by_number v n some = ((λ r. ap told_number r.1), from v)
  where
    from : (v : Verdict) → told_number (told_verdict v) ≡ n → RefusedBy n v
    from Accepted e = absurd (omega arith)
    from (Err why) e = (place_of why, ap (λ (k : ℕ). refuses k (place_of why)) e)

pub accepted-by : (v : Verdict) → told_number (told_verdict v) ≡ 0 → v ≡ Accepted
accepted-by Accepted e = refl
accepted-by (Err why) e = absurd (omega (arith, number-some why))

refused-by : (v : Verdict) → Not (told_number (told_verdict v) ≡ 0) → is_accepted v ≡ false
refused-by Accepted n = absurd (n refl)
refused-by (Err why) n = refl

-- ---- calls in turn
pub record Turned (s : Store) (es accepted : List Entry) (t : Store) : Type 0 where
  pub verdicts : List (Verdict)
  pub run : CallsInTurn (as_lent s) es verdicts (as_lent t)
  pub same : accepted_by es verdicts ≡ accepted
  pub arrays : Arrays t

pub turned : {s t : Store} {es accepted : List Entry} → Arrays s → Calls s es accepted t → Turned s es accepted t
unfolding accepted_by
turned a c.none = record { verdicts = []; run = refl; same = refl; arrays = a }
turned {s} a (c.accepts {e = e} {y = y} says zero run) =
    let rest = turned (arrays-kept a says) run in
    let given : call_answer (as_lent s) e ≡ Accepted = accepted-by (call_answer (as_lent s) e) (sym (number_is a says) ∙ zero) in
    record {
      verdicts = call_answer (as_lent s) e ∷ rest.verdicts;
      run = (as_lent (handed y), call-made a says, rest.run);
      same = rw given (ap (λ (l : List Entry). e ∷ l) rest.same);
      arrays = rest.arrays;
    }
turned {s} a (c.refuses {e = e} {y = y} says some run) =
    let rest = turned (arrays-kept a says) run in
    let given : is_accepted (call_answer (as_lent s) e) ≡ false = refused-by (call_answer (as_lent s) e) (λ z. some (number_is a says ∙ z)) in
    record {
      verdicts = call_answer (as_lent s) e ∷ rest.verdicts;
      run = (as_lent (handed y), call-made a says, rest.run);
      same = rw given rest.same;
      arrays = rest.arrays;
    }
