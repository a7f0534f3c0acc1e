-- Laws that Theorems/Reordered rests on.
use Rattle.std.specs.Prelude.{◌≡◌, refl}
use Rattle.std.proofs.Common.{sym, ap, ◌∙◌, subst, ⊎_elim}
use Rattle.prelude.specs.Verdict.{Accepted, Verdict}
use mathlib.Core.List.Memᴰ
use mathlib.Core.List.{List, ◌∷◌, Permᴰ}
use Rattle.overlap_checker.specs.declared.Entry.{Entry}
use Rattle.overlap_checker.specs.State.{State, empty_state, answer, after}
use Rattle.overlap_checker.specs.Lent.{Lent, state_in, laid_into}
use Rattle.overlap_checker.specs.Folds.{state_after, answers, AllWithin, CallsInTurn}
use Rattle.overlap_checker.proofs.GoingLaws.{Fits, fits_after}
use Rattle.overlap_checker.proofs.Exchange.{either_order}
use Rattle.overlap_checker.proofs.Demand3Calls as calls
use Rattle.overlap_checker.specs.Reordered.{AllAccepted, HoldsNothing}

-- a reordering of offers within the limits is within the limits
pub reordered-within : {xs ys : List Entry} → Permᴰ xs ys → AllWithin xs → AllWithin ys
reordered-within Permᴰ.nil all = all
reordered-within (Permᴰ.cons e p) all =
    λ f m. ⊎_elim (λ h. all f (Memᴰ.head (h ∙ sym e))) (λ r. reordered-within p (λ g k. all g (Memᴰ.tail k)) f r)
    (Memᴰ.cases_cons m)
reordered-within (Permᴰ.swap e g) all =
    λ f m. ⊎_elim (λ h. all f (Memᴰ.tail (Memᴰ.head (h ∙ sym g))))
    (λ r. ⊎_elim (λ h. all f (Memᴰ.head (h ∙ sym e))) (λ k. all f (Memᴰ.tail (Memᴰ.tail k))) (Memᴰ.cases_cons r))
    (Memᴰ.cases_cons m)
reordered-within (Permᴰ.trans p q) all = reordered-within q (reordered-within p all)

-- ---- from any sound state

pub record Alike (s : State) (xs ys : List Entry) : Type 0 where
  pub whole : AllAccepted (answers s ys)
  pub same : state_after s ys ≡ state_after s xs

first_alike : (s : State) (a b : Entry) (xs ys : List Entry) → a ≡ b → answer s a 0 ≡ Accepted → Alike (after s a) xs ys
    → Alike s (a ∷ xs) (b ∷ ys)
unfolding answers state_after
first_alike s a b xs ys e given r = rw (← e) (record { whole = (given, r.whole); same = r.same })

two-alike : (s : State) (a b : Entry) (l : List Entry) → AllWithin (a ∷ b ∷ l) → Fits s → AllAccepted (answers s (a ∷ b ∷ l))
    → Alike s (a ∷ b ∷ l) (b ∷ a ∷ l)
unfolding answers state_after
two-alike s a b l all fits whole =
    let w = either_order s a b fits (all a (Memᴰ.head refl)) (all b (Memᴰ.tail (Memᴰ.head refl))) whole.0 whole.1.0 in
    record {
      whole = (w.first, (w.second, subst (λ (t : State). AllAccepted (answers t l)) (sym w.same) whole.1.1));
      same = ap (λ (t : State). state_after t l) w.same;
    }

first-given : (s : State) (a : Entry) (l : List Entry) → AllAccepted (answers s (a ∷ l))
    → (answer s a 0 ≡ Accepted) × AllAccepted (answers (after s a) l)
unfolding answers
first-given s a l whole = whole

pub alike : {xs ys : List Entry} → Permᴰ xs ys → (s : State) → AllWithin xs → Fits s → AllAccepted (answers s xs) → Alike s xs ys
alike Permᴰ.nil s all fits whole = record { whole = whole; same = refl }
alike (Permᴰ.cons {a = a} {b = b} {l₁ = xs} {l₂ = ys} e p) s all fits whole =
    let (given, rest) = first-given s a xs whole in
    first_alike s a b xs ys e given
    (alike p (after s a) (λ g k. all g (Memᴰ.tail k)) (fits_after s a (all a (Memᴰ.head refl)) fits) rest)
alike (Permᴰ.swap {a = a} {b = b} {l = l} e g) s all fits whole = rw (← e, ← g) (two-alike s a b l all fits whole)
alike (Permᴰ.trans p q) s all fits whole =
    let one = alike p s all fits whole in
    let two = alike q s (reordered-within p all) fits one.whole in
    record { whole = two.whole; same = two.same ∙ one.same }

-- calls in turn are the fold
module _ (a : Lent) (none : HoldsNothing a) (es : List Entry) (vs : List (Verdict)) (b : Lent) (all : AllWithin es) (run : CallsInTurn a es vs b) where
  pub said : vs ≡ answers empty_state es
  said = calls.answers-are a none.positions none.sizes none.marks none.count none.mark_count es vs b all run

  pub left : b ≡ laid_into a (state_after empty_state es)
  left = calls.lent_is a none.positions none.sizes none.marks none.count none.mark_count es vs b all run

  pub holds : state_in b ≡ state_after empty_state es
  holds = calls.state-is a none.positions none.sizes none.marks none.count none.mark_count es vs b all run
