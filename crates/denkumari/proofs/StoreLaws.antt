-- The store's answer, told in numbers; and the uniqueness of `dk_offer` over its own contract.
use mathlib.Core.Path.{◌≡◌, refl, sym, ap, ap₂, ◌∙◌}
use mathlib.Core.List.{List}
use Prim.Native.Nat.{ℕ}
use Rattle.prelude.specs.Told.{Told, gives, refuses, Nothing, told_verdict}
use Rattle.prelude.specs.Verdict.{Verdict}
use Rattle.overlap_checker.specs.declared.Entry.{Entry}
use Rattle.overlap_checker.specs.State.{after}
use Rattle.overlap_checker.specs.Lent.{Lent, lent, state_in, laid_into, leaving, call_figures, Calls}
use Rattle.c_model.specs.Stores.{OfferTold}
use Rattle.c_answers.specs.Stores.{in_figures}
use Rattle.c_answers.specs.declared.DkOffer.{DkOffer}

counts-told : (t : Told Nothing) (k j : ℕ) → ((in_figures t k j).count ≡ k) × ((in_figures t k j).marks ≡ j)
counts-told (gives x) k j = (refl, refl)
counts-told (refuses number place) k j = (refl, refl)

pub told-call : (a : Lent) (e : Entry) (v : Verdict) (positions sizes : List ℕ) (k : ℕ) (marks : List ℕ) (j : ℕ) (r : DkOffer)
    → Calls a e v (lent positions sizes k marks j) → r ≡ in_figures (told_verdict v) k j
    → OfferTold a e r (lent positions sizes r.count marks r.marks)
told-call a e v positions sizes k marks j r call is =
    let figures = is ∙ ap (λ (t : Told Nothing). in_figures t k j) call.told in
    let counts = counts-told (call_figures a e) k j in
    let same : r.count ≡ k = ap (λ (x : DkOffer). x.count) figures ∙ counts.0 in
    let also : r.marks ≡ j = ap (λ (x : DkOffer). x.marks) figures ∙ counts.1 in
    record {
      answer = figures ∙ ap₂ (in_figures (call_figures a e)) (sym same) (sym also);
      left =
          ap₂ (λ (n m : ℕ). lent positions sizes n marks m) same also
          ∙ call.left
          ∙ ap (λ (w : Verdict). leaving w (laid_into a (after (state_in a) e)) a) call.verdict;
    }
