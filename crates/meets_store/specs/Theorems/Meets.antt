-- `dk_offer` says the sentences: what it ensures, its own contract, is over the same record, with nothing between. Of the arrays it is known that they
-- have 512 places, as their type says.
use Rattle.std.proofs.Common.{sym, ap, subst}
use Rattle.std.specs.Prelude.{List, ℕ}
use Rattle.overlap_checker.specs.declared.Entry.{Entry}
use Rattle.overlap_checker.specs.Lent.{lent}
use Rattle.c_answers.specs.declared.DkOffer.{DkOffer}
use Rattle.c_model.specs.Stores.{OfferTold}
use Rattle.says.specs.Store.{Store, Arrays, Outcome, OfferSays}
use Rattle.meets_store.specs.Laws.Call.{call-says}

abbrev pub outcome : DkOffer → List ℕ → List ℕ → List ℕ → Outcome
outcome r positions sizes marks = record { answer = r; positions = positions; sizes = sizes; marks = marks }

-- a store s and an offer e, the answer r, and the three arrays afterwards
pub offer-meets : (s : Store) (e : Entry) (r : DkOffer) (positions sizes marks : List ℕ) → Arrays s
    → OfferTold (lent s.positions s.sizes s.count s.marks s.mark_count) e r (lent positions sizes r.count marks r.marks)
    → OfferSays s e (outcome r positions sizes marks)
offer-meets s e r positions sizes marks arrays told =
    subst (OfferSays s e) (ap (λ (x : DkOffer). outcome x positions sizes marks) (sym told.answer))
    (call-says s e arrays (lent positions sizes r.count marks r.marks) told.left)
