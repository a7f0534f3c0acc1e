-- Every call has an outcome, and so has every list of offers: one list of those accepted, and one store left.
use Rattle.std.specs.Prelude.{◌≡◌, refl, List, [], ◌∷◌}
use Rattle.std.proofs.Common.{ap, ◌∙◌, subst, ⊎_elim, arith}
use Rattle.sort.specs.Laws.Sorted.{le-or-lt}
use Rattle.overlap_checker.specs.declared.Entry.{Entry}
use Rattle.says.specs.Store.{Store, Arrays, Outcome, OfferSays}
use Rattle.says.specs.Offers.{handed}
use Rattle.meets_store.specs.Calls as c
use Rattle.meets_store.specs.Calls.{Calls}
use Rattle.meets_store.specs.Laws.Turns.{arrays-kept, made, made-says}
use Rattle.meets_store.specs.Theorems.Decides.{offer-decides}

pub some-outcome : (s : Store) (e : Entry) → Arrays s → (y : Outcome) × OfferSays s e y
some-outcome s e a = (made s e, made-says s e a)

pub some-run : (s : Store) (es : List Entry) → Arrays s → (accepted : List Entry) × (t : Store) × Calls s es accepted t
some-run s [] a = ([], s, c.none)
some-run s (e ∷ es) a =
    let (y, says) = some-outcome s e a in
    let (accepted, t, run) = some-run (handed y) es (arrays-kept a says) in
    ⊎_elim (λ le. (e ∷ accepted, t, c.accepts says (omega arith) run)) (λ gt. (accepted, t, c.refuses says (λ z. omega arith) run))
    (le-or-lt y.answer.refusal 0)

pub one-run : {s t u : Store} {es xs bs : List Entry} → Calls s es xs t → Calls s es bs u → (xs ≡ bs) × (t ≡ u)
one-run c.none c.none = (refl, refl)
one-run {s} {u = u} (c.accepts {e = e} {es = es} {y = y} p z r) (c.accepts {accepted = bs} {y = x} q k o) =
    let (a, b) = one-run r (subst (λ (i : Outcome). Calls (handed i) es bs u) (offer-decides s e x y q p) o) in
    (ap (λ (l : List Entry). e ∷ l) a, b)
one-run {s} (c.accepts {e = e} {y = y} p z r) (c.refuses {y = x} q k o) = absurd (k (ap (λ (i : Outcome). i.answer.refusal) (offer-decides s e x y q p) ∙ z))
one-run {s} (c.refuses {e = e} {y = y} p z r) (c.accepts {y = x} q k o) = absurd (z (ap (λ (i : Outcome). i.answer.refusal) (offer-decides s e y x p q) ∙ k))
one-run {s} {u = u} {bs = bs} (c.refuses {e = e} {es = es} {y = y} p z r) (c.refuses {y = x} q k o) =
    one-run r (subst (λ (i : Outcome). Calls (handed i) es bs u) (offer-decides s e x y q p) o)
