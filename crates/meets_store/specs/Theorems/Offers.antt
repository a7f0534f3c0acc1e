-- `dk_offers`: by its contract it says the sentences (`offers-meet`), they leave one outcome (`offers-decide`), all accepted it is so many calls of `dk_offer`
-- one after the other (`all-are-calls`), and a refused call changes nothing that is lent (`refused-changes-none`).
use Rattle.std.specs.Prelude.{◌≡◌, refl, List, ℕ, zero, suc, ◌≤◌, ◌<◌, length, Err}
use Rattle.std.proofs.Common.{sym, ap, subst, ◌∙◌, ⊎_elim, arith}
use Rattle.sort.specs.Laws.Sorted.{le-or-lt}
use Rattle.prelude.specs.Told.{Told, Nothing, told_verdict}
use Rattle.prelude.specs.Theorems.Told.{number-some}
use Rattle.prelude.specs.declared.Refusal.TheVariants.{BadStore}
use Rattle.prelude.specs.Verdict.{Verdict}
use Rattle.overlap_checker.specs.declared.Entry.{Entry}
use Rattle.overlap_checker.specs.Interval.{interval}
use Rattle.overlap_checker.specs.State.{after}
use Rattle.overlap_checker.specs.Lent.{Lent, lent, Sound, state_in, laid_into, leaving, call_answer, Calls}
use Rattle.overlap_checker.specs.Laws.Checks.{sound-fine}
use Rattle.overlap_checker.proofs.Kept.{called-refused}
use Rattle.overlap_lent.specs.Many as m
use Rattle.overlap_lent.specs.Many.{Taken, Ends, Takes}
use Rattle.c_answers.specs.Stores.{in_figures, numbered}
use Rattle.c_answers.specs.declared.DkOffered.{DkOffered}
use Rattle.meets.specs.Laws.Words.{OneOnly, tries-one, first_one}
use Rattle.says.specs.Words.{Tries, refused, passed, First, Not}
use Rattle.says.specs.Store as w
use Rattle.says.specs.Store.{Store, Arrays, Outcome, TooMany, BadEntry, BadMark, OfferSays}
use Rattle.says.specs.Offers as o
use Rattle.says.specs.Offers.{handed, Result, offer, Kept, turned, Lacking, Goes, OffersSay}
use Rattle.meets_store.specs.Laws.Held.{as_lent}
use Rattle.meets_store.specs.Laws.Call.{outcome_of, call-says, not-many, no-bad-entry, no-bad-mark}
use Rattle.meets_store.specs.Laws.Turns.{arrays-kept}
use Rattle.meets_store.specs.Theorems.Decides.{offer-decides}

module _ (s : Store) (starts lengths : List ℕ) where
  abbrev KeptTo : ℕ → Store → Type 0
  KeptTo = Kept s starts lengths

  abbrev at : ℕ → Entry
  at = offer s starts lengths

  -- ---- they leave one outcome

  kept-one : {n : ℕ} {t u : Store} → KeptTo n t → KeptTo n u → t ≡ u
  kept-one o.none o.none = refl
  kept-one {n = suc n} (o.one_more {t = t} {y = y} k p z) (o.one_more {t = u} {y = x} l q f) =
      ap handed (offer-decides t (at n) y x p (subst (λ (v : Store). OfferSays v (at n) x) (sym (kept-one k l)) q))

  -- one answer to offer n
  answer-one : {n : ℕ} {t u : Store} {x y : Outcome} → KeptTo n t → KeptTo n u → OfferSays t (at n) x → OfferSays u (at n) y → x ≡ y
  answer-one {n} {t} {u} {x} {y} k l p q = offer-decides t (at n) x y p (subst (λ (v : Store). OfferSays v (at n) y) (sym (kept-one k l)) q)

  -- an offer before those that were kept was accepted
  pub record AcceptedAt (n : ℕ) : Type 0 where
    pub given : Store
    pub outcome : Outcome
    pub before : KeptTo n given
    pub says : OfferSays given (at n) outcome
    pub zero-told : outcome.answer.refusal ≡ 0

  pub accepted-at : {n m : ℕ} {t : Store} → n < m → KeptTo m t → AcceptedAt n
  accepted-at h o.none = absurd (omega arith)
  accepted-at {n} {m = suc m} h (o.one_more {t = t} {y = y} k p z) =
      ⊎_elim
      (λ ge. let same : m ≡ n = omega arith in
      record {
        given = t;
        outcome = y;
        before = subst (λ (i : ℕ). KeptTo i t) same k;
        says = subst (λ (i : ℕ). OfferSays t (at i) y) same p;
        zero-told = z;
      })
      (λ lt. accepted-at lt k) (le-or-lt m n)

  not-both : {n m : ℕ} {t u : Store} {y : Outcome} → n < m → KeptTo m u → KeptTo n t → OfferSays t (at n) y → Not (y.answer.refusal ≡ 0) → ⊥
  not-both h l k p some =
      let a = accepted-at h l in
      some (ap (λ (x : Outcome). x.answer.refusal) (answer-one k a.before p a.says) ∙ a.zero-told)

  goes_one : OneOnly (Goes s starts lengths)
  goes_one y z (o.all-kept k) (o.all-kept l) =
      ap (λ (t : Store). record {
        answer = record { refusal = 0; place = 0; second = 0; count = t.count; marks = t.mark_count; offer = length starts };
        positions = t.positions;
        sizes = t.sizes;
        marks = t.marks;
      }) (kept-one k l)
  goes_one y z (o.all-kept k) (o.one-refused h l q some) = absurd (not-both h k l q some)
  goes_one y z (o.one-refused h k p some) (o.all-kept l) = absurd (not-both h l k p some)
  goes_one y z (o.one-refused {n} {t} {y = x} h k p some) (o.one-refused {n = j} {t = u} {y = v} g l q none) =
      ⊎_elim
      (λ le. ⊎_elim
      (λ ge. let same : j ≡ n = omega arith in
      same-refusal n x (answer-one k (subst (λ (i : ℕ). KeptTo i u) same l) p (subst (λ (i : ℕ). OfferSays u (at i) v) same q)) same)
      (λ lt. absurd (not-both lt k l q none)) (le-or-lt n j))
      (λ lt. absurd (not-both lt l k p some)) (le-or-lt j n)
    where
      same-refusal : (n : ℕ) (x : Outcome) {j : ℕ} {v : Outcome} → x ≡ v → j ≡ n
          → turned s starts lengths x.answer.refusal x.answer.place x.answer.second n
          ≡ turned s starts lengths v.answer.refusal v.answer.place v.answer.second j
      same-refusal n x e is = rw (is, e)

  lacking-one : (n j : ℕ) → Lacking s starts lengths n → Lacking s starts lengths j → turned s starts lengths 4 0 0 n ≡ turned s starts lengths 4 0 0 j
  lacking-one n j (o.a-size h) (o.a-size g) = refl
  lacking-one n j (o.a-size h) (o.a-position g) = absurd (omega arith)
  lacking-one n j (o.a-position h) (o.a-size g) = absurd (omega arith)
  lacking-one n j (o.a-position h) (o.a-position g) = refl

  -- Two outcomes that meet the sentences for one store and one list of offers are equal: the answer, and all three arrays.
  pub offers-decide : OneOnly (OffersSay s starts lengths)
  offers-decide =
      tries-one (λ (_ : Unit {0}). TooMany s) (λ _. turned s starts lengths 15 512 0 0) _ (λ a b m n. refl)
      (tries-one (First (BadEntry s)) (λ i. turned s starts lengths 15 i 0 0) _
      (λ i j f g. ap (λ (k : ℕ). turned s starts lengths 15 k 0 0) (first_one (BadEntry s) i j f g))
      (tries-one (First (BadMark s)) (λ i. turned s starts lengths 15 i 0 0) _
      (λ i j f g. ap (λ (k : ℕ). turned s starts lengths 15 k 0 0) (first_one (BadMark s) i j f g))
      (tries-one (Lacking s starts lengths) (λ n. turned s starts lengths 4 0 0 n) _ lacking-one goes_one)))

  -- ---- what follows from the sentences alone

  -- All accepted: each offer was accepted by `dk_offer`, given what the call before it left, and the call leaves what the last of them leaves.
  pub all-are-calls : {y : Result} → OffersSay s starts lengths y → y.answer.refusal ≡ 0
      → (t : Store) × KeptTo (length starts) t × (y ≡ (record {
        answer = record { refusal = 0; place = 0; second = 0; count = t.count; marks = t.mark_count; offer = length starts };
        positions = t.positions;
        sizes = t.sizes;
        marks = t.marks;
      }))
  all-are-calls (refused x m) is = absurd (omega arith)
  all-are-calls (passed n (refused i m)) is = absurd (omega arith)
  all-are-calls (passed n (passed f (refused i m))) is = absurd (omega arith)
  all-are-calls (passed n (passed f (passed g (refused i m)))) is = absurd (omega arith)
  all-are-calls (passed n (passed f (passed g (passed h (o.all-kept {t} k))))) is = (t, k, refl)
  all-are-calls (passed n (passed f (passed g (passed h (o.one-refused l k p some))))) is = absurd (some is)

  -- Refused: the three arrays, to the last place, and both counts are those given.
  pub refused-changes-none : {y : Result} → OffersSay s starts lengths y → Not (y.answer.refusal ≡ 0)
      → s ≡ (record { positions = y.positions; sizes = y.sizes; count = y.answer.count; marks = y.marks; mark_count = y.answer.marks })
  refused-changes-none (refused x m) some = refl
  refused-changes-none (passed n (refused i m)) some = refl
  refused-changes-none (passed n (passed f (refused i m))) some = refl
  refused-changes-none (passed n (passed f (passed g (refused i m)))) some = refl
  refused-changes-none (passed n (passed f (passed g (passed h (o.all-kept k))))) some = absurd (some refl)
  refused-changes-none (passed n (passed f (passed g (passed h (o.one-refused l k p none))))) some = refl

-- ---- the contract says them

abbrev as_store : Lent → Store
as_store a = record { positions = a.positions; sizes = a.sizes; count = a.count; marks = a.marks; mark_count = a.mark_count }

abbrev pub result_of : Verdict → ℕ → Lent → Result
result_of v n b =
    record {
      answer = numbered (in_figures (told_verdict v) b.count b.mark_count) n;
      positions = b.positions;
      sizes = b.sizes;
      marks = b.marks;
    }

-- one call of the definition says the sentence of `dk_offer`
said : (s : Store) (e : Entry) (v : Verdict) (b : Lent) → Arrays s → Calls (as_lent s) e v b → OfferSays s e (outcome_of (told_verdict v) b)
said s e v b arrays call =
    subst (λ (t : Told Nothing). OfferSays s e (outcome_of t b)) (sym call.told)
    (call-says s e arrays b
    (call.left ∙ ap (λ (x : Verdict). leaving x (laid_into (as_lent s) (after (state_in (as_lent s)) e)) (as_lent s)) call.verdict))

module _ (s : Store) (starts lengths : List ℕ) (arrays : Arrays s) where
  kept-said : {n : ℕ} {b : Lent} → Taken (as_lent s) starts lengths n b → Kept s starts lengths n (as_store b) × Arrays (as_store b)
  kept-said m.none = (o.none, arrays)
  kept-said (m.one_more {n} {b} {c} k call) =
      let (kept, wide) = kept-said k in
      let says = said (as_store b) (offer s starts lengths n) _ c wide call in
      (o.one_more kept says refl, arrays-kept wide says)

  -- 15 is told of the store, whatever is offered
  fifteen : {e : Entry} {y : Outcome} → OfferSays s e y → y.answer.refusal ≡ 15
      → OffersSay s starts lengths (turned s starts lengths 15 y.answer.place 0 0)
  fifteen (refused x m) is = refused x m
  fifteen (passed n (refused i m)) is = passed n (refused i m)
  fifteen (passed n (passed f (refused i m))) is = passed n (passed f (refused i m))
  fifteen (passed n (passed f (passed g (refused x m)))) is = absurd (omega arith)
  fifteen (passed n (passed f (passed g (passed h (w.overlaps x m))))) is = absurd (omega arith)
  fifteen (passed n (passed f (passed g (passed h (w.full x m))))) is = absurd (omega arith)
  fifteen (passed n (passed f (passed g (passed h (w.stored x m k i p q))))) is = absurd (omega arith)
  fifteen (passed n (passed f (passed g (passed h (w.marked x m k i p))))) is = absurd (omega arith)

  -- of a sound store it is not told
  module _ (sound : Sound (as_lent s)) where
    past-store : {y : Result} → Tries (Lacking s starts lengths) (λ n. turned s starts lengths 4 0 0 n) (Goes s starts lengths) y → OffersSay s starts lengths y
    past-store rest =
        let none = interval 0 0 in
        let fine = sound-fine (as_lent s) sound in
        passed (not-many s none arrays fine.few fine.few_marks)
        (passed (no-bad-entry s none arrays fine.few fine.none)
        (passed (no-bad-mark s none arrays fine) rest))

    -- nor 4 of lists of one length
    past-lists : {y : Result} → length starts ≡ length lengths → Goes s starts lengths y → OffersSay s starts lengths y
    past-lists same goes = past-store (passed even goes)
      where
        even : (n : ℕ) → Lacking s starts lengths n → ⊥
        even n (o.a-size h) = omega (arith, same)
        even n (o.a-position h) = omega (arith, same)

  -- the offers in turn
  goes-said : {v : Verdict} {n : ℕ} {b : Lent} → Ends (as_lent s) starts lengths v n b → Goes s starts lengths (result_of v n (leaving v b (as_lent s)))
  goes-said (m.all k) = o.all-kept (kept-said k).0
  goes-said (m.stopped {n} {b} {c} {why} h k call) =
      let (kept, wide) = kept-said k in
      o.one-refused h kept (said (as_store b) (offer s starts lengths n) (Err why) c wide call) (λ z. omega (arith, number-some why, z))

  pub offers-meet : {v : Verdict} {n : ℕ} {b : Lent} → Takes (as_lent s) starts lengths v n b → OffersSay s starts lengths (result_of v n b)
  offers-meet (m.bad-store {place} bad) =
      let none = interval 0 0 in
      fifteen (said s none (Err (BadStore place)) (as_lent s) arrays
      (called-refused (as_lent s) none (Err (BadStore place)) (sym (bad none)) (BadStore place) refl)) refl
  offers-meet (m.sound-store sound (m.no_length h)) = past-store sound (refused (length lengths) (o.a-size h))
  offers-meet (m.sound-store sound (m.no_start h)) = past-store sound (refused (length starts) (o.a-position h))
  offers-meet {v} {n} {b} (m.sound-store sound (m.in-turn same ends left)) = past-lists sound same (rw left (goes-said ends))

-- an answer told in numbers, and the three arrays afterwards
pub offers-say : (s : Store) (starts lengths : List ℕ) (r : DkOffered) (v : Verdict) (n : ℕ) (positions sizes : List ℕ) (k : ℕ)
    (marks : List ℕ) (j : ℕ) → Arrays s → Takes (as_lent s) starts lengths v n (lent positions sizes k marks j) → r ≡ numbered (in_figures (told_verdict v) k j) n
    → OffersSay s starts lengths (record { answer = r; positions = positions; sizes = sizes; marks = marks })
offers-say s starts lengths r v n positions sizes k marks j arrays takes is =
    subst (λ (x : DkOffered). OffersSay s starts lengths (record { answer = x; positions = positions; sizes = sizes; marks = marks })) (sym is)
    (offers-meet s starts lengths arrays takes)
