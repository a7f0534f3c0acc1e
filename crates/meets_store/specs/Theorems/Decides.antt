-- The sentences leave one outcome, from the sentences alone.
use Rattle.std.specs.Prelude.{◌≡◌, refl, List, ℕ, zero, suc, ◌+◌, ◌≤◌, ◌<◌, get_or}
use Rattle.std.proofs.Common.{sym, ap, ap₂, ◌∙◌, ⊎_elim, arith, ext_get_or}
use Rattle.sort.specs.Laws.Sorted.{le-or-lt}
use Rattle.overlap_checker.specs.declared.Entry.{Entry}
use Rattle.meets.specs.Laws.Words.{OneOnly, tries-one, first_one}
use Rattle.says.specs.Words.{Tries, refused, passed, First}
use Rattle.says.specs.Store as w
use Rattle.says.specs.Store.{Store, Put, InOrder, start, size, TooMany, BadEntry, BadMark, PastLimits, Clash, Names}
use Rattle.says.specs.Store.{refusal, accepted, Answers, OfferSays}
use Rattle.meets_store.specs.Laws.Firsts.{none_so}

-- ---- a number goes to one place
place-one : {count number p q : ℕ} {old : List ℕ} → InOrder count number old p → InOrder count number old q → p ≡ q
place-one {p = p} {q = q} f g =
    ⊎_elim (λ le. ⊎_elim (λ ge. omega arith) (λ gt. absurd (omega (arith, f.above p (omega arith) (omega (arith, g.among)), g.below p gt))) (le-or-lt q p))
    (λ gt. absurd (omega (arith, g.above q (omega arith) (omega (arith, f.among)), f.below q gt)))
    (le-or-lt p q)

-- and leaves one list
put_one : {count place number : ℕ} {old a b : List ℕ} → place ≤ count → Put count place number old a → Put count place number old b → a ≡ b
put_one {count} {place} {number} {old} {a} {b} low f g = ext_get_or 0 a b (f.as_long ∙ sym g.as_long) (λ i h. at i)
  where
    after : (i : ℕ) → place < i → i ≤ count → get_or a i 0 ≡ get_or b i 0
    after zero h k = absurd (omega arith)
    after (suc i) h k = f.later i (omega arith) (omega arith) ∙ sym (g.later i (omega arith) (omega arith))

    at : (i : ℕ) → get_or a i 0 ≡ get_or b i 0
    at i =
        ⊎_elim
        (λ le. ⊎_elim (λ ge. let same : i ≡ place = omega arith in rw same (f.there ∙ sym g.there))
        (λ gt. ⊎_elim (λ in'. after i gt in') (λ out. f.past i out ∙ sym (g.past i out)) (le-or-lt i count))
        (le-or-lt i place))
        (λ lt. f.before i lt ∙ sym (g.before i lt))
        (le-or-lt place i)

module _ (s : Store) (e : Entry) where
  clash-stored : {i : ℕ} → Clash s e i → i < s.count
  clash-stored (w.shared h a b) = h
  clash-stored (w.inside h z a) = h

  -- ---- one is named
  module _ (sound : (i : ℕ) → BadEntry s i → ⊥) where
    -- of sound entries no two have one start
    start-one : {i j : ℕ} → i < s.count → j < s.count → start s i ≡ start s j → i ≡ j
    start-one {i} {j} h k same =
        ⊎_elim
        (λ le. ⊎_elim (λ ge. omega arith) (λ gt. absurd (sound j (w.not-ascending k gt (omega arith)))) (le-or-lt j i))
        (λ gt. absurd (sound i (w.not-ascending h gt (omega arith))))
        (le-or-lt i j)

    same-entry : {i j : ℕ} → i < s.count → j < s.count → start s i ≡ start s j
        → refusal s e 12 (start s i) (size s i) ≡ refusal s e 12 (start s j) (size s j)
    same-entry h k same = ap (λ (i : ℕ). refusal s e 12 (start s i) (size s i)) (start-one h k same)

    names-one : {y n z m : ℕ} → Names s e y n → Names s e z m → refusal s e 12 y n ≡ refusal s e 12 z m
    names-one (w.at-or-above {i} a l c) (w.at-or-above {i = j} b k d) =
        same-entry (clash-stored c) (clash-stored d) (omega (arith, l j (clash-stored d) b, k i (clash-stored c) a))
    names-one (w.at-or-above {i} a l c) (w.one_below b k d n) = absurd (n i a c)
    names-one (w.at-or-above {i} a l c) (w.lowest-mark b k n) = absurd (n i c)
    names-one (w.one_below a l c n) (w.at-or-above {i = j} b k d) = absurd (n j b d)
    names-one (w.one_below {i} a l c n) (w.one_below {i = j} b k d m) =
        same-entry (clash-stored c) (clash-stored d) (omega (arith, l j (clash-stored d) b, k i (clash-stored c) a))
    names-one (w.one_below {i} a l c n) (w.lowest-mark b k m) = absurd (m i c)
    names-one (w.lowest-mark a l n) (w.at-or-above {i = j} b k d) = absurd (n j d)
    names-one (w.lowest-mark a l n) (w.one_below {i = j} b k d m) = absurd (n j d)
    names-one (w.lowest-mark {i} a l n) (w.lowest-mark {i = j} b k m) =
        ap (λ (y : ℕ). refusal s e 12 y 0) (omega (arith, l j b, k i a))

    -- ---- one answer
    answers_one : OneOnly (Answers s e)
    answers_one y z (w.overlaps o n) (w.overlaps p m) = names-one n m
    answers_one y z (w.overlaps o n) (w.full none f) = absurd (none o)
    answers_one y z (w.overlaps o n) (w.stored none r k i p q) = absurd (none o)
    answers_one y z (w.overlaps o n) (w.marked none r k i p) = absurd (none o)
    answers_one y z (w.full none f) (w.overlaps p m) = absurd (none p)
    answers_one y z (w.full none f) (w.full never g) = refl
    answers_one y z (w.full none f) (w.stored never r k i p q) = absurd (r f)
    answers_one y z (w.full none f) (w.marked never r k i p) = absurd (r f)
    answers_one y z (w.stored none r k i p q) (w.overlaps o n) = absurd (none o)
    answers_one y z (w.stored none r k i p q) (w.full never f) = absurd (r f)
    answers_one y z (w.stored {place} none r k i p q) (w.stored {place = place'} {positions' = ps} {sizes' = zs} never r' k' i' p' q') =
        let same : place' ≡ place = place-one i' i in
        let p'' : Put s.count place e.position s.positions ps = rw same at p' in
        let q'' : Put s.count place e.size s.sizes zs = rw same at q' in
        ap₂ (λ (x l : List ℕ). accepted s e (s.count + 1) s.mark_count x l s.marks) (put_one i.among p p'') (put_one i.among q q'')
    answers_one y z (w.stored none r k i p q) (w.marked never r' k' i' p') = absurd (omega arith)
    answers_one y z (w.marked none r k i p) (w.overlaps o n) = absurd (none o)
    answers_one y z (w.marked none r k i p) (w.full never f) = absurd (r f)
    answers_one y z (w.marked none r k i p) (w.stored never r' k' i' p' q') = absurd (omega arith)
    answers_one y z (w.marked {place} none r k i p) (w.marked {place = place'} {marks' = ms} never r' k' i' p') =
        let same : place' ≡ place = place-one i' i in
        let p'' : Put s.mark_count place e.position s.marks ms = rw same at p' in
        ap (λ (x : List ℕ). accepted s e s.count (s.mark_count + 1) s.positions s.sizes x) (put_one i.among p p'')

  -- Two outcomes that meet the sentences for one store and one offer are equal: the answer, and all three arrays.
  pub offer-decides : OneOnly (OfferSays s e)
  offer-decides =
      tries-one (λ (_ : Unit {0}). TooMany s) (λ _. refusal s e 15 512 0) _ (λ a b m n. refl) fewer
    where
      rest : ((i : ℕ) → First (BadEntry s) i → ⊥) → OneOnly (Tries (First (BadMark s)) (λ i. refusal s e 15 i 0)
          (Tries (λ (_ : Unit {0}). PastLimits s e) (λ _. refusal s e 4 0 0) (Answers s e)))
      rest none =
          tries-one (First (BadMark s)) (λ i. refusal s e 15 i 0) _ (λ i j f g. ap (λ (k : ℕ). refusal s e 15 k 0) (first_one (BadMark s) i j f g))
          (tries-one (λ (_ : Unit {0}). PastLimits s e) (λ _. refusal s e 4 0 0) _ (λ a b m n. refl) (answers_one (none_so (BadEntry s) none)))

      fewer : OneOnly (Tries (First (BadEntry s)) (λ i. refusal s e 15 i 0) (Tries (First (BadMark s)) (λ i. refusal s e 15 i 0)
          (Tries (λ (_ : Unit {0}). PastLimits s e) (λ _. refusal s e 4 0 0) (Answers s e))))
      fewer y z (refused i f) (refused j g) =
          ap (λ (k : ℕ). refusal s e 15 k 0) (first_one (BadEntry s) i j f g)
      fewer y z (refused i f) (passed none t) = absurd (none i f)
      fewer y z (passed none t) (refused j g) = absurd (none j g)
      fewer y z (passed none t) (passed never u) = rest none y z t u
