-- Laws that proofs about WhatIsStored need.
use Rattle.std.specs.Prelude.{◌≡◌, refl, true, false, ℕ, ◌<◌, ltb, Err}
use Rattle.std.proofs.Common.{sym, ◌∙◌, ap, arith, lt-ltb, le-ltb, ltb-false}
use Rattle.std.proofs.Math.Logic.{⊎_elim}
use mathlib.Core.List.Memᴰ
use mathlib.Core.List.{List, [], ◌∷◌, ◌++◌, Memᴰ, Permᴰ}
use Rattle.prelude.specs.Pick.{pick}
use Rattle.prelude.specs.Verdict.{Verdict, Accepted}
use Rattle.overlap_checker.specs.declared.Entry.{Entry}
use Rattle.overlap_checker.specs.State.{State, empty_state, answer, is_accepted, keeping, after}
use Rattle.overlap_checker.specs.Folds.{state_after, answers, accepted_by, accepted, nonzero, empties}
use Rattle.overlap_checker.specs.Laws.Ascending.{told}
use Rattle.overlap_checker.specs.Theorems.Answers.{accepted-keeps, refused-keeps}
use Rattle.overlap_checker.specs.WhatIsStored.{one_more, one-more-mark}

module _ (s : State) (e : Entry) (later : List Entry) (t : List ℕ) where
  mark-step : (v : Verdict) → answer s e 0 ≡ v → Permᴰ t (empties later ++ (after s e).marks)
      → Permᴰ t (empties (pick (is_accepted v) (e ∷ later) later) ++ s.marks)
  unfolding empties keeping
  mark-step Accepted is p =
      let q : Permᴰ t (empties later ++ (keeping s e).marks) = rw (accepted-keeps s e 0 is) at p in
      ⊎_elim
      (λ bits. rw bits (rw bits at q))
      (λ none. rw none
      (mathlib.Core.List.Permᴰ.trans (rw none at q)
      (mathlib.Core.List.Permᴰ.trans (mathlib.Core.List.Permᴰ.append_left (empties later) (one-more-mark s.marks e.position))
      (mathlib.Core.List.Permᴰ.middle e.position (empties later) s.marks))))
      (told (ltb 0 e.size))
  mark-step (Err why) is p = rw (refused-keeps s e 0 why is) at p

module _ (s : State) (e : Entry) (later t : List Entry) where
  step : (v : Verdict) → answer s e 0 ≡ v → Permᴰ t (nonzero later ++ (after s e).intervals)
      → Permᴰ t (nonzero (pick (is_accepted v) (e ∷ later) later) ++ s.intervals)
  unfolding nonzero keeping
  step Accepted is p =
      let q : Permᴰ t (nonzero later ++ (keeping s e).intervals) = rw (accepted-keeps s e 0 is) at p in
      ⊎_elim
      (λ bits. rw bits
      (mathlib.Core.List.Permᴰ.trans (rw bits at q)
      (mathlib.Core.List.Permᴰ.trans (mathlib.Core.List.Permᴰ.append_left (nonzero later) (one_more s.intervals e))
      (mathlib.Core.List.Permᴰ.middle e (nonzero later) s.intervals))))
      (λ none. rw none (rw none at q))
      (told (ltb 0 e.size))
  step (Err why) is p = rw (refused-keeps s e 0 why is) at p

-- ---- any list of offers

-- What is stored afterwards is the accepted offers of nonzero size and what was stored before, in some order.
pub stored-after : (s : State) (es : List Entry) → Permᴰ (state_after s es).intervals (nonzero (accepted s es) ++ s.intervals)
unfolding state_after answers accepted_by nonzero
stored-after s [] = mathlib.Core.List.Permᴰ.refl s.intervals
stored-after s (e ∷ es) =
    step s e (accepted (after s e) es) (state_after (after s e) es).intervals (answer s e 0) refl (stored-after (after s e) es)

-- From the empty store: what is stored is exactly the accepted offers of nonzero size, in some order.
pub stored-is-accepted : (es : List Entry) → Permᴰ (state_after empty_state es).intervals (nonzero (accepted empty_state es))
stored-is-accepted es = mathlib.Core.List.Permᴰ.trans (stored-after empty_state es) (mathlib.Core.List.Permᴰ.append-nil (nonzero (accepted empty_state es)))

-- The marks afterwards are the positions of the accepted offers of size 0 and the marks before, in some order.
pub marks-after : (s : State) (es : List Entry) → Permᴰ (state_after s es).marks (empties (accepted s es) ++ s.marks)
unfolding state_after answers accepted_by empties
marks-after s [] = mathlib.Core.List.Permᴰ.refl s.marks
marks-after s (e ∷ es) =
    mark-step s e (accepted (after s e) es) (state_after (after s e) es).marks (answer s e 0) refl (marks-after (after s e) es)

-- From the empty store: the marks are exactly the positions of the accepted offers of size 0, in some order.
pub marks-are-accepted : (es : List Entry) → Permᴰ (state_after empty_state es).marks (empties (accepted empty_state es))
marks-are-accepted es = mathlib.Core.List.Permᴰ.trans (marks-after empty_state es) (mathlib.Core.List.Permᴰ.append-nil (empties (accepted empty_state es)))

-- ---- members

permuted : {A : Type 0} {f : A} {l m : List A} → Permᴰ l m → Memᴰ f l → Memᴰ f m
permuted mathlib.Core.List.Permᴰ.nil a = a
permuted (mathlib.Core.List.Permᴰ.cons e p) a =
    ⊎_elim (λ h. Memᴰ.head (h ∙ e)) (λ r. Memᴰ.tail (permuted p r)) (Memᴰ.cases_cons a)
permuted (mathlib.Core.List.Permᴰ.swap e g) a =
    ⊎_elim (λ h. Memᴰ.tail (Memᴰ.head (h ∙ e)))
    (λ r. ⊎_elim (λ h. Memᴰ.head (h ∙ g)) (λ q. Memᴰ.tail (Memᴰ.tail q)) (Memᴰ.cases_cons r))
    (Memᴰ.cases_cons a)
permuted (mathlib.Core.List.Permᴰ.trans p q) a = permuted q (permuted p a)

of-nonzero : (f : Entry) (l : List Entry) → Memᴰ f (nonzero l) → Memᴰ f l
unfolding nonzero
of-nonzero f [] m = m
of-nonzero f (g ∷ l) m =
    ⊎_elim
    (λ bits. ⊎_elim (λ h. Memᴰ.head h) (λ r. Memᴰ.tail (of-nonzero f l r)) (Memᴰ.cases_cons (rw bits at m)))
    (λ none. Memᴰ.tail (of-nonzero f l (rw none at m)))
    (told (ltb 0 g.size))

to-nonzero : (f : Entry) (l : List Entry) → 0 < f.size → Memᴰ f l → Memᴰ f (nonzero l)
unfolding nonzero
to-nonzero f [] n m = m
to-nonzero f (g ∷ l) n m =
    ⊎_elim
    (λ same. let bits : ltb 0 g.size ≡ true = rw (← same) (lt-ltb 0 f.size n) in rw bits (Memᴰ.head same))
    (λ r. let rest = to-nonzero f l n r in
    ⊎_elim (λ bits. rw bits (Memᴰ.tail rest)) (λ none. rw none rest) (told (ltb 0 g.size)))
    (Memᴰ.cases_cons m)

-- Every stored interval is an offer that was accepted.
pub stored-accepted : (es : List Entry) (f : Entry) → Memᴰ f (state_after empty_state es).intervals → Memᴰ f (accepted empty_state es)
stored-accepted es f m = of-nonzero f (accepted empty_state es) (permuted (stored-is-accepted es) m)

-- Every accepted offer of nonzero size is stored.
pub accepted-stored : (es : List Entry) (f : Entry) → 0 < f.size → Memᴰ f (accepted empty_state es)
    → Memᴰ f (state_after empty_state es).intervals
accepted-stored es f n m = permuted (mathlib.Core.List.Permᴰ.symm (stored-is-accepted es)) (to-nonzero f (accepted empty_state es) n m)

of-empties : (m : ℕ) (l : List Entry) → Memᴰ m (empties l) → (f : Entry) × Memᴰ f l × (f.size ≡ 0) × (f.position ≡ m)
unfolding empties
of-empties m [] i = absurd (Memᴰ.not-nil i)
of-empties m (g ∷ l) i =
    ⊎_elim
    (λ bits. let r = of-empties m l (rw bits at i) in (r.0, Memᴰ.tail r.1, r.2, r.3))
    (λ none. ⊎_elim
    (λ same. (g, Memᴰ.head refl, (let z = ltb-false 0 g.size none in omega (arith, z)), sym same))
    (λ rest. let r = of-empties m l rest in (r.0, Memᴰ.tail r.1, r.2, r.3))
    (Memᴰ.cases_cons (rw none at i)))
    (told (ltb 0 g.size))

to-empties : (f : Entry) (l : List Entry) → f.size ≡ 0 → Memᴰ f l → Memᴰ f.position (empties l)
unfolding empties
to-empties f [] z i = absurd (Memᴰ.not-nil i)
to-empties f (g ∷ l) z i =
    ⊎_elim
    (λ same. let none : ltb 0 g.size ≡ false = rw (← same) (le-ltb 0 f.size (omega (arith, z))) in
    rw none (Memᴰ.head (ap (λ (e : Entry). e.position) same)))
    (λ r. let rest = to-empties f l z r in
    ⊎_elim (λ bits. rw bits rest) (λ none. rw none (Memᴰ.tail rest)) (told (ltb 0 g.size)))
    (Memᴰ.cases_cons i)

-- Every mark is an offer of size 0 that was accepted.
pub mark-accepted : (es : List Entry) (m : ℕ) → Memᴰ m (state_after empty_state es).marks
    → (f : Entry) × Memᴰ f (accepted empty_state es) × (f.size ≡ 0) × (f.position ≡ m)
mark-accepted es m i = of-empties m (accepted empty_state es) (permuted (marks-are-accepted es) i)

-- Every accepted offer of size 0 is a mark.
pub accepted-mark : (es : List Entry) (f : Entry) → f.size ≡ 0 → Memᴰ f (accepted empty_state es)
    → Memᴰ f.position (state_after empty_state es).marks
accepted-mark es f z i = permuted (mathlib.Core.List.Permᴰ.symm (marks-are-accepted es)) (to-empties f (accepted empty_state es) z i)
