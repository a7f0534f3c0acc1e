-- Runs: what is passed over, what a turn of the loop takes, and where the bytes may be cut in two.
use mathlib.Core.Path.{◌≡◌, refl, sym, ap, ap₂, ◌∙◌, subst}
use mathlib.Core.Bool.{Bool, true, false, not}
use mathlib.Core.List.{List, [], ◌∷◌, ◌++◌, append_assoc}
use Prim.Native.Nat.{ℕ, zero, suc, ◌+◌, ◌-◌, ◌≤◌, ◌<◌}
use native.Mathlib.Nat.{add-zero, zero-add, suc-add}
use native.Mathlib.Decide.{dec_lt}
use native.Mathlib.Omega.{arith}
use lib.Dec.{eqb}
use lib.ListN.{length, get_or, drop}
use Rattle.std.specs.List.{AllWithin, HoldsAt, between, zip}
use Rattle.std.specs.Option.{MatchOption}
use Rattle.std.proofs.Common.{Option, None, Some, unwrap_or}
use Rattle.std.proofs.lemmas.List.{length-take, length-drop, get_or-take, get_or-drop}
use Rattle.std.proofs.lemmas.Slice.Zip.{length-zip, get_or-zip}
use Rattle.prelude.specs.Pick.{pick}
use Rattle.blocks.specs.declared.Block.{Block}
use Rattle.blocks.specs.Walk.{block, kept}
use Rattle.blocks.specs.Laws.Put.{kept-none, kept-some}
use Rattle.overlay.specs.Runs.{length_from, begun, runs_from}
use Rattle.overlay.specs.Laws.RunFacts.{length-le, length-holds, length-stops}

module _ (test : ℕ → Bool) where
  -- ---- how far a test holds

  pub length-on : (at n : ℕ) → test at ≡ true → length_from test at (suc n) ≡ suc (length_from test (suc at) n)
  unfolding length_from
  length-on at n e = rw e

  pub length-stop : (at n : ℕ) → test at ≡ false → length_from test at n ≡ 0
  unfolding length_from
  length-stop at zero e = refl
  length-stop at (suc n) e = rw e

  -- the loop that looks for the end
  pub look-on : (at to i : ℕ) → i < to → test i ≡ true → at + length_from test at (to - at) ≡ i + length_from test i (to - i)
      → at + length_from test at (to - at) ≡ (i + 1) + length_from test (i + 1) (to - (i + 1))
  look-on at to i h e inv =
      let n : to - i ≡ suc (to - (i + 1)) = omega arith in
      let s : suc i ≡ i + 1 = omega arith in
      inv
      ∙ ap (λ (m : ℕ). i + length_from test i m) n
      ∙ ap (λ (m : ℕ). i + m) (length-on i (to - (i + 1)) e ∙ ap (λ (m : ℕ). suc (length_from test m (to - (i + 1)))) s)
      ∙ omega arith

  pub length_none : (at : ℕ) → length_from test at zero ≡ 0
  unfolding length_from
  length_none at = refl

  -- by the first place where it fails
  length-found : (at n i : ℕ) → i ≤ n → ((k : ℕ) → k < i → test (at + k) ≡ true) → (i < n → test (at + i) ≡ false) → length_from test at n ≡ i
  length-found at zero zero l h f = length_none at
  length-found at zero (suc i) l h f = absurd (omega arith)
  length-found at (suc n) zero l h f = length-stop at (suc n) (subst (λ (m : ℕ). test m ≡ false) (add-zero at) (f (omega arith)))
  length-found at (suc n) (suc i) l h f =
      let place : (k : ℕ) → at + suc k ≡ suc at + k = λ k. omega arith in
      length-on at n (subst (λ (m : ℕ). test m ≡ true) (add-zero at) (h 0 (omega arith)))
      ∙ ap suc
      (length-found (suc at) n i (omega arith)
      (λ k lt. subst (λ (m : ℕ). test m ≡ true) (place k) (h (suc k) (omega arith)))
      (λ lt. subst (λ (m : ℕ). test m ≡ false) (place i) (f (omega arith))))

  -- ---- runs

  pub few-runs : (at n : ℕ) (inside : Bool) → length (runs_from test at n inside) ≤ n
  unfolding runs_from
  few-runs at zero inside = omega arith
  few-runs at (suc n) inside = go (test at) inside (few-runs (suc at) n (test at))
    where
      go : (t u : Bool) → length (runs_from test (suc at) n (test at)) ≤ n
          → length (begun t u (block at (length_from test at (suc n))) ++ runs_from test (suc at) n (test at)) ≤ suc n
      go true true h = omega arith
      go true false h = omega arith
      go false u h = omega arith

  -- a step at a byte where the test fails, inside a run, and outside
  runs-fail : (at n : ℕ) (inside : Bool) → test at ≡ false → runs_from test at (suc n) inside ≡ runs_from test (suc at) n false
  unfolding runs_from
  runs-fail at n inside e = rw e

  runs-inside : (at n : ℕ) → test at ≡ true → runs_from test at (suc n) true ≡ runs_from test (suc at) n true
  unfolding runs_from
  runs-inside at n e = rw e

  runs-begin : (at n : ℕ) → test at ≡ true → runs_from test at (suc n) false ≡ block at (length_from test at (suc n)) ∷ runs_from test (suc at) n true
  unfolding runs_from
  runs-begin at n e = rw e

  pub runs_none : (at : ℕ) (inside : Bool) → runs_from test at 0 inside ≡ []
  unfolding runs_from
  runs_none at inside = refl

  pub runs-end : (at to : ℕ) → to ≤ at → runs_from test at (to - at) false ≡ []
  runs-end at to h = ap (λ (m : ℕ). runs_from test at m false) (omega arith) ∙ runs_none at false

  -- where the test fails it does not matter whether a run came before
  flag-free : (at n : ℕ) (inside : Bool) → (0 < n → test at ≡ false) → runs_from test at n inside ≡ runs_from test at n false
  flag-free at zero inside e = runs_none at inside ∙ sym (runs_none at false)
  flag-free at (suc n) inside e = runs-fail at n inside (e (omega arith)) ∙ sym (runs-fail at n false (e (omega arith)))

  -- bytes where the test fails are passed over
  pub skip : (k n at : ℕ) → ((x : ℕ) → at ≤ x → x < at + k → test x ≡ false) → runs_from test at (k + n) false ≡ runs_from test (at + k) n false
  skip zero n at h = rw (zero-add, add-zero)
  skip (suc k) n at h =
      ap (λ (m : ℕ). runs_from test at m false) (suc-add k n)
      ∙ runs-fail at (k + n) false (h at (omega arith) (omega arith))
      ∙ skip k n (suc at) (λ x l u. h x (omega arith) (omega arith))
      ∙ ap (λ (m : ℕ). runs_from test m n false) (omega arith)

  -- and so are those of a run that has begun
  through : (k n at : ℕ) → ((x : ℕ) → at ≤ x → x < at + k → test x ≡ true) → runs_from test at (k + n) true ≡ runs_from test (at + k) n true
  through zero n at h = rw (zero-add, add-zero)
  through (suc k) n at h =
      ap (λ (m : ℕ). runs_from test at m true) (suc-add k n)
      ∙ runs-inside at (k + n) (h at (omega arith) (omega arith))
      ∙ through k n (suc at) (λ x l u. h x (omega arith) (omega arith))
      ∙ ap (λ (m : ℕ). runs_from test m n true) (omega arith)

  -- the run at a place, taken whole
  take-run : (at n : ℕ) → test at ≡ true
      → runs_from test at n false
      ≡ kept (block at (length_from test at n)) ++ runs_from test (at + length_from test at n) (n - length_from test at n) false
  unfolding length_from
  take-run at zero e = runs_none at false ∙ sym (runs_none (at + 0) false)
  take-run at (suc n) e =
      let l = length_from test (suc at) n in
      let le : l ≤ n = length-le test (suc at) n in
      let is : length_from test at (suc n) ≡ suc l = length-on at n e in
      let stop : (0 < n - l → test (suc at + l) ≡ false) = λ p. length-stops test (suc at) n (omega arith) in
      let rest : runs_from test (suc at) n true ≡ runs_from test (at + suc l) (suc n - suc l) false =
      ap (λ (m : ℕ). runs_from test (suc at) m true) (omega arith)
      ∙ through l (n - l) (suc at) (length-holds test (suc at) n)
      ∙ flag-free (suc at + l) (n - l) true stop
      ∙ ap (λ (m : ℕ). runs_from test m (n - l) false) (omega arith)
      ∙ ap (λ (m : ℕ). runs_from test (at + suc l) m false) (omega arith) in
      runs-begin at n e
      ∙ (rw is (rw (kept-some (block at (suc l)) (λ z. omega arith)) (ap (λ (m : List Block). block at (suc l) ∷ m) rest)))

  -- ---- the bytes cut in two where the test fails

  length_cut : (k n at : ℕ) → (0 < n → test (at + k) ≡ false) → length_from test at (k + n) ≡ length_from test at k
  unfolding length_from
  length_cut zero zero at h = refl
  length_cut zero (suc n) at h = length-stop at (zero + suc n) (subst (λ (m : ℕ). test m ≡ false) (add-zero at) (h (omega arith)))
  length_cut (suc k) n at h =
      ap (length_from test at) (suc-add k n)
      ∙ ap (λ (m : ℕ). pick (test at) (suc m) 0) (length_cut k n (suc at) (λ p. subst (λ (m : ℕ). test m ≡ false) (omega arith) (h p)))

  pub cut : (k n at : ℕ) (inside : Bool) → (0 < n → test (at + k) ≡ false)
      → runs_from test at (k + n) inside ≡ runs_from test at k inside ++ runs_from test (at + k) n false
  unfolding runs_from
  cut zero n at inside h =
      let z : at + zero ≡ at = add-zero at in
      rw (zero-add, z) (flag-free at n inside (λ p. subst (λ (m : ℕ). test m ≡ false) z (h p)))
  cut (suc k) n at inside h =
      let there : (0 < n → test (suc at + k) ≡ false) = λ p. subst (λ (m : ℕ). test m ≡ false) (omega arith) (h p) in
      let place : suc at + k ≡ at + suc k = omega arith in
      let long : length_from test at (suc (k + n)) ≡ length_from test at (suc k) =
      ap (length_from test at) (sym (suc-add k n)) ∙ length_cut (suc k) n at h in
      ap (λ (m : ℕ). runs_from test at m inside) (suc-add k n)
      ∙ ap (λ (m : ℕ). begun (test at) inside (block at m) ++ runs_from test (suc at) (k + n) (test at)) long
      ∙ ap (λ (l : List Block). begun (test at) inside (block at (length_from test at (suc k))) ++ l) (cut k n (suc at) (test at) there)
      ∙ ap (λ (m : ℕ). begun (test at) inside
      (block at (length_from test at (suc k))) ++ (runs_from test (suc at) k (test at) ++ runs_from test m n false)) place
      ∙ sym (append_assoc (begun (test at) inside (block at (length_from test at (suc k)))) (runs_from test (suc at) k (test at))
      (runs_from test (at + suc k) n false))

-- A search of the bytes from `from` to before `to` of two images for the first pair that is not alike, or not unlike.
module _ (t : Bool → Bool) (u : Bool) (holds : t u ≡ true) (fails : t (not u) ≡ false) (o r : List ℕ) (from to : ℕ)
    (low : from ≤ to) (ho : to ≤ length o) (hr : to ≤ length r) where
  abbrev pairs : List (ℕ × ℕ)
  pairs = zip (between from to o) (between from to r)

  part : (xs : List ℕ) (k : ℕ) → k < to - from → get_or (between from to xs) k 0 ≡ get_or xs (from + k) 0
  part xs k h = get_or-take (to - from) (drop from xs) k 0 h ∙ get_or-drop from xs k 0

  part-length : (xs : List ℕ) → to ≤ length xs → length (between from to xs) ≡ to - from
  part-length xs h = simp (length-take, length-drop) (omega arith)

  long : length pairs ≡ to - from
  long = omega (arith, length-zip (between from to o) (between from to r), part-length o ho, part-length r hr)

  pair-at : (k : ℕ) → k < to - from → get_or pairs k (0, 0) ≡ (get_or o (from + k) 0, get_or r (from + k) 0)
  pair-at k h =
      get_or-zip (between from to o) (between from to r) k (0, 0) (omega (arith, part-length o ho)) (omega (arith, part-length r hr))
      ∙ ap₂ (λ (x y : ℕ). (x, y)) (part o k h) (part r k h)

  tested : (v : Bool) (k : ℕ) → k < to - from → eqb (get_or pairs k (0, 0)).0 (get_or pairs k (0, 0)).1 ≡ v
      → t (eqb (get_or o (from + k) 0) (get_or r (from + k) 0)) ≡ t v
  tested v k h e = ap t (subst (λ (x : ℕ × ℕ). eqb x.0 x.1 ≡ v) (pair-at k h) e)

  pub place-found : (p : Option ℕ)
      → MatchOption p (AllWithin (λ x. eqb x.0 x.1 ≡ u) pairs 0 (length pairs))
      (λ i. (i < length pairs) × HoldsAt (λ x. eqb x.0 x.1 ≡ not u) pairs i × AllWithin (λ x. eqb x.0 x.1 ≡ u) pairs 0 i)
      → unwrap_or p (to - from) ≡ length_from (λ x. t (eqb (get_or o x 0) (get_or r x 0))) from (to - from)
  place-found None h =
      sym
      (length-found (λ x. t (eqb (get_or o x 0) (get_or r x 0))) from (to - from) (to - from) (omega arith)
      (λ k l. tested u k l (h k (0, 0) (omega arith) (omega (arith, long))) ∙ holds)
      (λ l. absurd (omega arith)))
  place-found (Some i) h =
      let few : i < to - from = omega (arith, h.0, long) in
      sym
      (length-found (λ x. t (eqb (get_or o x 0) (get_or r x 0))) from (to - from) i (omega arith)
      (λ k l. tested u k (omega arith) (h.2 k (0, 0) (omega arith) l) ∙ holds)
      (λ l. tested (not u) i few (h.1 (0, 0)) ∙ fails))

-- Two tests that agree on the bytes have the same runs there.
module _ (f g : ℕ → Bool) where
  length-same : (n at : ℕ) → ((x : ℕ) → at ≤ x → x < at + n → f x ≡ g x) → length_from f at n ≡ length_from g at n
  unfolding length_from
  length-same zero at h = refl
  length-same (suc n) at h = rw (h at (omega arith) (omega arith), length-same n (suc at) (λ x l u. h x (omega arith) (omega arith)))

  pub runs_same : (n at : ℕ) (inside : Bool) → ((x : ℕ) → at ≤ x → x < at + n → f x ≡ g x) → runs_from f at n inside ≡ runs_from g at n inside
  unfolding runs_from
  runs_same zero at inside h = refl
  runs_same (suc n) at inside h =
      let here = h at (omega arith) (omega arith) in
      let rest = runs_same n (suc at) (f at) (λ x l u. h x (omega arith) (omega arith)) in
      ap (λ (l : List Block). begun (f at) inside (block at (length_from f at (suc n))) ++ l) rest
      ∙ ap (λ (m : ℕ). begun (f at) inside (block at m) ++ runs_from g (suc at) n (f at)) (length-same (suc n) at h)
      ∙ ap (λ (t : Bool). begun t inside (block at (length_from g at (suc n))) ++ runs_from g (suc at) n t) here

-- One turn of the loop: from `at` the images agree up to a, and from there they differ up to e.
pub turn : (same : ℕ → Bool) (at to a e : ℕ) → at ≤ to → a ≡ at + length_from same at (to - at) → e ≡ a + length_from (λ b. not (same b)) a (to - a)
    → runs_from (λ b. not (same b)) at (to - at) false ≡ kept (block a (e - a)) ++ runs_from (λ b. not (same b)) e (to - e) false
turn same at to a e h ia ie =
    let g = length_from same at (to - at) in
    let le : g ≤ to - at = length-le same at (to - at) in
    let skipped : runs_from (λ b. not (same b)) at (to - at) false ≡ runs_from (λ b. not (same b)) a (to - a) false =
    ap (λ (m : ℕ). runs_from (λ b. not (same b)) at m false) (omega arith)
    ∙ skip (λ b. not (same b)) g (to - a) at (λ x l u. rw (length-holds same at (to - at) x l u))
    ∙ ap (λ (m : ℕ). runs_from (λ b. not (same b)) m (to - a) false) (sym ia) in
    let long = length_from (λ b. not (same b)) a (to - a) in
    let cutoff : to - a - long ≡ to - (a + long) = omega arith in
    let size : long ≡ e - a = omega arith in
    skipped
    ∙ elim (dec_lt a to) [
      | yes l ↦
          let fails : same a ≡ false = subst (λ (m : ℕ). same m ≡ false) (sym ia) (length-stops same at (to - at) (omega arith)) in
          take-run (λ b. not (same b)) a (to - a) (rw fails)
          ∙ ap (λ (m : ℕ). kept (block a long) ++ runs_from (λ b. not (same b)) (a + long) m false) cutoff
          ∙ ap (λ (m : ℕ). kept (block a long) ++ runs_from (λ b. not (same b)) m (to - m) false) (sym ie)
          ∙ ap (λ (m : ℕ). kept (block a m) ++ runs_from (λ b. not (same b)) e (to - e) false) size
      | no l ↦
          let none : to - a ≡ 0 = omega arith in
          let short : length_from (λ b. not (same b)) a (to - a) ≤ to - a = length-le (λ b. not (same b)) a (to - a) in
          let end : a ≡ e = omega arith in
          rw (kept-none (block a (e - a)) (omega arith)) (ap (λ (m : ℕ). runs_from (λ b. not (same b)) m (to - m) false) end)
    ]

-- It has no more runs than bytes.
pub kept-few : (a e : ℕ) → a ≤ e → a + length (kept (block a (e - a))) ≤ e
kept-few a e h =
    elim (dec_lt a e) [
      | yes l ↦ rw (kept-some (block a (e - a)) (λ z. omega arith)) (omega arith)
      | no l ↦ rw (kept-none (block a (e - a)) (omega arith)) (omega arith)
    ]

-- A turn goes on by a byte at least.
pub turn-moves : (same : ℕ → Bool) (at to a e : ℕ) → at < to → a ≡ at + length_from same at (to - at) → e ≡ a + length_from (λ b. not (same b)) a (to - a)
    → at < e
turn-moves same at to a e h ia ie =
    elim (dec_lt at a) [
      | yes y ↦ omega arith
      | no y ↦
          let here : at ≡ a = omega arith in
          let fails : same a ≡ false = subst (λ (m : ℕ). same m ≡ false) (sym ia) (length-stops same at (to - at) (omega arith)) in
          let more : to - a ≡ suc (to - a - 1) = omega arith in
          let on = ap (length_from (λ b. not (same b)) a) more ∙ length-on (λ b. not (same b)) a (to - a - 1) (rw fails) in
          omega arith
    ]
