-- The order in which keys are taken, equal ones in their order: there is one (`order-decides`), and the definition, a stable sort of the numbers, makes it
-- (`order-meets`).
use Rattle.std.specs.Prelude.{◌≡◌, refl, ◌⊎◌, length}
use Rattle.std.proofs.Common.{sym, ◌∙◌, subst}
use mathlib.Core.List.{List, [], ◌∷◌, Memᴰ}
use Rattle.std.proofs.Math.Logic.{inl, inr, ⊎_elim}
use Prim.Native.Nat.{ℕ, zero, suc, ◌+◌, ◌≤◌, ◌<◌}
use native.Mathlib.Omega.{arith}
use Rattle.std.proofs.Math.ListN.{get_or}
use Rattle.sort.specs.Laws.Agree.{all-at}
use Rattle.sort.specs.Numbers.{numbers_from, numbers_of, key_at, order}
use Rattle.sort.proofs.OrderFacts.{order_below}
use Rattle.sort.specs.Sorted.{insert_by, sorted_by}
use Rattle.sort.proofs.Sorted.{insert-before, insert-after}
use Rattle.sort.specs.Laws.Sorted.{le-or-lt}
use Rattle.meets.specs.Laws.Lists.{any-default}
use Rattle.says.specs.Blocks.{Before, ByOffset}
use Rattle.says.specs.Words.{At}
use Rattle.meets.specs.Laws.Words.{OneOnly}

-- ---- they leave one order
mem-at : {k : ℕ} (l : List ℕ) → Memᴰ k l → (i : ℕ) × (i < length l) × (get_or l i 0 ≡ k)
mem-at {k} [] m = absurd (mathlib.Core.List.Memᴰ.not-nil m)
mem-at {k} (x ∷ l) m =
    ⊎_elim (λ e. (0, omega arith, sym e))
    (λ n.
    let p : (i : ℕ) × (i < length l) × (get_or l i 0 ≡ k) = mem-at {k = k} l n in
    (suc p.0, omega (arith, p.1), p.2))
    (mathlib.Core.List.Memᴰ.cases_cons m)

at_mem : (l : List ℕ) (i : ℕ) → i < length l → Memᴰ (get_or l i 0) l
at_mem [] i h = absurd (omega arith)
at_mem (x ∷ l) zero h = mathlib.Core.List.Memᴰ.head refl
at_mem (x ∷ l) (suc i) h = mathlib.Core.List.Memᴰ.tail (at_mem l i (omega arith))

module _ (keys : List ℕ) where
  not_itself : (x : ℕ) → Before keys x x → ⊥
  not_itself x b = ⊎_elim (λ lt. omega arith) (λ e. omega (arith, e.1)) b

  not-both : (x y : ℕ) → Before keys x y → Before keys y x → ⊥
  not-both x y b c = ⊎_elim
      (λ lt. ⊎_elim (λ gt. omega arith) (λ e. omega (arith, e.0)) c)
      (λ e. ⊎_elim (λ gt. omega (arith, e.0)) (λ f. omega (arith, e.1, f.1)) c)
      b

  -- the same by elements
  abbrev Rises : List ℕ → Type 0
  Rises [] = Unit {0}
  Rises (x ∷ l) = ((k : ℕ) → Memᴰ k l → Before keys x k) × Rises l

  rises : (l : List ℕ) → ((i j : ℕ) → i < j → j < length l → Before keys (get_or l i 0) (get_or l j 0)) → Rises l
  rises [] h = tt
  rises (x ∷ l) h = (
    λ k m. let p = mem-at l m in subst (Before keys x) p.2 (h 0 (suc p.0) (omega arith) (omega (arith, p.1))),
    rises l (λ i j lt le. h (suc i) (suc j) (omega arith) (omega arith)),
  )

  positions : (l : List ℕ) → Rises l → (i j : ℕ) → i < j → j < length l → Before keys (get_or l i 0) (get_or l j 0)
  positions [] r i j lt h = absurd (omega arith)
  positions (x ∷ l) r i zero lt h = absurd (omega arith)
  positions (x ∷ l) r zero (suc j) lt h = r.0 (get_or l j 0) (at_mem l j (omega arith))
  positions (x ∷ l) r (suc i) (suc j) lt h = positions l r.1 i j (omega arith) (omega arith)

  module _ (x : ℕ) (a b : List ℕ) (h : (k : ℕ) → Memᴰ k a → Before keys x k) (f : (k : ℕ) → Memᴰ k (x ∷ a) → Memᴰ k (x ∷ b)) where
    tails : (k : ℕ) → Memᴰ k a → Memᴰ k b
    tails k m = ⊎_elim (λ e. absurd (not_itself x (subst (Before keys x) e (h k m)))) (λ n. n) (mathlib.Core.List.Memᴰ.cases_cons (f k (mathlib.Core.List.Memᴰ.tail m)))

  one_list : (a b : List ℕ) → Rises a → Rises b → ((k : ℕ) → Memᴰ k a → Memᴰ k b) → ((k : ℕ) → Memᴰ k b → Memᴰ k a) → a ≡ b
  one_list [] [] r s f g = refl
  one_list [] (y ∷ b) r s f g = absurd (mathlib.Core.List.Memᴰ.not-nil (g y (mathlib.Core.List.Memᴰ.head refl)))
  one_list (x ∷ a) [] r s f g = absurd (mathlib.Core.List.Memᴰ.not-nil (f x (mathlib.Core.List.Memᴰ.head refl)))
  one_list (x ∷ a) (y ∷ b) r s f g =
      let same : x ≡ y = ⊎_elim (λ e. e)
      (λ m. ⊎_elim (λ e. sym e) (λ n. absurd (not-both x y (r.0 y n) (s.0 x m))) (mathlib.Core.List.Memᴰ.cases_cons (g y (mathlib.Core.List.Memᴰ.head refl))))
      (mathlib.Core.List.Memᴰ.cases_cons (f x (mathlib.Core.List.Memᴰ.head refl))) in
      let fx : (k : ℕ) → Memᴰ k (x ∷ a) → Memᴰ k (x ∷ b) = rw (← same) at f in
      let gx : (k : ℕ) → Memᴰ k (x ∷ b) → Memᴰ k (x ∷ a) = rw (← same) at g in
      let sx : (k : ℕ) → Memᴰ k b → Before keys x k = rw (← same) at s.0 in
      rw (same, one_list a b r.1 s.1 (tails x a b r.0 fx) (tails x b a sx gx))

  member : (l : List ℕ) (i k : ℕ) → At l i k → Memᴰ k l
  member l i k h = subst (λ (x : ℕ). Memᴰ x l) (any-default l i 0 k h.0 ∙ h.1) (at_mem l i h.0)

  at_of : (l : List ℕ) (k : ℕ) → Memᴰ k l → (i : ℕ) × At l i k
  at_of l k m = let p = mem-at l m in (p.0, (p.1, any-default l p.0 k 0 p.1 ∙ p.2))

  pub order-decides : OneOnly (ByOffset keys)
  order-decides a b f g = one_list a b (rises a f.rising) (rises b g.rising) (across a b f g) (across b a g f)
    where
      across : (a b : List ℕ) → ByOffset keys a → ByOffset keys b → (k : ℕ) → Memᴰ k a → Memᴰ k b
      across a b f g k m =
          let p = at_of a k m in
          let q = g.each k (f.only p.0 k p.1) in
          member b q.0 k q.1

  -- ---- the definition, a stable sort of the numbers, says them
  mem-insert : (x k : ℕ) (l : List ℕ) → (k ≡ x) ⊎ Memᴰ k l → Memᴰ k (insert_by (key_at keys) x l)
  unfolding insert_by
  mem-insert x k [] m = ⊎_elim (λ e. mathlib.Core.List.Memᴰ.head e) (λ n. absurd (mathlib.Core.List.Memᴰ.not-nil n)) m
  mem-insert x k (y ∷ l) m = ⊎_elim
      (λ le. rw (insert-before (key_at keys) x y l le) (⊎_elim (λ e. mathlib.Core.List.Memᴰ.head e) (λ n. mathlib.Core.List.Memᴰ.tail n) m))
      (λ lt. rw (insert-after (key_at keys) x y l lt) (⊎_elim
      (λ e. mathlib.Core.List.Memᴰ.tail (mem-insert x k l (inl e)))
      (λ n. ⊎_elim (λ e. mathlib.Core.List.Memᴰ.head e) (λ o. mathlib.Core.List.Memᴰ.tail (mem-insert x k l (inr o))) (mathlib.Core.List.Memᴰ.cases_cons n)) m))
      (le-or-lt (key_at keys x) (key_at keys y))

  insert-mem : (x k : ℕ) (l : List ℕ) → Memᴰ k (insert_by (key_at keys) x l) → (k ≡ x) ⊎ Memᴰ k l
  unfolding insert_by
  insert-mem x k [] m = mathlib.Core.List.Memᴰ.cases_cons m
  insert-mem x k (y ∷ l) m = ⊎_elim
      (λ le. mathlib.Core.List.Memᴰ.cases_cons (rw (insert-before (key_at keys) x y l le) at m))
      (λ lt. let n : Memᴰ k (y ∷ insert_by (key_at keys) x l) = rw (insert-after (key_at keys) x y l lt) at m in
      ⊎_elim (λ e. inr (mathlib.Core.List.Memᴰ.head e)) (λ o. ⊎_elim (λ e. inl e) (λ p. inr (mathlib.Core.List.Memᴰ.tail p)) (insert-mem x k l o)) (mathlib.Core.List.Memᴰ.cases_cons n))
      (le-or-lt (key_at keys x) (key_at keys y))

  -- a number below all of an order goes into it
  rises-insert : (x : ℕ) (l : List ℕ) → ((k : ℕ) → Memᴰ k l → x < k) → Rises l → Rises (insert_by (key_at keys) x l)
  unfolding insert_by
  rises-insert x [] h r = (λ k m. absurd (mathlib.Core.List.Memᴰ.not-nil m), tt)
  rises-insert x (y ∷ l) h r = ⊎_elim
      (λ le. rw (insert-before (key_at keys) x y l le) (
        λ k m. ⊎_elim
            (λ e. rw e (lower x y le (h y (mathlib.Core.List.Memᴰ.head refl))))
            (λ n. ⊎_elim (λ lt. inl (omega arith)) (λ e. lower x k (omega (arith, e.0)) (h k (mathlib.Core.List.Memᴰ.tail n))) (r.0 k n))
            (mathlib.Core.List.Memᴰ.cases_cons m),
        r,
      ))
      (λ lt. rw (insert-after (key_at keys) x y l lt) (
        λ k m. ⊎_elim (λ e. rw e (inl lt)) (λ n. r.0 k n) (insert-mem x k l m),
        rises-insert x l (λ k m. h k (mathlib.Core.List.Memᴰ.tail m)) r.1,
      ))
      (le-or-lt (key_at keys x) (key_at keys y))
    where
      lower : (x y : ℕ) → get_or keys x 0 ≤ get_or keys y 0 → x < y → Before keys x y
      lower x y le lt = ⊎_elim (λ ge. inr (omega arith, lt)) (λ l. inl l) (le-or-lt (get_or keys y 0) (get_or keys x 0))

  sorted-mem : (k : ℕ) (l : List ℕ) → Memᴰ k (sorted_by (key_at keys) l) → Memᴰ k l
  unfolding sorted_by
  sorted-mem k [] m = m
  sorted-mem k (x ∷ l) m = ⊎_elim (λ e. mathlib.Core.List.Memᴰ.head e) (λ n. mathlib.Core.List.Memᴰ.tail (sorted-mem k l n)) (insert-mem x k (sorted_by (key_at keys) l) m)

  mem-sorted : (k : ℕ) (l : List ℕ) → Memᴰ k l → Memᴰ k (sorted_by (key_at keys) l)
  unfolding sorted_by
  mem-sorted k [] m = m
  mem-sorted k (x ∷ l) m = mem-insert x k (sorted_by (key_at keys) l) (⊎_elim (λ e. inl e) (λ n. inr (mem-sorted k l n)) (mathlib.Core.List.Memᴰ.cases_cons m))

  numbers-mem : (k i n : ℕ) → i ≤ k → k < i + n → Memᴰ k (numbers_from i n)
  unfolding numbers_from
  numbers-mem k i zero h lt = absurd (omega arith)
  numbers-mem k i (suc n) h lt = ⊎_elim (λ le. mathlib.Core.List.Memᴰ.head (omega arith)) (λ gt. mathlib.Core.List.Memᴰ.tail (numbers-mem k (suc i) n gt (omega arith))) (le-or-lt k i)

  mem-numbers : (k i n : ℕ) → Memᴰ k (numbers_from i n) → i ≤ k
  unfolding numbers_from
  mem-numbers k i zero m = absurd (mathlib.Core.List.Memᴰ.not-nil m)
  mem-numbers k i (suc n) m = ⊎_elim (λ e. omega arith) (λ o. omega (arith, mem-numbers k (suc i) n o)) (mathlib.Core.List.Memᴰ.cases_cons m)

  sorted_rises : (i n : ℕ) → Rises (sorted_by (key_at keys) (numbers_from i n))
  unfolding numbers_from sorted_by
  sorted_rises i zero = tt
  sorted_rises i (suc n) = rises-insert i (sorted_by (key_at keys) (numbers_from (suc i) n))
      (λ k m. mem-numbers k (suc i) n (sorted-mem k (numbers_from (suc i) n) m)) (sorted_rises (suc i) n)

  pub order-meets : ByOffset keys (order keys)
  order-meets = record {
    each = λ k h. at_of (order keys) k (mem-sorted k (numbers_of (length keys)) (numbers-mem k 0 (length keys) (omega arith) (omega arith)));
    only = λ i k h.
        let b = all-at (λ b. b < length keys) (order keys) (order_below keys) i h.0 in
        subst (λ (x : ℕ). x < length keys) (any-default (order keys) i 0 k h.0 ∙ h.1) b;
    rising = positions (order keys) (sorted_rises 0 (length keys));
  }

  -- "equal ones in their order": of two numbers with equal keys the lower one is taken first.
  pub equal-in-their-order : (l : List ℕ) → ByOffset keys l → (x y : ℕ) → x < y → get_or keys x 0 ≡ get_or keys y 0
      → (i j : ℕ) → At l i x → At l j y → i < j
  equal-in-their-order l o x y lt same i j at_x at_y =
      let is_x : get_or l i 0 ≡ x = any-default l i 0 x at_x.0 ∙ at_x.1 in
      let is_y : get_or l j 0 ≡ y = any-default l j 0 y at_y.0 ∙ at_y.1 in
      let not-below : j < i → ⊥ = λ below.
      let b : Before keys y x = rw (is_y, is_x) at (o.rising j i below at_x.0) in
      ⊎_elim (λ less. omega arith) (λ e. omega (arith, e.1)) b in
      let not_same : i ≡ j → ⊥ = λ e. let f : get_or l j 0 ≡ x = rw e at is_x in omega arith in
      ⊎_elim (λ le. ⊎_elim (λ ge. absurd (not_same (omega arith))) (λ below. absurd (not-below below)) (le-or-lt i j)) (λ h. h) (le-or-lt j i)
