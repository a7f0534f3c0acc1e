-- "The sizes of the blocks add up to the sizes of all spans that have an offset", over the sentences of `dk_blocks`.
use Rattle.std.specs.Prelude.{◌≡◌, refl, List, [], ◌∷◌, map, ℕ, ◌+◌, ◌≤◌, ◌<◌, eqb, length, get_or, take}
use Rattle.std.proofs.Common.{sym, ap, subst, ◌∙◌, inr, ⊎_elim, suc-ne-zero, zero-add, arith, eqb-true, ext_get_or, length-take-le, get_or-take}
use Rattle.std.proofs.Math.Nat.{suc_inj}
use Rattle.std.proofs.lemmas.Bool.{eqb-false}
use Rattle.std.proofs.lemmas.List.{length-map}
use Rattle.prelude.specs.Laws.Bools.{either}
use Rattle.sort.specs.Laws.Sorted.{le-or-lt}
use Rattle.sort.specs.Numbers.{order}
use Rattle.sort.specs.Order.{total}
use Rattle.blocks.specs.Measure.{of_span}
use Rattle.blocks.specs.Spans.{spans_of}
use Rattle.blocks.specs.Theorems.Measure as measure
use Rattle.blocks.specs.Walk.{blocks_of}
use Rattle.meets.specs.Theorems.Blocks.{run, runs, walk_is, blocks-in-order}
use Rattle.meets.specs.Theorems.Ordered.{order-decides, order-meets}
use Rattle.says.specs.Blocks as says
use Rattle.says.specs.Blocks.{Outcome, DkBlocksSay}
use Rattle.says.specs.Words.{Begins, refused, passed}
use Rattle.meets_bits.specs.Sizes as sizes
use Rattle.meets_bits.specs.Sizes.{Placed}

total-map : {A B : Type 0} (f : B → ℕ) (h : A → B) (l : List A) → total f (map h l) ≡ total (λ a. f (h a)) l
unfolding total
total-map f h [] = refl
total-map f h (a ∷ l) = ap (λ (n : ℕ). f (h a) + n) (total-map f h l)

-- what was written at the front of a list is its front
front-is : (new old after : List ℕ) → Begins new old after → length new ≤ length old → take (length new) after ≡ new
front-is new old after b room =
    ext_get_or 0 (take (length new) after) new (length-take-le (length new) after (omega (arith, b.as_long))) (λ i h.
    let low : i < length new = omega (arith, length-take-le (length new) after (omega (arith, b.as_long))) in
    get_or-take (length new) after i 0 low ∙ b.front i low)

placed-is : (offsets lengths : List ℕ) → length offsets ≡ length lengths → Placed offsets lengths (total (of_span (λ o s. s)) (spans_of offsets lengths))
unfolding total spans_of
placed-is [] [] e = sizes.no_span
placed-is [] (s ∷ ss) e = absurd (suc-ne-zero (length ss) (sym e))
placed-is (o ∷ os) [] e = absurd (suc-ne-zero (length os) e)
placed-is (o ∷ os) (s ∷ ss) e =
    either (eqb o 18446744073709551615)
    (λ t.
    let later = total (of_span (λ o s. s)) (spans_of os ss) in
    rw t (subst (Placed (o ∷ os) (s ∷ ss)) (sym (zero-add later)) (sizes.passed_over (eqb-true o 18446744073709551615 t) (placed-is os ss (suc_inj e)))))
    (λ t. rw t (sizes.counted (eqb-false o 18446744073709551615 t) (placed-is os ss (suc_inj e))))

module _ (offsets lengths starts₀ sizes₀ : List ℕ) where
  paired : (says.Malformed offsets lengths → ⊥) → length offsets ≡ length lengths
  paired n =
      either (eqb (length offsets) (length lengths)) (λ t. eqb-true (length offsets) (length lengths) t)
      (λ t. absurd (n (says.unpaired (eqb-false (length offsets) (length lengths) t))))

  pub blocks-sizes-add-up : (y : Outcome) → DkBlocksSay offsets lengths starts₀ sizes₀ y → y.answer.refusal ≡ 0
      → Placed offsets lengths (total (λ s. s) (take y.answer.count y.sizes))
  blocks-sizes-add-up y (refused x m) e = absurd (let z : ◌≡◌ {A = ℕ} 4 0 = e in omega arith)
  blocks-sizes-add-up y (passed n (says.taken t w (refused x short))) e = absurd (let z : ◌≡◌ {A = ℕ} 14 0 = e in omega arith)
  blocks-sizes-add-up y (passed n (says.taken {order = l} {b} t w (passed long (says.written {sizes₁ = after} f h)))) e =
      let made = blocks_of (spans_of offsets lengths) in
      let even = paired (λ m. n tt m) in
      let same : l ≡ order offsets = order-decides offsets l (order offsets) t (order-meets offsets) in
      let is : b ≡ map run made = walk_is offsets lengths w ∙ ap (runs offsets lengths 0 0) same ∙ ap (map run) (blocks-in-order offsets lengths even) in
      let column = map (λ (x : says.Block). x.1) b in
      let many : length column ≡ length b = length-map b (λ (x : says.Block). x.1) in
      let room : length column ≤ length sizes₀ =
      ⊎_elim (λ (le : length b ≤ length sizes₀). omega arith) (λ lt. absurd (long tt (inr lt))) (le-or-lt (length b) (length sizes₀)) in
      let front : take (length b) after ≡ column = ap (λ (k : ℕ). take k after) (sym many) ∙ front-is column sizes₀ after h room in
      let sum : total (λ (s : ℕ). s) column ≡ total (of_span (λ o s. s)) (spans_of offsets lengths) =
      total-map (λ (s : ℕ). s) (λ (x : says.Block). x.1) b ∙ ap (total (λ (x : says.Block). x.1)) is ∙ total-map (λ (x : says.Block). x.1) run made
      ∙ measure.sizes-add-up (spans_of offsets lengths) in
      rw (front, sum) (placed-is offsets lengths even)
