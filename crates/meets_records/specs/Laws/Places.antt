-- What is refused before anything is written, by the definitions' tests and by the sentences.
use Rattle.std.specs.Prelude.{◌≡◌, false, ◌&&◌, ◌⊎◌, leb, eqb, length, get_or}
use Rattle.std.proofs.Math.Path.{refl}
use Rattle.std.proofs.Common.{ap, ◌∙◌}
use mathlib.Core.List.{List, [], ◌∷◌}
use Rattle.std.proofs.Math.Logic.{inl, inr, ⊎_elim}
use Prim.Native.Nat.{ℕ, suc, ◌+◌, ◌*◌, ◌<◌, ◌/◌, ◌%◌}
use native.Mathlib.Omega.{arith}
use borrow.Author.Tests.{leb-true, leb-false, eqb-true, eqb-false}
use Rattle.prelude.specs.Laws.Bools.{either, clash}
use Rattle.bitvec.specs.Part.{is_part}
use Rattle.bitvec.specs.Theorems.Part.{is_part-when}
use Rattle.record_write.specs.Cut.{blocks_in}
use Rattle.record_write.specs.Checks.{all_parts, all_placed, all_short}
use Rattle.record_write.specs.Exactly.{AllParts, WellPlaced, AllShort}
use Rattle.says.specs.Write as w
use Rattle.says.specs.Write.{Given, BadPart, BadPlace}

module _ (g : Given) where
  abbrev len : ℕ
  len = length g.image

  unfit-at : (os ss : List ℕ) → all_parts len (blocks_in os ss) ≡ false
      → (k : ℕ) × (k < length os) × (k < length ss) × (is_part len (get_or os k 0) (get_or ss k 0) ≡ false)
  unfolding all_parts blocks_in
  unfit-at [] ss e = absurd (clash refl e)
  unfit-at (o ∷ os) [] e = absurd (clash refl e)
  unfit-at (o ∷ os) (s ∷ ss) e = either (is_part len o s)
      (λ t. let k = unfit-at os ss (rw t at e) in (suc k.0, omega (arith, k.1), omega (arith, k.2), k.3))
      (λ f. (0, omega arith, omega arith, f))

  pub bad-part : all_parts len (blocks_in g.offsets g.sizes) ≡ false → BadPart g
  bad-part e =
      let k = unfit-at g.offsets g.sizes e in
      let o = get_or g.offsets k.0 0 in
      let s = get_or g.sizes k.0 0 in
      either (eqb s 0) (λ a. w.unfit {i = k.0} {o = o} {s = s} (k.1, k.2, refl, refl) (inl (eqb-true s 0 a)))
      (λ a. either (eqb (o % 8) 0)
      (λ b. either (eqb (s % 8) 0)
      (λ c. either (leb (o + s) (8 * len))
      (λ d. absurd (clash (is_part-when len o s (record {
        some = omega (arith, eqb-false s 0 a);
        starts = eqb-true (o % 8) 0 b;
        ends = eqb-true (s % 8) 0 c;
        inside = leb-true (o + s) (8 * len) d;
      })) k.3))
      (λ d. w.unfit {i = k.0} {o = o} {s = s} (k.1, k.2, refl, refl) (inr (inr (inr (leb-false (o + s) (8 * len) d))))))
      (λ c. w.unfit {i = k.0} {o = o} {s = s} (k.1, k.2, refl, refl) (inr (inr (inl (eqb-false (s % 8) 0 c))))))
      (λ b. w.unfit {i = k.0} {o = o} {s = s} (k.1, k.2, refl, refl) (inr (inl (eqb-false (o % 8) 0 b)))))

  pub fit : AllParts len g.offsets g.sizes → BadPart g → ⊥
  fit h (w.unfit {i} b (inl e)) = omega (arith, (h i b.0 b.1).some, b.3)
  fit h (w.unfit {i} b (inr (inl n))) = n (ap (λ (x : ℕ). x % 8) b.2 ∙ (h i b.0 b.1).starts)
  fit h (w.unfit {i} b (inr (inr (inl n)))) = n (ap (λ (x : ℕ). x % 8) b.3 ∙ (h i b.0 b.1).ends)
  fit h (w.unfit {i} b (inr (inr (inr past)))) = omega (arith, (h i b.0 b.1).inside, b.2, b.3)

  abbrev Misplaced : List ℕ → List ℕ → ℕ → Type 0
  Misplaced os ss k = (k < length os) × (k < length ss) × (
      ((suc k < length os) × (suc k < length ss) × (get_or os (suc k) 0 < get_or os k 0 + get_or ss k 0))
      ⊎ (4294967296 < g.load + get_or os k 0 / 8 + get_or ss k 0 / 8)
      )

  misplaced-at : (os ss : List ℕ) → length os ≡ length ss → all_placed g.load (blocks_in os ss) ≡ false → (k : ℕ) × Misplaced os ss k
  unfolding all_placed blocks_in
  misplaced-at [] ss n e = absurd (clash refl e)
  misplaced-at (o ∷ os) [] n e = absurd (clash refl e)
  misplaced-at (o ∷ []) (s ∷ []) n e = (
    0,
    (
      omega arith,
      omega arith,
      inr (either (leb (g.load + o / 8 + s / 8) 4294967296)
          (λ t. absurd (clash refl (rw t at e)))
          (λ f. leb-false (g.load + o / 8 + s / 8) 4294967296 f)),
    ),
  )
  misplaced-at (o ∷ []) (s ∷ t ∷ ss) n e = absurd (omega arith)
  misplaced-at (o ∷ p ∷ os) (s ∷ []) n e = absurd (omega arith)
  misplaced-at (o ∷ p ∷ os) (s ∷ t ∷ ss) n e = either (leb (o + s) p)
      (λ a. either (leb (g.load + o / 8 + s / 8) 4294967296)
      (λ b. let k = misplaced-at (p ∷ os) (t ∷ ss) (omega arith) (rw (a, b) at e) in (
        suc k.0,
        (
          omega (arith, k.1.0),
          omega (arith, k.1.1),
          ⊎_elim
              (λ x. inl (omega (arith, x.0), omega (arith, x.1), x.2)) (λ x. inr x) k.1.2,
        ),
      ))
      (λ b. (0, (omega arith, omega arith, inr (leb-false (g.load + o / 8 + s / 8) 4294967296 b)))))
      (λ a. (0, (omega arith, omega arith, inl (omega arith, omega arith, leb-false (o + s) p a))))

  pub bad-place : AllParts len g.offsets g.sizes
      → (eqb (length g.offsets) (length g.sizes) && all_placed g.load (blocks_in g.offsets g.sizes)) ≡ false → BadPlace g 4294967296
  bad-place h e = either (eqb (length g.offsets) (length g.sizes))
      (λ t.
      let k = misplaced-at g.offsets g.sizes (eqb-true (length g.offsets) (length g.sizes) t) (rw t at e) in
      let part = h k.0 k.1.0 k.1.1 in
      ⊎_elim
      (λ x. w.order {i = k.0} (k.1.0, k.1.1, refl, refl) (x.0, x.1, refl, refl) x.2)
      (λ x. w.past {i = k.0} (k.1.0, k.1.1, refl, refl) (omega (arith, part.starts)))
      k.1.2)
      (λ f. w.lengths (eqb-false (length g.offsets) (length g.sizes) f))

  pub well : AllParts len g.offsets g.sizes → WellPlaced g.load g.offsets g.sizes → BadPlace g 4294967296 → ⊥
  well h p (w.lengths n) = n p.paired
  well h p (w.order {i} a b lt) = omega (arith, p.apart i (suc i) (omega arith) b.0, a.2, a.3, b.2)
  well h p (w.past {i} {o} {s} b past) =
      let part = h i b.0 b.1 in
      let low = p.low i b.0 in
      let start : o % 8 ≡ 0 = ap (λ (x : ℕ). x % 8) b.2 ∙ part.starts in
      omega (arith, b.2, b.3)

  -- ---- addresses of two bytes
  long-at : (os ss : List ℕ) → all_short g.load (blocks_in os ss) ≡ false
      → (k : ℕ) × (k < length os) × (k < length ss) × (65536 < g.load + get_or os k 0 / 8 + get_or ss k 0 / 8)
  unfolding all_short blocks_in
  long-at [] ss e = absurd (clash refl e)
  long-at (o ∷ os) [] e = absurd (clash refl e)
  long-at (o ∷ os) (s ∷ ss) e = either (leb (g.load + o / 8 + s / 8) 65536)
      (λ t. let k = long-at os ss (rw t at e) in (suc k.0, omega (arith, k.1), omega (arith, k.2), k.3))
      (λ f. (0, omega arith, omega arith, leb-false (g.load + o / 8 + s / 8) 65536 f))

  pub past-short : AllParts len g.offsets g.sizes → all_short g.load (blocks_in g.offsets g.sizes) ≡ false → BadPlace g 65536
  past-short h e =
      let k = long-at g.offsets g.sizes e in
      let part = h k.0 k.1 k.2 in
      w.past {i = k.0} (k.1, k.2, refl, refl) (omega (arith, part.starts, k.3))

  pub lower : BadPlace g 4294967296 → BadPlace g 65536
  lower (w.lengths n) = w.lengths n
  lower (w.order {i} a b lt) = w.order {i = i} a b lt
  lower (w.past {i} b past) = w.past {i = i} b (omega arith)

  pub well-short : AllParts len g.offsets g.sizes → WellPlaced g.load g.offsets g.sizes → AllShort g.load g.offsets g.sizes
      → BadPlace g 65536 → ⊥
  well-short h p short (w.lengths n) = n p.paired
  well-short h p short (w.order {i} a b lt) = omega (arith, p.apart i (suc i) (omega arith) b.0, a.2, a.3, b.2)
  well-short h p short (w.past {i} {o} {s} b past) =
      let part = h i b.0 b.1 in
      let low = short i b.0 b.1 in
      let start : o % 8 ≡ 0 = ap (λ (x : ℕ). x % 8) b.2 ∙ part.starts in
      omega (arith, b.2, b.3)
