-- The overlay's blocks: the sentences' words against the definition's tests.
use Rattle.std.specs.Prelude.{◌≡◌, refl, Bool, true, false, ◌&&◌, List, [], ◌∷◌, ℕ, zero, suc, ◌+◌, ◌≤◌, ◌<◌, ltb, leb, eqb, length, get_or}
use Rattle.std.proofs.Math.Decide.{dec_lt}
use Rattle.std.proofs.Common.{arith, ltb-false, leb-false, leb-true, ltb-true, eqb-true}
use Rattle.std.proofs.lemmas.Bool.{eqb-false}
use Rattle.prelude.specs.Laws.Bools.{either, clash, both}
use Rattle.bitvec.specs.Within.{covers}
use Rattle.overlay.specs.Cover.{covered_bit, every}
use Rattle.overlay.specs.Laws.CoverFacts.{covered-by}
use Rattle.overlay.specs.Order.{in_order, Acceptable}
use Rattle.overlay.specs.Theorems.Order.{in-order-exactly}
use Rattle.says.specs.Overlay as says
use Rattle.says.specs.Overlay.{Covered, BadBlocks}

-- ---- a test that some number fails
pub some-fails : (n : ℕ) (test : ℕ → Bool) → every n test ≡ false → (i : ℕ) × (i < n) × (test i ≡ false)
unfolding every
some-fails zero test e = absurd (clash refl e)
some-fails (suc n) test e = either (every n test)
    (λ t. (n, omega arith, rw t at e))
    (λ f. let r = some-fails n test f in (r.0, omega (arith, r.1), r.2))

-- ---- where blocks are not in order
-- what the first is held against, and each other against the one before it
pub data Misplaced (floor : ℕ) (os ss : List ℕ) : Type 0 where
  empty : {i : ℕ} → i < length os → get_or ss i 0 ≡ 0 → Misplaced floor os ss
  low : 0 < length os → get_or os 0 0 < floor → Misplaced floor os ss
  early : {i : ℕ} → suc i < length os → get_or os (suc i) 0 < get_or os i 0 + get_or ss i 0 → Misplaced floor os ss

behind : (floor o s : ℕ) (os ss : List ℕ) → Misplaced (o + s) os ss → Misplaced floor (o ∷ os) (s ∷ ss)
behind floor o s os ss (empty {i} h e) = empty {i = suc i} (omega arith) e
behind floor o s os ss (low h l) = early {i = 0} (omega arith) l
behind floor o s os ss (early {i} h l) = early {i = suc i} (omega arith) l

misplaced : (floor : ℕ) (os ss : List ℕ) → length os ≡ length ss → in_order floor os ss ≡ false → Misplaced floor os ss
unfolding in_order
misplaced floor [] [] p e = absurd (clash refl e)
misplaced floor [] (s ∷ ss) p e = absurd (omega arith)
misplaced floor (o ∷ os) [] p e = absurd (omega arith)
misplaced floor (o ∷ os) (s ∷ ss) p e = either (ltb 0 s)
    (λ t. either (leb floor o)
    (λ u. behind floor o s os ss (misplaced (o + s) os ss (omega arith) (rw (t, u) at e)))
    (λ f. low (omega arith) (leb-false floor o f)))
    (λ f. empty {i = 0} (omega arith) (let z = ltb-false 0 s f in omega arith))

-- ---- a covered bit has its block
some_block : (os ss : List ℕ) (k : ℕ) → covered_bit os ss k ≡ true
    → (i : ℕ) × ((i < length os) × (get_or os i 0 ≤ k) × (k < get_or os i 0 + get_or ss i 0))
unfolding covered_bit covers
some_block [] ss k e = absurd (clash e refl)
some_block (o ∷ os) [] k e = absurd (clash e refl)
some_block (o ∷ os) (s ∷ ss) k e = either (leb o k && ltb k (o + s))
    (λ t. let h = both (leb o k) (ltb k (o + s)) t in (0, (omega arith, leb-true o k h.0, ltb-true k (o + s) h.1)))
    (λ f. let r = some_block os ss k (rw f at e) in (suc r.0, (omega (arith, r.1.0), r.1.1, r.1.2)))

module _ (overlay released os ss : List ℕ) where
  bad-of : Misplaced 0 os ss → BadBlocks overlay released os ss
  bad-of (empty h e) = says.empty h e
  bad-of (low h l) = absurd (omega arith)
  bad-of (early {i} h l) = either (leb (get_or os (suc i) 0) (get_or os i 0))
      (λ t. says.falling {i = i} {j = suc i} (omega arith) h (leb-true (get_or os (suc i) 0) (get_or os i 0) t))
      (λ f. either (eqb (get_or ss (suc i) 0) 0)
      (λ t. says.empty h (eqb-true (get_or ss (suc i) 0) 0 t))
      (λ g.
      let up : get_or os i 0 < get_or os (suc i) 0 = leb-false (get_or os (suc i) 0) (get_or os i 0) f in
      let some : get_or ss (suc i) 0 ≡ 0 → ⊥ = eqb-false (get_or ss (suc i) 0) 0 g in
      let more : 0 < get_or ss (suc i) 0 = elim (dec_lt 0 (get_or ss (suc i) 0)) [ yes y ↦ y | no n ↦ absurd (some (omega arith)) ] in
      says.sharing {i = i} {j = suc i} {k = get_or os (suc i) 0} (omega arith) (omega arith, omega arith, l) (h, omega arith, omega arith)))

  pub bad-blocks : in_order 0 os ss ≡ false → BadBlocks overlay released os ss
  bad-blocks e = either (eqb (length os) (length ss))
      (λ t. bad-of (misplaced 0 os ss (eqb-true (length os) (length ss) t) e))
      (λ f. says.unpaired (eqb-false (length os) (length ss) f))

  good-blocks : Acceptable os ss → BadBlocks overlay released os ss → ⊥
  good-blocks a (says.unpaired n) = n a.paired
  good-blocks a (says.empty {i} h e) = omega (arith, a.some i h)
  good-blocks a (says.falling {i} {j} l h e) = omega (arith, a.ascending i j l h)
  good-blocks a (says.sharing {i} {j} {k} l x y) = a.apart i j k l y.0 x.1 x.2 y.1 y.2

  pub no-bad-blocks : in_order 0 os ss ≡ true → BadBlocks overlay released os ss → ⊥
  no-bad-blocks e = good-blocks ((in-order-exactly os ss).0 e)

  -- ---- covered bits
  pub is-covered : (k : ℕ) → covered_bit os ss k ≡ true → Covered overlay released os ss k
  is-covered k t = some_block os ss k t

  pub covered-is : in_order 0 os ss ≡ true → (k : ℕ) → Covered overlay released os ss k → covered_bit os ss k ≡ true
  covered-is e k c = covered-by os ss c.0 k c.1.0 ((in-order-exactly os ss).0 e).paired c.1.1 c.1.2
