-- Theorems about what RunLaws defines.
use Rattle.std.specs.Prelude.{◌≡◌, refl, Bool, true, false, List, [], ◌∷◌, ◌++◌, eqb}
use Rattle.std.proofs.Common.{sym, ap₂, eqb-true}
use Rattle.std.proofs.Math.Path.{subst}
use Prim.Native.Nat.{ℕ, zero, suc, ◌+◌, ◌-◌, ◌≤◌, ◌<◌}
use Rattle.std.proofs.Math.Decide.{dec_lt}
use native.Mathlib.Omega.{arith}
use Rattle.std.proofs.lemmas.Bool.{eqb-false}
use Rattle.prelude.specs.Laws.Bools.{either, clash}
use Rattle.prelude.specs.Pick.{pick}
use Rattle.blocks.specs.declared.Block.{Block}
use Rattle.blocks.specs.Walk.{block, end_of}
use Rattle.record_read.specs.Runs.{in_front, runs}
use Rattle.record_read.specs.RunLaws.{AreRuns, Clear, Holds, IsFirst}

module _ (test : ℕ → Bool) where
  -- ---- the definition's list is one

  first-later : (at hi : ℕ) (l : List Block) → test at ≡ false → AreRuns test (suc at) hi l → AreRuns test at hi l
  first-later at hi [] f r = λ x h k.
      elim (dec_lt at x) [
        | yes p ↦ r x p k
        | no p ↦ let e : at ≡ x = omega arith in subst (λ (y : ℕ). test y ≡ false) e f
      ]
  first-later at hi (b ∷ l) f r = (
    record {
      from = omega (arith, r.0.from);
      some = r.0.some;
      ends = r.0.ends;
      before = λ x h k.
          elim (dec_lt at x) [
            | yes p ↦ r.0.before x p k
            | no p ↦ let e : at ≡ x = omega arith in subst (λ (y : ℕ). test y ≡ false) e f
          ];
      inside = r.0.inside;
      after = r.0.after;
    },
    r.1,
  )

  -- a byte of its own
  alone : (at hi : ℕ) → test at ≡ true → suc at < hi → test (suc at) ≡ false → IsFirst test at hi (block at 1)
  alone at hi t h f =
      let e : suc at ≡ at + 1 = omega arith in
      record {
        from = omega arith;
        some = omega arith;
        ends = omega arith;
        before = λ x l u. absurd (omega arith);
        inside = λ x l u. let s : at ≡ x = omega arith in subst (λ (y : ℕ). test y ≡ true) s t;
        after = subst (λ (y : ℕ). test y ≡ false) e f;
      }

  touching : (at hi : ℕ) (b : Block) → test at ≡ true → b.origin ≡ suc at → IsFirst test (suc at) hi b → IsFirst test at hi (block at (suc b.size))
  touching at hi b t o g =
      let e : end_of b ≡ at + suc b.size = omega arith in
      record {
        from = omega arith;
        some = omega arith;
        ends = omega (arith, g.ends);
        before = λ x l u. absurd (omega arith);
        inside = λ x l u.
            elim (dec_lt at x) [
              | yes p ↦ g.inside x (omega arith) (omega arith)
              | no p ↦ let s : at ≡ x = omega arith in subst (λ (y : ℕ). test y ≡ true) s t
            ];
        after = subst (λ (y : ℕ). test y ≡ false) e g.after;
      }

  front : (at hi : ℕ) (l : List Block) → test at ≡ true → suc at < hi → AreRuns test (suc at) hi l → AreRuns test at hi (in_front at l)
  front at hi [] t h r =
      let e : suc at ≡ at + 1 = omega arith in
      (alone at hi t h (r (suc at) (omega arith) h), λ x l u. r x (omega arith) u)
  front at hi (b ∷ l) t h r = go (eqb b.origin (suc at)) refl
    where
      go : (q : Bool) → eqb b.origin (suc at) ≡ q → AreRuns test at hi (pick q (block at (suc b.size) ∷ l) (block at 1 ∷ b ∷ l))
      go true e =
          let o = eqb-true b.origin (suc at) e in
          let s : end_of b ≡ at + suc b.size = omega arith in
          (touching at hi b t o r.0, subst (λ (y : ℕ). AreRuns test y hi l) s r.1)
      go false e =
          let o = eqb-false b.origin (suc at) e in
          let s : suc at ≡ at + 1 = omega arith in
          let gap : suc at < b.origin = elim (dec_lt (suc at) b.origin) [ yes p ↦ p | no p ↦ absurd (o (omega (arith, r.0.from))) ] in
          (alone at hi t h (r.0.before (suc at) (omega arith) gap), (subst (λ (y : ℕ). IsFirst test y hi b) s r.0, r.1))

  -- The n bytes from `at` on, where the test fails right behind them.
  pub runs-are : (n at : ℕ) → test (at + n) ≡ false → AreRuns test at (suc (at + n)) (runs test at n)
  unfolding runs
  runs-are zero at f = λ x l u. let e : at + zero ≡ x = omega arith in subst (λ (y : ℕ). test y ≡ false) e f
  runs-are (suc n) at f =
      let e : suc at + n ≡ at + suc n = omega arith in
      let rest : AreRuns test (suc at) (suc (at + suc n)) (runs test (suc at) n) =
      subst (λ (y : ℕ). AreRuns test (suc at) (suc y) (runs test (suc at) n)) e
      (runs-are n (suc at) (subst (λ (y : ℕ). test y ≡ false) (sym e) f)) in
      either (test at)
      (λ t. rw t (front at (suc (at + suc n)) (runs test (suc at) n) t (omega arith) rest))
      (λ t. rw t (first-later at (suc (at + suc n)) (runs test (suc at) n) t rest))

  -- ---- there is one list

  same-origin : (lo hi : ℕ) (b c : Block) → IsFirst test lo hi b → IsFirst test lo hi c → b.origin ≡ c.origin
  same-origin lo hi b c p q =
      let no_less : b.origin < c.origin → ⊥ = λ h. clash (p.inside b.origin (omega arith) (omega (arith, p.some))) (q.before b.origin p.from h) in
      let no_more : c.origin < b.origin → ⊥ = λ h. clash (q.inside c.origin (omega arith) (omega (arith, q.some))) (p.before c.origin q.from h) in
      omega arith

  same_end : (lo hi : ℕ) (b c : Block) → b.origin ≡ c.origin → IsFirst test lo hi b → IsFirst test lo hi c → end_of b ≡ end_of c
  same_end lo hi b c e p q =
      let no_less : end_of b < end_of c → ⊥ = λ h. clash (q.inside (end_of b) (omega (arith, p.some)) h) p.after in
      let no_more : end_of c < end_of b → ⊥ = λ h. clash (p.inside (end_of c) (omega (arith, q.some)) h) q.after in
      omega arith

  pub one_list : (lo hi : ℕ) (l m : List Block) → AreRuns test lo hi l → AreRuns test lo hi m → l ≡ m
  one_list lo hi [] [] p q = refl
  one_list lo hi [] (b ∷ m) p q =
      absurd (clash (q.0.inside b.origin (omega arith) (omega (arith, q.0.some))) (p b.origin q.0.from (omega (arith, q.0.ends))))
  one_list lo hi (b ∷ l) [] p q =
      absurd (clash (p.0.inside b.origin (omega arith) (omega (arith, p.0.some))) (q b.origin p.0.from (omega (arith, p.0.ends))))
  one_list lo hi (b ∷ l) (c ∷ m) p q =
      let o = same-origin lo hi b c p.0 q.0 in
      let e = same_end lo hi b c o p.0 q.0 in
      let s : b.size ≡ c.size = omega arith in
      let same : b ≡ c = ap₂ block o s in
      ap₂ (λ (x : Block) (r : List Block). x ∷ r) same (one_list (end_of b) hi l m p.1 (subst (λ (y : ℕ). AreRuns test y hi m) (sym e) q.1))

  -- ---- one run more

  pub runs-more : (lo mid hi s e : ℕ) (l : List Block) → AreRuns test lo mid l → lo ≤ mid → mid ≤ s → Clear test mid s → s < e → Holds test s e → e < hi
      → Clear test e hi → AreRuns test lo hi (l ++ (block s (e - s) ∷ []))
  runs-more lo mid hi s e [] r a b c h i k f =
      let z : e ≡ s + (e - s) = omega arith in (
        record {
          from = omega arith;
          some = omega arith;
          ends = omega arith;
          before = λ x l u. elim (dec_lt x mid) [ yes p ↦ r x l p | no p ↦ c x (omega arith) u ];
          inside = λ x l u. i x l (omega arith);
          after = subst (λ (y : ℕ). test y ≡ false) z (f e (omega arith) k);
        },
        λ x l u. f x (omega arith) u,
      )
  runs-more lo mid hi s e (d ∷ l) r a b c h i k f = (
    record {
      from = r.0.from;
      some = r.0.some;
      ends = omega (arith, r.0.ends);
      before = r.0.before;
      inside = r.0.inside;
      after = r.0.after;
    },
    runs-more (end_of d) mid hi s e l r.1 (omega (arith, r.0.ends)) b c h i k f,
  )
