-- Laws that Theorems/Aligned rests on.
use Rattle.std.specs.Prelude.{ℕ, zero, suc, ◌+◌, ◌-◌, ◌*◌, ◌/◌, ◌%◌, ◌≤◌, ◌<◌, ◌≡◌, refl, Bool, true, false, eqb, ltb, ℤ, pos, negsuc, neg_ℤ, ◌*ℤ◌, Err, Ok, Result}
use Rattle.std.proofs.Common.{sym, ap, ◌∙◌, mod-lt, div-add-mod', add-mul, one-mul, zero-mul, suc-mul, mul-le-mul_right, lt_of_mul-lt-mul_right, arith, ltb-true, ltb-false, lt-ltb, le-ltb, eqb-true, ne_eqb}
use Rattle.std.proofs.Math.Nat.{mod-le, add-mul-mod_self_right, zero-div}
use Rattle.std.proofs.Math.IntN.{sub_ℕ}
use Rattle.std.proofs.lemmas.Bool.{eqb-false}
use Rattle.prelude.specs.Laws.Bools.{either, unlike}
use Rattle.prelude.specs.Pick.{pick}
use Rattle.prelude.specs.declared.Refusal.{Refusal}
use Rattle.bankdef.specs.declared.Bankdef.{Bankdef}
use Rattle.iter.specs.Distance.{skips_of, no_skip}
use Rattle.iter.specs.declared.Skipped.{Skipped}
use Rattle.iter.specs.Aligned.{Aligns}

-- ---- on the two sides of 0

pos-same : (m n : ℕ) → pos m ≡ pos n → m ≡ n
pos-same m n e = cc

-- a number from 0 on is no negative one
not-below : (n m : ℕ) → 0 < m → pos n ≡ neg_ℤ (pos m) → ⊥
not-below n zero h e = omega arith
not-below n (suc m) h e = unlike cc

-- s less s + m is -m
pub less : (s m n : ℕ) → n ≡ m + s → sub_ℕ s n ≡ neg_ℤ (pos m)
less s zero n e = rw (le-ltb s n (omega arith)) (ap pos (omega arith))
less s (suc m) n e = rw (lt-ltb s n (omega arith)) (ap negsuc (omega arith))

-- and only of that
less-only : (s m n : ℕ) → 0 < m → sub_ℕ s n ≡ neg_ℤ (pos m) → n ≡ m + s
less-only s m n h e =
    either (ltb s n)
    (λ t. let l = ltb-true s n t in below m h l (rw t at e))
    (λ t. absurd (not-below (s - n) m h (rw t at e)))
  where
    negative-same : (x y : ℕ) → negsuc x ≡ negsuc y → x ≡ y
    negative-same x y e = cc

    below : (k : ℕ) → 0 < k → s < n → negsuc (n - suc s) ≡ neg_ℤ (pos k) → n ≡ k + s
    below zero h l e = absurd (omega arith)
    below (suc k) h l e = omega (arith, negative-same (n - suc s) k e)

pub neg-times : (q a : ℕ) → neg_ℤ (pos q) *ℤ pos a ≡ neg_ℤ (pos (q * a))
neg-times zero a = rw (zero-mul a)
neg-times (suc q) a = refl

some-times : (k a : ℕ) → 0 < a → 0 < suc k * a
some-times k a h = omega (arith, suc-mul k a)

module _ (n a : ℕ) (h : 0 < a) where
  -- the multiple that n has passed or reached
  reached : n ≡ n / a * a + n % a
  reached = sym (div-add-mod' n a)

  next : (n / a + 1) * a ≡ n / a * a + a
  next = add-mul (n / a) 1 a ∙ ap (λ x. n / a * a + x) (one-mul a)

  to-next : n + (a - n % a) ≡ (n / a + 1) * a
  to-next = rw next (omega (arith, reached, mod-lt n h))

  -- with bits left over, each multiple from n on is past the one that n has passed
  past : (e k : ℕ) → (n % a ≡ 0 → ⊥) → n + e ≡ k * a → a - n % a ≤ e
  past e k q m =
      let l : n / a * a < k * a = omega (arith, reached, q) in
      let s : (n / a + 1) * a ≤ k * a = mul-le-mul_right a (omega (arith, lt_of_mul-lt-mul_right a l)) in
      omega (arith, reached, next)

  past-any : (e : ℕ) (k : ℤ) → (n % a ≡ 0 → ⊥) → pos (n + e) ≡ k *ℤ pos a → a - n % a ≤ e
  past-any e (pos k) q m = past e k q (pos-same (n + e) (k * a) m)
  past-any e (negsuc k) q m = absurd (not-below (n + e) (suc k * a) (some-times k a h) m)

  pub above : (b : Bool) → eqb (n % a) 0 ≡ b → Aligns (pos n) a (pick b 0 (a - n % a))
  above true e = record {
    below = h;
    times = pos (n / a);
    multiple = ap pos (omega (arith, reached, eqb-true (n % a) 0 e));
    least = λ e k m. omega arith;
  }
  above false e = record {
    below = omega (arith, eqb-false (n % a) 0 e, mod-lt n h);
    times = pos (n / a + 1);
    multiple = ap pos to-next;
    least = λ e' k m. past-any e' k (eqb-false (n % a) 0 e) m;
  }

-- m bits before 0, the multiple above is m % a bits away
module _ (n a : ℕ) (h : 0 < a) where
  abbrev pub m : ℕ
  m = suc n

  nearest : (e : ℕ) (k : ℤ) → sub_ℕ e m ≡ k *ℤ pos a → m % a ≤ e
  nearest e (pos k) q =
      either (ltb e m)
      (λ t. absurd (not-below (k * a) (m - e) (omega (arith, ltb-true e m t)) (sym q ∙ less e (m - e) m (omega (arith, ltb-true e m t)))))
      (λ t. omega (arith, ltb-false e m t, mod-le m a))
  nearest e (negsuc k) q =
      let p : m ≡ suc k * a + e = less-only e (suc k * a) m (some-times k a h) q in
      let r : m % a ≡ e % a = ap (λ (x : ℕ). x % a) (p ∙ omega arith) ∙ add-mul-mod_self_right e (suc k) a in
      omega (arith, r, mod-le e a)

  pub below-zero : Aligns (negsuc n) a (m % a)
  below-zero = record {
    below = mod-lt m h;
    times = neg_ℤ (pos (m / a));
    multiple = less (m % a) (m / a * a) m (sym (div-add-mod' m a)) ∙ sym (neg-times (m / a) a);
    least = nearest;
  }

pub nonzero : (a : ℕ) → 0 < a → eqb a 0 ≡ false
nonzero a h = ne_eqb a 0 (λ e. omega arith)

-- ---- the definition followed test by test

pub never : (why : Refusal) (s : Skipped) → Err why ≡ Ok s → ⊥
never why s e = unlike cc

pub skips-same : {s t : Skipped} → ◌≡◌ {A = Result Skipped Refusal} (Ok s) (Ok t) → s ≡ t
skips-same e = cc

-- a distance of 0 skips no unit
pub none_in : (def : Bankdef) → skips_of def 0 ≡ no_skip
none_in def = rw (zero-div def.unit)
