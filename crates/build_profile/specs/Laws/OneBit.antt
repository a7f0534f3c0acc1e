-- Laws that Theorems/OneBit rests on.
use Rattle.std.specs.Prelude.{ℕ, zero, suc, ◌+◌, ◌*◌, ◌/◌, ◌%◌, ◌^◌, ◌≤◌, ◌<◌, ◌≡◌, refl, eqb}
use Rattle.std.proofs.Common.{sym, ap, ◌∙◌, le_refl, arith, eqb-true}
use Rattle.std.proofs.Math.Nat.{pow-succ', div-div-eq-div-mul, zero-div}
use Rattle.std.specs.Int.Count.{ones, ones_step}
use Rattle.std.proofs.lemmas.Nat.{ones_cat}
use Rattle.std.proofs.lemmas.Bool.{eqb-false}
use Rattle.prelude.specs.Laws.Bools.{either}
use Rattle.build_profile.specs.OneBit.{OneSet, bit}

lowest : (n : ℕ) → bit n 0 ≡ n % 2
lowest n = omega arith

higher : (n k : ℕ) → bit n (suc k) ≡ bit (n / 2) k
higher n k = ap (λ (x : ℕ). n / x % 2) (pow-succ' 2 k) ∙ ap (λ (x : ℕ). x % 2) (sym (div-div-eq-div-mul n 2 (2 ^ k)))

-- a number of which no bit is set is 0
none-set : (d n : ℕ) → n ≤ d → ((j : ℕ) → bit n j ≡ 1 → ⊥) → n ≡ 0
none-set zero n h unset = omega arith
none-set (suc d) n h unset =
    let low : n % 2 ≡ 1 → ⊥ = λ e. unset 0 (lowest n ∙ e) in
    let half : n / 2 ≡ 0 = none-set d (n / 2) (omega arith) (λ j e. unset (suc j) (higher n j ∙ e)) in
    omega arith

pub power-of : (k n : ℕ) → OneSet n k → n ≡ 2 ^ k
power-of zero n a =
    let low : n % 2 ≡ 1 = sym (lowest n) ∙ a.is in
    let half : n / 2 ≡ 0 = none-set (n / 2) (n / 2) (le_refl (n / 2))
    (λ j e. let z : suc j ≡ 0 = a.alone (suc j) (higher n j ∙ e) in omega arith) in
    omega arith
power-of (suc k) n a =
    let low : n % 2 ≡ 1 → ⊥ = λ e. let z : 0 ≡ suc k = a.alone 0 (lowest n ∙ e) in omega arith in
    let half : n / 2 ≡ 2 ^ k = power-of k (n / 2) (record {
      is = sym (higher n k) ∙ a.is;
      alone = λ j e. let s : suc j ≡ suc k = a.alone (suc j) (higher n j ∙ e) in omega arith;
    }) in
    omega (arith, pow-succ' 2 k)

pub of-power : (k : ℕ) → OneSet (2 ^ k) k
of-power zero = record { is = refl; alone = first }
  where
    first : (j : ℕ) → bit 1 j ≡ 1 → j ≡ 0
    first zero e = refl
    first (suc j) e =
        let z : ◌≡◌ {A = ℕ} 0 1 = sym (ap (λ (x : ℕ). x % 2) (zero-div (2 ^ j))) ∙ (sym (higher 1 j) ∙ e) in
        absurd (omega arith)
of-power (suc k) = record { is = higher (2 ^ suc k) k ∙ (ap (λ (x : ℕ). bit x k) half ∙ (of-power k).is); alone = only (of-power k).alone }
  where
    half : 2 ^ suc k / 2 ≡ 2 ^ k
    half = omega (arith, pow-succ' 2 k)

    only : ((j : ℕ) → bit (2 ^ k) j ≡ 1 → j ≡ k) → (j : ℕ) → bit (2 ^ suc k) j ≡ 1 → j ≡ suc k
    only rest zero e = absurd (let odd : 2 ^ suc k % 2 ≡ 1 = sym (lowest (2 ^ suc k)) ∙ e in omega (arith, pow-succ' 2 k))
    only rest (suc j) e = ap suc (rest j (ap (λ (x : ℕ). bit x j) (sym half) ∙ (sym (higher (2 ^ suc k) j) ∙ e)))

-- ---- by the count

none-counted : (d n : ℕ) → n ≤ d → ones n ≡ 0 → n ≡ 0
none-counted zero n h e = omega arith
none-counted (suc d) n h e =
    let step = ones_step n in
    let half : n / 2 ≡ 0 = none-counted d (n / 2) (omega arith) (omega arith) in
    omega arith

no_ones : ones 0 ≡ 0
unfolding ones
no_ones = refl

pub counted-power : (d n : ℕ) → n ≤ d → ones n ≡ 1 → (k : ℕ) × (n ≡ 2 ^ k)
counted-power zero n h e = absurd (let z : n ≡ 0 = omega arith in let y : ones 0 ≡ 1 = rw z at e in omega (arith, no_ones))
counted-power (suc d) n h e =
    let step = ones_step n in
    either (eqb (n % 2) 0)
    (λ t.
    let even : n % 2 ≡ 0 = eqb-true (n % 2) 0 t in
    let rest = counted-power d (n / 2) (omega arith) (omega arith) in
    (suc rest.0, omega (arith, rest.1, pow-succ' 2 rest.0)))
    (λ t.
    let odd = eqb-false (n % 2) 0 t in
    let half : n / 2 ≡ 0 = none-counted (n / 2) (n / 2) (le_refl (n / 2)) (omega arith) in
    (0, omega arith))

one-one : ones 1 + ones 0 ≡ 1
unfolding ones
one-one = refl

pow_pos : (k : ℕ) → 0 < 2 ^ k
pow_pos zero = omega arith
pow_pos (suc k) = let h = pow_pos k in omega (arith, pow-succ' 2 k)

pub power-counted : (k : ℕ) → ones (2 ^ k) ≡ 1
power-counted k = let e : 2 ^ k ≡ 1 * 2 ^ k + 0 = omega arith in rw e (ones_cat k 1 0 (pow_pos k) ∙ one-one)
