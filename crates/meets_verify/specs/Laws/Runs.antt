-- The runs of the definition are the runs of the sentences.
use Rattle.std.specs.Prelude.{◌≡◌, refl, length}
use Rattle.std.proofs.Math.Path.{sym}
use Rattle.std.proofs.Common.{◌∙◌, subst, ⊎_elim, eq-eqb, ne_eqb}
use mathlib.Core.List.{List, [], ◌∷◌}
use Prim.Native.Nat.{ℕ, zero, suc, ◌+◌, ◌-◌, ◌≤◌, ◌<◌}
use Rattle.std.proofs.Math.Decide.{dec_lt, ℕ_discrete}
use native.Mathlib.Omega.{arith}
use Rattle.verify.specs.Whole.{Sound}
use Rattle.verify.specs.Put.{firsts, counts, kinds}
use Rattle.verify.specs.Runs.{Readback, Run, run, kind_of, runs_from, runs_of}
use Rattle.meets_verify.specs.Laws.Blocks.{kind-one, kind-two, one-kind, two-kind, any-kind}
use Rattle.says.specs.Verify as says
use Rattle.says.specs.Verify.{Listed, Of, Runs}

module _ (t : Readback) (sound : Sound t.offsets t.sizes) (given : Sound t.given_offsets t.given_sizes) where
  abbrev Is : ℕ → Type 0
  Is = Listed t.image t.offsets t.sizes t.bytes t.given_offsets t.given_sizes

  abbrev IsOf : ℕ → ℕ → Type 0
  IsOf = Of t.image t.offsets t.sizes t.bytes t.given_offsets t.given_sizes

  abbrev AreRuns : ℕ → List Run → Type 0
  AreRuns at l = Runs t.image t.offsets t.sizes t.bytes t.given_offsets t.given_sizes at (firsts l) (counts l) (kinds l)

  -- ---- a byte by its kind
  listed-inside : (b : ℕ) → Is b → b < length t.image
  listed-inside b l = ⊎_elim (λ m. m.inside) (λ d. d.inside) l

  listed-kind : (b : ℕ) → Is b → kind_of t b ≡ 0 → ⊥
  listed-kind b l e =
      ⊎_elim (λ m. omega (arith, one-kind t sound given b m)) (λ d. omega (arith, two-kind t sound given b d)) l

  kind-is : (b k : ℕ) → IsOf b k → kind_of t b ≡ k
  kind-is b k (says.one m) = one-kind t sound given b m
  kind-is b k (says.two d) = two-kind t sound given b d

  of-inside : (b k : ℕ) → IsOf b k → b < length t.image
  of-inside b k (says.one m) = m.inside
  of-inside b k (says.two d) = d.inside

  is-kind : (b k : ℕ) → b < length t.image → kind_of t b ≡ k → (k ≡ 0 → ⊥) → IsOf b k
  is-kind b k h e n =
      subst (λ (j : ℕ). IsOf b j) e
      (any-kind t sound given b (λ (j : ℕ). kind_of t b ≡ j → (j ≡ 0 → ⊥) → IsOf b j) (λ f z. absurd (z refl)) (λ f z. says.one (kind-one t sound given b h f))
      (λ f z. says.two (kind-two t sound given b h f)) refl (λ z. n (sym e ∙ z)))

  -- ---- a run that ends before byte b
  closing : {at first b kind : ℕ} (rest : List Run) → at ≤ first → first < b → b ≤ length t.image → (kind ≡ 0 → ⊥)
      → ((x : ℕ) → at ≤ x → x < first → kind_of t x ≡ 0) → ((x : ℕ) → first ≤ x → x < b → kind_of t x ≡ kind) → (IsOf b kind → ⊥) → AreRuns b rest
      → AreRuns at (run first (b - first) kind ∷ rest)
  closing {at} {first} {b} {kind} rest a h k n before inside past r =
      let e : b ≡ first + (b - first) = omega arith in
      says.run {n = b - first} a (omega arith) (λ x l u is. listed-kind x is (before x l u))
      (λ x l u. is-kind x kind (omega arith) (inside x l (omega arith)) n)
      (subst (λ (m : ℕ). IsOf m kind → ⊥) e past)
      (subst (λ (m : ℕ). AreRuns m rest) e r)

  -- ---- the n bytes from b on, and the run that has gone on to them
  runs-from : (n at first b kind : ℕ) → at ≤ first → first ≤ b → ((kind ≡ 0 → ⊥) → first < b) → b + n ≡ length t.image
      → ((x : ℕ) → at ≤ x → x < first → kind_of t x ≡ 0) → ((x : ℕ) → first ≤ x → x < b → kind_of t x ≡ kind)
      → AreRuns at (runs_from (kind_of t) kind first b n)
  unfolding runs_from
  runs-from zero at first b kind a h live all before inside =
      let past : (x : ℕ) → b ≤ x → Is x → ⊥ = λ x l is. omega (arith, listed-inside x is) in
      elim (ℕ_discrete kind 0) [
        | yes y ↦ rw (eq-eqb kind 0 y) (says.none (λ x l is.
            elim (dec_lt x first) [
              | yes z ↦ listed-kind x is (before x l z)
              | no z ↦ elim (dec_lt x b) [ yes w ↦ listed-kind x is (inside x (omega arith) w ∙ y) | no w ↦ past x (omega arith) is ]
            ]))
        | no y ↦ rw (ne_eqb kind 0 y) (closing [] a (live y) (omega arith) y before inside (λ o. omega (arith, of-inside b kind o)) (says.none past))
      ]
  runs-from (suc n) at first b kind a h live all before inside =
      elim (ℕ_discrete (kind_of t b) kind) [
        | yes y ↦ rw (eq-eqb (kind_of t b) kind y) (runs-from n at first (suc b) (kind_of t b) a (omega arith) (λ z. omega arith) (omega arith) before
            (λ x l u. elim (dec_lt x b) [
              | yes w ↦ inside x l w ∙ sym y
              | no w ↦ let e : x ≡ b = omega arith in rw e
            ]))
        | no y ↦ rw (ne_eqb (kind_of t b) kind y) (elim (ℕ_discrete kind 0) [
          | yes z ↦ rw (eq-eqb kind 0 z) (runs-from n at b (suc b) (kind_of t b) (omega arith) (omega arith) (λ w. omega arith) (omega arith)
              (λ x l u. elim (dec_lt x first) [ yes w ↦ before x l w | no w ↦ inside x (omega arith) u ∙ z ])
              (λ x l u. let e : x ≡ b = omega arith in rw e))
          | no z ↦ rw (ne_eqb kind 0 z) (closing (runs_from (kind_of t) (kind_of t b) b (suc b) n) a (live z) (omega arith) z before inside
              (λ o. y (kind-is b kind o))
              (runs-from n b b (suc b) (kind_of t b) (omega arith) (omega arith) (λ w. omega arith) (omega arith) (λ x l u. absurd (omega arith))
              (λ x l u. let e : x ≡ b = omega arith in rw e)))
        ])
      ]

  pub runs-meets : AreRuns 0 (runs_of t)
  unfolding runs_of
  runs-meets = runs-from (length t.image) 0 0 0 0 (omega arith) (omega arith) (λ n. absurd (n refl)) (omega arith) (λ x l u. absurd (omega arith))
      (λ x l u. absurd (omega arith))
