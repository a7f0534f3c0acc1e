-- Laws of the first byte that no block holds, for blocks that are the runs of a test.
use Rattle.std.specs.Prelude.{◌≡◌, refl, Bool, true, false, List, [], ◌∷◌, map, ℕ, ◌+◌, ◌*◌, ◌/◌, ◌≤◌, ◌<◌}
use Rattle.std.proofs.Common.{sym, subst, ◌∙◌, le-leb, lt-ltb, le-ltb}
use Rattle.std.proofs.Math.Path.{ap}
use Rattle.std.proofs.Math.Decide.{dec_lt}
use native.Mathlib.Omega.{arith}
use Rattle.std.proofs.lemmas.Bool.{lt-leb}
use Rattle.blocks.specs.Outcome.{origins, sizes}
use Rattle.blocks.specs.Walk.{end_of}
use Rattle.blocks.specs.declared.Block.{Block}
use Rattle.record_read.specs.RunLaws.{AreRuns}
use Rattle.record_read.specs.Runs.{in_bits}
use Rattle.print_bench.specs.Images.{beyond_of, free_from}

-- ---- one block

pub stays-below : (offset size at : ℕ) → at < offset / 8 → beyond_of offset size at ≡ at
stays-below offset size at h = rw (lt-leb (offset / 8) at h)

pub stays-above : (offset size at : ℕ) → offset / 8 ≤ at → offset / 8 + size / 8 ≤ at → beyond_of offset size at ≡ at
stays-above offset size at h k = rw (le-leb (offset / 8) at h, le-ltb at (offset / 8 + size / 8) k)

pub goes-past : (offset size at : ℕ) → offset / 8 ≤ at → at < offset / 8 + size / 8 → beyond_of offset size at ≡ offset / 8 + size / 8
goes-past offset size at h k = rw (le-leb (offset / 8) at h, lt-ltb at (offset / 8 + size / 8) k)

-- ---- blocks that are runs of bytes

abbrev pub free_in : List Block → ℕ → ℕ
free_in l at = free_from (origins (map in_bits l)) (sizes (map in_bits l)) at

module _ (b : Block) (l : List Block) (at : ℕ) where
  pub free-before : at < b.origin → free_in (b ∷ l) at ≡ free_in l at
  unfolding free_from
  free-before h = ap (free_in l) (stays-below (8 * b.origin) (8 * b.size) at (omega arith))

  pub free-behind : end_of b ≤ at → free_in (b ∷ l) at ≡ free_in l at
  unfolding free_from
  free-behind h = ap (free_in l) (stays-above (8 * b.origin) (8 * b.size) at (omega arith) (omega arith))

  pub free-past : b.origin ≤ at → at < end_of b → free_in (b ∷ l) at ≡ free_in l (end_of b)
  unfolding free_from
  free-past h k =
      let same : 8 * b.origin / 8 + 8 * b.size / 8 ≡ end_of b = omega arith in
      ap (free_in l) (goes-past (8 * b.origin) (8 * b.size) at (omega arith) (omega arith) ∙ same)

-- before, inside or behind a block
pub three_ways {ℓ} : {X : Type ℓ} (b : Block) (at : ℕ) → (at < b.origin → X) → (b.origin ≤ at → at < end_of b → X) → (end_of b ≤ at → X) → X
three_ways b at before inside behind =
    elim (dec_lt at b.origin) [
      | yes p ↦ before p
      | no p ↦ elim (dec_lt at (end_of b)) [ yes q ↦ inside (omega arith) q | no q ↦ behind (omega arith) ]
    ]

pub free-nothing : (at : ℕ) → free_in [] at ≡ at
unfolding free_from
free-nothing at = refl

pub free-above : (l : List Block) (at : ℕ) → at ≤ free_in l at
free-above [] at = omega (arith, free-nothing at)
free-above (b ∷ l) at =
    three_ways b at
    (λ h. omega (arith, free-before b l at h, free-above l at))
    (λ h k. omega (arith, free-past b l at h k, free-above l (end_of b)))
    (λ h. omega (arith, free-behind b l at h, free-above l at))

module _ (test : ℕ → Bool) where
  -- below every run nothing is gone past
  free_stays : (lo hi : ℕ) (l : List Block) → AreRuns test lo hi l → (at : ℕ) → at < lo → free_in l at ≡ at
  free_stays lo hi [] r at h = free-nothing at
  free_stays lo hi (b ∷ l) r at h =
      free-before b l at (omega (arith, r.0.from)) ∙ free_stays (end_of b) hi l r.1 at (omega (arith, r.0.from))

  -- every byte that is gone past is one for which the test holds
  pub free-holds : (lo hi : ℕ) (l : List Block) → AreRuns test lo hi l → (at k : ℕ) → at ≤ k → k < free_in l at → test k ≡ true
  free-holds lo hi [] r at k h u = absurd (omega (arith, free-nothing at))
  free-holds lo hi (b ∷ l) r at k h u =
      three_ways b at
      (λ p. free-holds (end_of b) hi l r.1 at k h (omega (arith, free-before b l at p)))
      (λ p q.
      elim (dec_lt k (end_of b)) [
        | yes y ↦ r.0.inside k (omega arith) y
        | no y ↦ free-holds (end_of b) hi l r.1 (end_of b) k (omega arith) (omega (arith, free-past b l at p q))
      ])
      (λ p. free-holds (end_of b) hi l r.1 at k h (omega (arith, free-behind b l at p)))

  -- and it fails for the one that is reached
  pub free-fails : (lo hi : ℕ) (l : List Block) → AreRuns test lo hi l → ((x : ℕ) → hi ≤ x → test x ≡ false) → (at : ℕ) → lo ≤ at
      → test (free_in l at) ≡ false
  free-fails lo hi [] r above at h =
      subst (λ (k : ℕ). test k ≡ false) (sym (free-nothing at)) (elim (dec_lt at hi) [ yes p ↦ r at h p | no p ↦ above at (omega arith) ])
  free-fails lo hi (b ∷ l) r above at h =
      three_ways b at
      (λ p.
      subst (λ (k : ℕ). test k ≡ false) (sym (free-before b l at p ∙ free_stays (end_of b) hi l r.1 at (omega arith))) (r.0.before at h p))
      (λ p q.
      subst (λ (k : ℕ). test k ≡ false) (sym (free-past b l at p q)) (free-fails (end_of b) hi l r.1 above (end_of b) (omega arith)))
      (λ p. subst (λ (k : ℕ). test k ≡ false) (sym (free-behind b l at p)) (free-fails (end_of b) hi l r.1 above at p))
