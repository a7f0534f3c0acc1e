-- Theorems about what Padding defines.
use Prim.Native.Nat.{ℕ, zero, suc, ◌+◌, ◌*◌, ◌^◌, ◌<◌, ◌≤◌}
use Rattle.std.specs.Prelude.{◌≡◌, get_or, length}
use Rattle.std.proofs.Math.Path.{refl, ap}
use Rattle.std.proofs.Common.{sym, ◌∙◌}
use native.Mathlib.Omega.{arith}
use Rattle.std.proofs.Math.Dec.{eqb}
use Rattle.prelude.specs.Limits.{max_banks, max_nodes, max_position}
use Rattle.prelude.specs.Pick.{pick}
use Rattle.iter.specs.Padding.{Part, lost_part, lost_in}
use Rattle.iter.specs.Theorems.Padding.{starts-lossless}
use Rattle.iter.specs.Step.{origin, no_lost, start_of}
use Rattle.iter.specs.Theorems.StepFacts.{count_kept}
use Rattle.resolver.specs.KnownInPass.{bank_at}
use Rattle.nodes.specs.Lists.{Row}
use Rattle.resolver.specs.NodeOrder.{def_at}
use Rattle.resolver.specs.Once.{Program, node, walk_to}
use Rattle.resolver.specs.Laws.Padding.{Walks, lost-kept, origins, padding-part, part_at, pick-most, pick-sum, same-lost, size_at, sizes_to}
use Rattle.resolver.specs.Laws.Padding.{step-carries, step-loses, step-moves}
use Rattle.resolver.specs.Padding.{lost_at, padding_to, sum_in}

module _ (p : Program) (row : Row) where
  many-lost : (n : ℕ) → length (walk_to p row n).lost ≡ max_banks
  unfolding walk_to start_of
  many-lost zero = refl
  many-lost (suc n) = lost-kept (def_at p row n) (walk_to p row n) (node p row n) ∙ many-lost n

  many-at : (n : ℕ) → length (walk_to p row n).at ≡ max_banks
  unfolding walk_to start_of
  many-at zero = refl
  many-at (suc n) = count_kept (def_at p row n) (walk_to p row n) (node p row n) ∙ many-at n

  part-bounded : (part : Part) (n bank : ℕ) → Walks p row n → sum_in p row (part_at p row part) bank n ≤ n * max_position
  unfolding sum_in
  part-bounded part zero bank w = omega arith
  part-bounded part (suc n) bank w =
      let this = w n (omega arith) in
      let less = part-bounded part n bank (λ j h. w j (omega arith)) in
      let one = pick-most (eqb (bank_at p row n) bank) (part_at p row part n) max_position
      (step-loses (def_at p row n) (walk_to p row n) (node p row n) this.0 this.1 part) in
      both_most less one
    where
      both_most : {x y : ℕ} → x ≤ n * max_position → y ≤ max_position → x + y ≤ suc n * max_position
      both_most h g = omega arith

  -- A bank's padding over n nodes is at most n positions, in bits and in units: it never comes near 64 bits.
  pub padding-bounded : (part : Part) (n bank : ℕ) → Walks p row n → lost_part part (padding_to p row bank n) ≤ n * max_position
  padding-bounded part n bank w = rw (padding-part p row part bank n) (part-bounded part n bank w)

  part-carried : (part : Part) (n bank : ℕ) → n ≤ max_nodes → Walks p row n → lost_in part (walk_to p row n) bank ≡ sum_in p row (part_at p row part) bank n
  unfolding walk_to sum_in
  part-carried part zero bank few w = starts-lossless part bank
  part-carried part (suc n) bank few w =
      let this = w n (omega arith) in
      let before : Walks p row n = λ j h. w j (omega arith) in
      let here = part-carried part n (bank_at p row n) (omega arith) before in
      let most = part-bounded part n (bank_at p row n) before in
      step-carries (def_at p row n) (walk_to p row n) (node p row n) this.0 this.1 part (many-lost n) (room here most) bank
      ∙ ap (λ (x : ℕ). x + pick (eqb (bank_at p row n) bank) (part_at p row part n) 0) (part-carried part n bank (omega arith) before)
    where
      room : {x y : ℕ} → x ≡ y → y ≤ n * max_position → x + max_position < 2 ^ 64
      room e h = omega arith

  -- The walk carries each bank's padding: the sums, in node order, of the bits and of the whole units that the bank's nodes lose.
  pub walk-carries-padding : (n bank : ℕ) → n ≤ max_nodes → Walks p row n → get_or (walk_to p row n).lost bank no_lost ≡ padding_to p row bank n
  walk-carries-padding n bank few w = same-lost _ _ (λ part. part-carried part n bank few w ∙ sym (padding-part p row part bank n))

  -- A bank that no `addr` touches ends at the bits of its items and reserves and its padding.
  pub ends-at-sizes-and-padding : (n bank : ℕ) → Walks p row n → ((j : ℕ) → j < n → bank_at p row j ≡ bank → get_or p.kinds j 0 ≡ 9 → ⊥)
      → (get_or (walk_to p row n).at bank origin).position ≡ sizes_to p row bank n + (padding_to p row bank n).bits
  unfolding walk_to start_of sum_in
  ends-at-sizes-and-padding zero bank w none = origins max_banks bank
  ends-at-sizes-and-padding (suc n) bank w none =
      let this = w n (omega arith) in
      let t = eqb (bank_at p row n) bank in
      step-moves (def_at p row n) (walk_to p row n) (node p row n) this.0 this.1 (many-at n) bank (none n (omega arith))
      ∙ ap (λ (x : ℕ). x + pick t (size_at p row n + lost_at p row n) 0)
      (ends-at-sizes-and-padding n bank (λ j h. w j (omega arith)) (λ j h. none j (omega arith)))
      ∙ ap (λ (x : ℕ). sizes_to p row bank n + (padding_to p row bank n).bits + x) (pick-sum t (size_at p row n) (lost_at p row n))
      ∙ four (sizes_to p row bank n) (padding_to p row bank n).bits (pick t (size_at p row n) 0) (pick t (lost_at p row n) 0)
    where
      four : (a b c d : ℕ) → a + b + (c + d) ≡ a + c + (b + d)
      four a b c d = omega arith
