-- The answers that `cover` gives, one law for each: by the first block that ends past the range's start, and the chain from it on.
use Rattle.std.specs.Prelude.{Err, Ok}
use mathlib.Core.Path.{◌≡◌}
use mathlib.Core.Bool.{Bool, true, false}
use mathlib.Core.List.{List}
use Prim.Native.Nat.{ℕ, ◌+◌, ◌-◌, ◌*◌, ◌/◌, ◌≤◌, ◌<◌}
use native.Mathlib.Omega.{arith}
use lib.ListN.{length, get_or}
use Rattle.prelude.specs.declared.Refusal.TheVariants.{PartlyCovered}
use Rattle.overlay.specs.declared.Source.TheVariants.{Overlay, Released}
use Rattle.overlay.specs.Cover.{covered_bit}
use Rattle.overlay.specs.Theorems.CoverFacts.{all-from-bits, all-fails, none_from, none-fails}
use Rattle.overlay.specs.Laws.CoverFacts.{covered-by}
use Rattle.overlay.specs.Laws.Order.{Row}
use Rattle.overlay.specs.Range.{judged}
use Rattle.overlay.specs.Steps.{Finds, Chain}
use Rattle.overlay.proofs.BlockLaws.{starts-rise, ends-rise, gap-free, chain-covers, chain-end-free}

-- by the bits of the range
module _ (bit : ℕ → Bool) (first end : ℕ) (h : first < end) where
  free-released : ((k : ℕ) → 8 * first ≤ k → k < 8 * end → bit k ≡ false) → (Ok Released) ≡ judged bit first (end - first)
  free-released free =
      rw (
        all-fails bit first (end - first) (8 * first) (omega arith) (omega arith) (free (8 * first) (omega arith) (omega arith)),
        none_from bit first (end - first) (λ k l u. free k l (omega arith)),
      )

  some-partly : (k j : ℕ) → 8 * first ≤ k → k < 8 * end → bit k ≡ false → 8 * first ≤ j → j < 8 * end → bit j ≡ true
      → Err PartlyCovered ≡ judged bit first (end - first)
  some-partly k j l u e m v f =
      rw (all-fails bit first (end - first) k l (omega arith) e, none-fails bit first (end - first) j m (omega arith) f)

  whole-overlay : ((k : ℕ) → 8 * first ≤ k → k < 8 * end → bit k ≡ true) → (Ok Overlay) ≡ judged bit first (end - first)
  whole-overlay full = rw (all-from-bits bit first (end - first) (λ k l u. full k l (omega arith)))

module _ (os ss : List ℕ) (first end at : ℕ) (r : Row 0 os ss) (f : Finds os ss first at) (h : first < end) where
  pub none_left : length os ≤ at → (Ok Released) ≡ judged (covered_bit os ss) first (end - first)
  none_left past =
      free-released (covered_bit os ss) first end h λ k l u.
      gap-free os ss r at k (λ m v. omega (arith, f.below m v)) (λ m v w. omega arith)

  module _ (one : at < length os) where
    pub next-behind : end ≤ get_or os at 0 / 8 → (Ok Released) ≡ judged (covered_bit os ss) first (end - first)
    next-behind b =
        free-released (covered_bit os ss) first end h λ k l u.
        gap-free os ss r at k (λ m v. omega (arith, f.below m v)) (λ m v w. omega (arith, starts-rise os ss r at m v w))

    pub starts-later : get_or os at 0 / 8 < end → first < (get_or os at 0 + 0 + 7) / 8 → Err PartlyCovered ≡ judged (covered_bit os ss) first (end - first)
    starts-later b l =
        some-partly (covered_bit os ss) first end h (8 * first) (get_or os at 0) (omega arith) (omega arith)
        (gap-free os ss r at (8 * first) (λ m v. f.below m v) (λ m v w. omega (arith, starts-rise os ss r at m v w)))
        (omega arith)
        (omega arith)
        (covered-by os ss at (get_or os at 0) one r.paired (omega arith) (omega (arith, r.some at one)))

    module _ (low : (get_or os at 0 + 0 + 7) / 8 ≤ first) (last : ℕ) (c : Chain os ss at last) where
      reaches : 8 * first < get_or os last 0 + get_or ss last 0
      reaches = omega (arith, f.past at (omega arith) one, ends-rise os ss r at last c.from c.one)

      pub ends-early : (get_or os last 0 + get_or ss last 0) / 8 < end → Err PartlyCovered ≡ judged (covered_bit os ss) first (end - first)
      ends-early e =
          some-partly (covered_bit os ss) first end h (get_or os last 0 + get_or ss last 0) (8 * first)
          (omega (arith, reaches)) (omega arith) (chain-end-free os ss r at last c) (omega arith) (omega arith)
          (chain-covers os ss r at last c (8 * first) (omega arith) reaches)

      pub covers-all : end ≤ (get_or os last 0 + get_or ss last 0) / 8 → (Ok Overlay) ≡ judged (covered_bit os ss) first (end - first)
      covers-all e =
          whole-overlay (covered_bit os ss) first end h λ k l u.
          chain-covers os ss r at last c k (omega arith) (omega arith)
