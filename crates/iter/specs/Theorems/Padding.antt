-- Theorems about what Padding defines.
use Rattle.std.specs.Prelude.{ℕ, ◌+◌, ◌/◌, ◌^◌, ◌<◌, ◌≡◌, refl, Ok}
use Rattle.std.proofs.Common.{sym, ap, subst, ◌∙◌, arith, le-leb}
use Rattle.prelude.specs.Laws.Bools.{either}
use Rattle.prelude.specs.Limits.{max_banks}
use Rattle.prelude.specs.Laws.Pick.{pick_true}
use Rattle.bankdef.specs.declared.Bankdef.{Bankdef}
use Rattle.iter.specs.Theorems.Aligned.{four-when, told-when}
use Rattle.iter.specs.Laws.Aligned.{skips-same, never}
use Rattle.iter.specs.Distance.{tellable, distance_of}
use Rattle.iter.specs.Step.{start_of}
use Rattle.iter.specs.Step.{max_sum, sum_after}
use Rattle.iter.specs.declared.Lost.{Lost}
use Rattle.nodes.specs.declared.Node.{Node}
use Rattle.iter.specs.declared.Skipped.{Skipped}
use Rattle.iter.specs.declared.Walk.{Walk}
use Rattle.iter.specs.Laws.Padding.{none_yet}
use Rattle.iter.specs.Padding.{Part, the-bits, the-units, lost_in}

-- ---- units

-- "distance over unit, rounded down"
pub units-over-unit : (def : Bankdef) (position a node : ℕ) (s : Skipped) → distance_of def position a node ≡ Ok s → s.units ≡ s.bits / def.unit
units-over-unit def position a node s e =
    either (tellable def)
    (λ t. subst (λ (x : Skipped). x.units ≡ x.bits / def.unit) (skips-same (sym (told-when def position a node t) ∙ e)) refl)
    (λ t. absurd (never _ s (sym (four-when def position a node t) ∙ e)))

-- ---- sums

-- The addition is exact whenever the sum is below 2^64.
pub sum-exact : (sum more : ℕ) → sum + more < 2 ^ 64 → sum_after sum more ≡ sum + more
sum-exact sum more h = pick_true _ _ (le-leb (sum + more) max_sum (omega arith))

-- ---- over a list of nodes

-- No bank has lost a bit or a unit at the start,
pub starts-lossless : (part : Part) (j : ℕ) → lost_in part start_of j ≡ 0
unfolding start_of
starts-lossless the-bits j = ap (λ (l : Lost). l.bits) (none_yet max_banks j)
starts-lossless the-units j = ap (λ (l : Lost). l.units) (none_yet max_banks j)
