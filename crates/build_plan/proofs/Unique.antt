-- Uniqueness: each public function's own contract has one outcome.
use mathlib.Core.Path.{ap, ◌∙◌}
use Prim.Native.Nat.{ℕ}
use Rattle.prelude.specs.Laws.Pick.{determined}
use Rattle.prelude.specs.Laws.Outcome.{OneOutcome}
use Rattle.prelude.specs.Verdict.{Verdict}
use Rattle.build_plan.specs.declared.Met.{Met}
use Rattle.build_plan.proofs.checks.closes_default.Kinds as closes-default-kinds
use Rattle.build_plan.proofs.checks.closes_default.Reads as closes-default-reads
use Rattle.build_plan.proofs.meet_row.Kinds as meet-row-kinds
use Rattle.build_plan.proofs.meet_row.Reads as meet-row-reads
use Rattle.build_plan.proofs.plan_row.Kinds as plan-row-kinds
use Rattle.build_plan.proofs.plan_row.Reads as plan-row-reads

pub closes-default-unique : OneOutcome 0 closes-default-kinds.ps closes-default-kinds.r closes-default-reads.Learnt
closes-default-unique κs a x y e f p q = determined p q

pub plan-row-unique : OneOutcome 5 plan-row-kinds.ps plan-row-kinds.r plan-row-reads.Learnt
plan-row-unique κs a x y e f p q = determined p.0 q.0

abbrev met_of : Verdict → ℕ → Met
met_of v n = record { verdict = v; nodes = n }

-- the verdict, and how many nodes are met
pub meet-row-unique : OneOutcome 5 meet-row-kinds.ps meet-row-kinds.r meet-row-reads.Learnt
meet-row-unique κs a x y e f p q =
    ap (λ (v : Verdict). met_of v x.nodes) (determined p.0 q.0)
    ∙ ap (λ (n : ℕ). met_of y.verdict n) (determined p.1 q.1)
