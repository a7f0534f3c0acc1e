use mathlib.Core.Path.{◌∙◌}
use Rattle.nodes.specs.Lists.{row_with}
use Rattle.resolver.specs.Once.{program_with}
use Rattle.build_visits.specs.Theorems.Sights.{paced-is-visit, paced-next, paced-still}
use Rattle.build_plan.proofs.PlanLaws.{begins, comes, settles, met-refused, goes_on, ends, met_all}
use Rattle.build_plan.proofs.plan_walk.Goals as goal

pub loop-i-init : goal.loop-i-init
loop-i-init c =
    let a = c.args in
    begins (program_with a.banks a.kinds.now a.operands.now a.first.now) (row_with a.numbers.now a.states.now)
    c.requires.switches a.closed a.fill c.requires.fill_le_max_offer.0 c.requires.begun_value

pub returns-in-Err-clause-plan_value : goal.returns-in-Err-clause-plan_value
returns-in-Err-clause-plan_value c =
    -- owning a table tells that it has 16 records
    let came = comes c.loop-i.invariant c.requires.switches c.well_formed.0.1.1.0.1.0.1 c.node_at-node.ensures c.bank_after-bank.ensures in
    c.stopped.ensures.plan_value
    ∙ settles c.loop-i.invariant (paced-is-visit came _ _ c.pace-step.ensures c.get_output_position-out.ensures.value)
    c.place.ensures.verdict_value c.in-Err.why c.loop-i-test.true c.in-Err.is

pub returns-in-Err-clause-met_value : goal.returns-in-Err-clause-met_value
returns-in-Err-clause-met_value c =
    -- owning a table tells that it has 16 records
    let came = comes c.loop-i.invariant c.requires.switches c.well_formed.0.1.1.0.1.0.1 c.node_at-node.ensures c.bank_after-bank.ensures in
    c.stopped.ensures.met_value
    ∙ met-refused c.loop-i.invariant (paced-is-visit came _ _ c.pace-step.ensures c.get_output_position-out.ensures.value)
    c.place.ensures.verdict_value c.in-Err.why c.loop-i-test.true c.in-Err.is

-- a node that skips nothing
pub loop-i-preserved-then-step-eq0 : goal.loop-i-preserved-then-step-eq0
loop-i-preserved-then-step-eq0 c =
    -- owning a table tells that it has 16 records
    let came = comes c.loop-i.invariant c.requires.switches c.well_formed.0.1.1.0.1.0.1 c.node_at-node.ensures c.bank_after-bank.ensures in
    let sums = c.sums_after-sums.ensures in
    goes_on c.loop-i.invariant (paced-is-visit came _ _ c.pace-step.ensures c.get_output_position-out.ensures.value)
    c.place.ensures.verdict_value c.loop-i-test.true c.in_default.is (paced-still came _ _ c.pace-step.ensures c.if-step-eq0.true)
    c.place.ensures.goes sums.length_value sums.length_le_max_end_2 sums.spans_value

pub loop-i-preserved : goal.loop-i-preserved
loop-i-preserved c =
    -- owning a table tells that it has 16 records
    let came = comes c.loop-i.invariant c.requires.switches c.well_formed.0.1.1.0.1.0.1 c.node_at-node.ensures c.bank_after-bank.ensures in
    let sums = c.sums_after-sums.ensures in
    goes_on c.loop-i.invariant (paced-is-visit came _ _ c.pace-step.ensures c.get_output_position-out.ensures.value)
    c.place.ensures.verdict_value c.loop-i-test.true c.in_default.is (paced-next came _ _ c.pace-step.ensures c.lost_after-lost.ensures)
    c.place.ensures.goes sums.length_value sums.length_le_max_end_2 sums.spans_value

pub returns-clause-plan_value : goal.returns-clause-plan_value
returns-clause-plan_value c =
    c.reached.ensures.plan_value ∙ ends c.loop-i.invariant c.loop-i-test.false c.requires.fill_le_max_offer.1

pub returns-clause-met_value : goal.returns-clause-met_value
returns-clause-met_value c = c.reached.ensures.met_value ∙ met_all c.loop-i.invariant c.loop-i-test.false
