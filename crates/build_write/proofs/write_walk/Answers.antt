use Rattle.nodes.specs.Lists.{row_with}
use Rattle.resolver.specs.Once.{program_with}
use Rattle.build_visits.specs.Theorems.Sights.{paced-position, paced-is-visit, paced-next, paced-still}
use Rattle.build_write.proofs.WritingSteps.{begins, comes, goes_on, item-fits, spans_fit}
use Rattle.build_write.proofs.write_walk.Goals as goal

pub loop-i-init : goal.loop-i-init
loop-i-init c =
    let a = c.args in
    begins (program_with a.banks a.kinds.now a.operands.now a.first.now) (row_with a.numbers.now a.states.now) a.values.now
    a.image.now a.addresses.now a.offsets.now a.sizes.now c.requires.switches c.requires.has_room c.requires.begun_value

pub write_item-requires : goal.write_item-requires
write_item-requires c =
    -- owning a table tells that it has 16 records
    let came = comes c.loop-i.invariant c.requires.switches c.well_formed.0.1.1.0.1.0.1 c.node_at-node.ensures c.bank_after-bank.ensures in
    item-fits c.loop-i.invariant (paced-is-visit came _ _ c.pace-step.ensures c.get_output_position-out.ensures.value) c.loop-i-test.true

pub put_span-count-requires : goal.put_span-count-requires
put_span-count-requires c =
    -- owning a table tells that it has 16 records
    let came = comes c.loop-i.invariant c.requires.switches c.well_formed.0.1.1.0.1.0.1 c.node_at-node.ensures c.bank_after-bank.ensures in
    spans_fit c.loop-i.invariant (paced-is-visit came _ _ c.pace-step.ensures c.get_output_position-out.ensures.value) c.loop-i-test.true

-- a node that skips nothing
pub loop-i-preserved-then-step-eq0 : goal.loop-i-preserved-then-step-eq0
loop-i-preserved-then-step-eq0 c =
    -- owning a table tells that it has 16 records
    let came = comes c.loop-i.invariant c.requires.switches c.well_formed.0.1.1.0.1.0.1 c.node_at-node.ensures c.bank_after-bank.ensures in
    let put = c.put_span-count.ensures in
    goes_on c.loop-i.invariant (paced-is-visit came _ _ c.pace-step.ensures c.get_output_position-out.ensures.value) c.loop-i-test.true
    (paced-still came _ _ c.pace-step.ensures c.if-step-eq0.true) c.write_item.ensures put.count
    (rw (paced-position _ _ _ c.pace-step.ensures) put.addresses) put.offsets put.sizes

pub loop-i-preserved : goal.loop-i-preserved
loop-i-preserved c =
    -- owning a table tells that it has 16 records
    let came = comes c.loop-i.invariant c.requires.switches c.well_formed.0.1.1.0.1.0.1 c.node_at-node.ensures c.bank_after-bank.ensures in
    let put = c.put_span-count.ensures in
    goes_on c.loop-i.invariant (paced-is-visit came _ _ c.pace-step.ensures c.get_output_position-out.ensures.value) c.loop-i-test.true
    (paced-next came _ _ c.pace-step.ensures c.lost_after-lost.ensures) c.write_item.ensures put.count
    (rw (paced-position _ _ _ c.pace-step.ensures) put.addresses) put.offsets put.sizes
