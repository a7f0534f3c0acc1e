use mathlib.Core.Path.{sym}
use Rattle.resolver.specs.Laws.Walking.{walks-start}
use Rattle.build_map.specs.Steps.{program_of, row_of}
use Rattle.build_visits.specs.Theorems.Sights.{paced-position, paced-is-visit, paced-next, paced-still}
use Rattle.build_map.proofs.EntryLaws.{begins, comes, goes_on}
use Rattle.build_map.proofs.rows.LastRow.write_entries.Goals as goal

pub loop-i-init : goal.loop-i-init
loop-i-init c =
    let a = c.args in
    let p = program_of a.self in
    let r = row_of a.self in
    begins p r a.nodes (walks-start p c.requires.nodes_le_max_nodes.1 r c.start-walk.ensures) a.banks_of.now a.positions.now a.outputs.now a.sizes.now

-- a node that skips nothing
pub loop-i-preserved-then-step-eq0 : goal.loop-i-preserved-then-step-eq0
loop-i-preserved-then-step-eq0 c =
    -- owning a table tells that it has 16 records
    let came = comes c.loop-i.invariant c.requires.nodes_le_max_nodes.1 c.well_formed.0.1.1.0.1.1.0.1.0.1 c.node_at-node.ensures c.bank_after-bank.ensures in
    goes_on c.loop-i.invariant c.requires.nodes_in_bounds c.loop-i-test.true
    (paced-is-visit came _ _ c.step_of-step.ensures c.get_output_position-out.ensures.value)
    (paced-still came _ _ c.step_of-step.ensures c.if-step-eq0.true) _ c.word_of.result c.size_of.result
    (sym (paced-position _ _ _ c.step_of-step.ensures)) c.word_of.ensures c.size_of.ensures

pub loop-i-preserved : goal.loop-i-preserved
loop-i-preserved c =
    -- owning a table tells that it has 16 records
    let came = comes c.loop-i.invariant c.requires.nodes_le_max_nodes.1 c.well_formed.0.1.1.0.1.1.0.1.0.1 c.node_at-node.ensures c.bank_after-bank.ensures in
    goes_on c.loop-i.invariant c.requires.nodes_in_bounds c.loop-i-test.true
    (paced-is-visit came _ _ c.step_of-step.ensures c.get_output_position-out.ensures.value)
    (paced-next came _ _ c.step_of-step.ensures c.lost_after-lost.ensures) _ c.word_of.result c.size_of.result
    (sym (paced-position _ _ _ c.step_of-step.ensures)) c.word_of.ensures c.size_of.ensures
