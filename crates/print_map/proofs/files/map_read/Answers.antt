-- `map_read` meets its contract: the fronts of the lists are the file's lists, and the map of them the file's.
use native.Mathlib.Omega.{arith}
use Rattle.print_map.proofs.Lines.{written_as}
use Rattle.print_map.proofs.Read.{nodes-few, nodes-listed, nodes-fit, shown-fewer, read-text}
use Rattle.print_map.proofs.files.map_read.Goals as goal

pub write_all-requires-clause-nodes_le_max_nodes : goal.write_all-requires-clause-nodes_le_max_nodes
write_all-requires-clause-nodes_le_max_nodes c =
    let a = c.args in
    let h = c.requires.held_in in
    let less = shown-fewer a.file.now a.fill a.shape h.sound _ a.kinds.now a.operands.now a.numbers.now a.states.now _ _ h
    c.chosen-choices.ensures
    c.read_banks-banks.ensures
    c.read_values-values.ensures _ _ _
    c.map_nodes-map.ensures
    a.page _ c.in_profile-shown.ensures in
    let few = nodes-few a.file.now a.fill a.shape h.sound _ a.kinds.now a.operands.now a.numbers.now a.states.now _ _ h
    c.chosen-choices.ensures
    c.read_banks-banks.ensures
    c.read_values-values.ensures _ _ _
    c.map_nodes-map.ensures in
    let listed = nodes-listed a.file.now a.fill a.shape h.sound _ a.kinds.now a.operands.now a.numbers.now a.states.now _ _ h
    c.chosen-choices.ensures
    c.read_banks-banks.ensures
    c.read_values-values.ensures _ _ _
    c.map_nodes-map.ensures in
    (omega (arith, less, few), omega (arith, less, listed))

pub write_all-requires-clause-nodes_in_bounds : goal.write_all-requires-clause-nodes_in_bounds
write_all-requires-clause-nodes_in_bounds c =
    let a = c.args in
    let h = c.requires.held_in in
    let less = shown-fewer a.file.now a.fill a.shape h.sound _ a.kinds.now a.operands.now a.numbers.now a.states.now _ _ h
    c.chosen-choices.ensures
    c.read_banks-banks.ensures
    c.read_values-values.ensures _ _ _
    c.map_nodes-map.ensures
    a.page _ c.in_profile-shown.ensures in
    let fit = nodes-fit c.map_nodes-map.ensures in
    (omega (arith, less, fit.0), omega (arith, less, fit.1), omega (arith, less, fit.2), omega (arith, less, fit.3))

pub returns-clause-writes : goal.returns-clause-writes
returns-clause-writes c =
    let a = c.args in
    let h = c.requires.held_in in
    written_as
    (read-text a.file.now a.fill a.shape h.sound _ a.kinds.now a.operands.now a.numbers.now a.states.now _ _ h
    c.chosen-choices.ensures
    c.read_banks-banks.ensures
    c.read_values-values.ensures _ _ _
    c.map_nodes-map.ensures
    a.page _ c.in_profile-shown.ensures)
    c.write_all.ensures.writes
