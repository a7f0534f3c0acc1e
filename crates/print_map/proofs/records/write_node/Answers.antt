-- `write_node` meets its contract: its marks and numbers are those of the node.
use Rattle.print_map.proofs.Lines.{node-written}
use Rattle.print_map.proofs.records.write_node.Goals as goal

pub returns-clause-writes : goal.returns-clause-writes
returns-clause-writes c =
    let a = c.args in node-written a.banks a.i a.kind a.bank a.position a.word a.size c.bank_record-def.ensures
    c.get_address-address.ensures.value
    c.address_mark.ensures c.address_value.ensures c.word_mark.ensures
    c.write_line.ensures.writes
