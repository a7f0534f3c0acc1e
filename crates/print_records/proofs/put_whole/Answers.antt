-- `put_whole` meets its contract: one block, or none where there is no bit.
use Rattle.print_records.specs.Laws.Records.{whole_is}
use Rattle.print_records.proofs.put_whole.Goals as goal

pub returns : goal.returns
returns c =
    rw (← whole_is c.args.bits)
    (rw c.min-n.ensures at c.put_records.ensures)
