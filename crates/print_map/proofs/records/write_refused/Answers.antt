-- `write_refused` meets its contract: the place is one number, or two.
use Rattle.print_map.proofs.Lines.{refused-one, refused-two, written_as}
use Rattle.print_map.proofs.records.write_refused.Goals as goal

pub returns-in-One-clause-writes : goal.returns-in-One-clause-writes
returns-in-One-clause-writes c =
    written_as (refused-one c.args.why c.number-number.ensures c.place_of.ensures c.in-One.is)
    c.write_line.ensures.writes

pub returns-in-Two-clause-writes : goal.returns-in-Two-clause-writes
returns-in-Two-clause-writes c =
    written_as (refused-two c.args.why c.number-number.ensures c.place_of.ensures c.in-Two.is)
    c.write_line-in-Two.ensures.writes
