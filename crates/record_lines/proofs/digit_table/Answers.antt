use Rattle.std.proofs.Common.{rules}
use Rattle.record_lines.proofs.digit_table.Goals as goal

pub returns : goal.returns
returns c i h =
    let w = c.from_fn.ensures.items.at i 0 h in
    search rules
