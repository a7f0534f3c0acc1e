use Rattle.std.proofs.Common.{arith}
use Rattle.record_lines.proofs.Steps.{cut-end}
use Rattle.record_lines.proofs.line_from.Goals as goal

pub returns-then-text-at : goal.returns-then-text-at
returns-then-text-at c =
    let w = cut-end c.args.text.now c.args.at c.if-text-at.true in
    record { stop = omega arith; next = omega arith }
