use Prim.Native.Nat.{◌+◌}
use mathlib.Core.Path.{sym, ◌∙◌}
use native.Mathlib.Omega.{arith}
use Rattle.print_text.specs.Laws.Ends.{end_same, end_short, fits-of, short-of}
use Rattle.print_text.proofs.Spaced.{spaced-left, spaced-done}
use Rattle.print_text.proofs.line_end.Goals as goal

pub returns-in_err-next : goal.returns-in_err-next
returns-in_err-next c =
    let a = c.args in
    let more = spaced-left a.numbers.now c.loop-n.n-index c.loop-n-test.true in
    let short = short-of a.size c.loop-n.end (c.decimal_length.result + 1) c.end_of-in-loop-n.ensures c.in_err-next.was in
    c.from_residual-in_err-next.ensures ∙ sym (end_short a.size a.at _ (omega arith))

pub loop-n-preserved : goal.loop-n-preserved
loop-n-preserved c =
    let a = c.args in
    let more = spaced-left a.numbers.now c.loop-n.n-index c.loop-n-test.true in
    let fits = fits-of a.size c.loop-n.end (c.decimal_length.result + 1) c.end_of-in-loop-n.ensures c.in_ok-next.was in
    (omega arith, omega arith)

pub returns : goal.returns
returns c =
    let a = c.args in
    let done = spaced-done a.numbers.now c.loop-n.n-index c.loop-n-test.false in
    c.end_of-2.ensures ∙ end_same a.size c.loop-n.end 1 a.at _ (omega arith)
