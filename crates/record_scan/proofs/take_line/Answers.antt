-- `record_scan::take_line`: a line that is not bad and has an end behind it is the one that begins here.
use mathlib.Core.Path.{◌∙◌}
use Prim.Native.Nat.{◌+◌}
use Rattle.record_scan.specs.Steps.{Stepped}
use Rattle.record_scan.proofs.Ends.{says-good, line-found, stepped_by}
use Rattle.record_scan.proofs.take_line.Goals as goal

pub returns : goal.returns
returns c =
    -- what is found, as a step
    let found : Stepped c.args.format c.args.text.now c.args.at c.args.state
    (record { line = c.line_in-line.result; stop = c.stop_by-stop.result; next = c.stop_by-stop.result + c.end_at-width.result }) =
    let a = c.args in
    let t = a.text.now in
    let stop = c.stop_by-stop.result in
    let h = c.stop_by-stop.ensures.1 in
    let k = c.stop_by-stop.ensures.2 in
    let good = says-good a.format a.state (c.line_in-line.ensures c.requires.spells) c.if-line-eq-BAD.false in
    stepped_by t a.at stop h k a.format a.state c.end_at-width.result
    (line-found t a.at stop h k a.format a.state good (λ z. c.if-width-eq-NO_END.false (c.end_at-width.ensures ∙ z))) c.end_at-width.ensures
    (c.line_in-line.ensures c.requires.spells) in
    found
