-- `record_scan::known_line`: a line that is not bad ends where its count says.
use mathlib.Core.Path.{subst}
use Prim.Native.Nat.{◌+◌}
use Rattle.record_scan.specs.Steps.{IsGood, Stepped}
use Rattle.record_scan.proofs.Ends.{known-part, stepped_by}
use Rattle.record_scan.proofs.known_line.Goals as goal

pub known_in-line-requires-clause-good : goal.known_in-line-requires-clause-good
known_in-line-requires-clause-good c =
    let a = c.args in subst (IsGood a.format a.state)
    (known-part a.format a.state a.text.now a.at c.stop_by-stop.result c.requires.at_in_bounds.0 c.requires.at_in_bounds.1
    c.stop_by-stop.ensures.0) c.requires.at_in_bounds.1

pub returns : goal.returns
returns c =
    -- what is known, as a step
    let found : Stepped c.args.format c.args.text.now c.args.at c.args.state
    (record { line = c.known_in-line.result; stop = c.stop_by-stop.result; next = c.stop_by-stop.result + c.end_at-width.result }) =
    let a = c.args in
    let own = known-part a.format a.state a.text.now a.at c.stop_by-stop.result c.requires.at_in_bounds.0 c.requires.at_in_bounds.1
    c.stop_by-stop.ensures.0 in
    stepped_by a.text.now a.at c.stop_by-stop.result c.stop_by-stop.ensures.1 c.stop_by-stop.ensures.2 a.format a.state c.end_at-width.result own
    c.end_at-width.ensures c.known_in-line.ensures in
    found
