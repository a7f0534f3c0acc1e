-- `record_scan::mark_window`: after k lines the bytes that they give in the window are marked.
use Rattle.record_scan.proofs.WindowLaws.{Marking}
use Rattle.record_scan.proofs.mark_window.Given as goal

abbrev pub invariant-loop-k : goal.invariant-loop-k
invariant-loop-k l = Marking l.format l.text l.n l.low l.initial.scratch l.at l.state l.next l.scratch l.k
