-- `record_scan::File::room_above`: after k lines it is known of their pieces.
use Rattle.record_scan.proofs.Loops.{Looking}
use Rattle.record_scan.proofs.File.room_above.Given as goal

abbrev pub invariant-loop : goal.invariant-loop
invariant-loop l = Looking l.self.format l.self.text.now l.n l.first l.end l.at l.state l.top l.counter
