-- `record_read::File::lowest`: after k lines it is the lowest stretch of what they give.
use Rattle.record_read.proofs.Loops.{Looking}
use Rattle.record_read.proofs.File.lowest.Given as goal

abbrev pub invariant-loop : goal.invariant-loop
invariant-loop l = Looking l.self.format l.self.text.now l.self.n l.self.load l.from l.at l.state l.best l.counter
