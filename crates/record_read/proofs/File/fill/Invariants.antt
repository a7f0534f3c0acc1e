-- `record_read::File::fill`: after k lines the bytes that they give are stored.
use Rattle.record_read.proofs.Fills.{Filling}
use Rattle.record_read.proofs.File.fill.Given as goal

abbrev pub invariant-loop : goal.invariant-loop
invariant-loop l = Filling l.self.format l.self.text.now l.self.n l.self.load l.initial.bytes l.at l.state l.bytes l.counter
