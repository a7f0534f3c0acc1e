-- `record_reason::File::place_of`: after k lines it is known where line k stands.
use Rattle.record_reason.proofs.Walks.{Walking}
use Rattle.record_reason.proofs.File.place_of.Given as goal

abbrev pub invariant-loop : goal.invariant-loop
invariant-loop l = Walking l.self.format l.self.text.now l.n l.at l.state l.ended l.counter
