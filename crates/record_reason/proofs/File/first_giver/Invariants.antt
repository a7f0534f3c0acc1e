-- `record_reason::File::first_giver`: none of the first k lines gives one.
use Rattle.record_reason.proofs.Walks.{Seeking}
use Rattle.record_reason.proofs.File.first_giver.Given as goal

abbrev pub invariant-loop-k : goal.invariant-loop-k
invariant-loop-k l = Seeking l.self.format l.self.text.now l.n l.first l.end l.at l.state l.k
