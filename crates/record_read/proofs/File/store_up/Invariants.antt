-- `record_read::File::store_up`: after k lines the bytes that they give are stored, and their blocks written, but for the one that goes on.
use Rattle.record_read.proofs.Fills.{Filling}
use Rattle.record_read.proofs.Loops.{Rising}
use Rattle.record_read.proofs.File.store_up.Given as goal

abbrev pub invariant-loop : goal.invariant-loop
invariant-loop l =
    Filling l.self.format l.self.text.now l.self.n l.self.load l.initial.bytes l.at l.state l.bytes l.counter
    × Rising l.self.format l.self.text.now l.self.n l.self.load l.initial.offsets l.initial.sizes l.at l.state
    l.walk.run l.walk.count l.offsets l.sizes l.counter
