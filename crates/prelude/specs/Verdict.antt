-- What a call that gives no value is answered: that it is accepted, or what it is refused for.
use Rattle.std.specs.Prelude.{Result, Ok}
use Rattle.prelude.specs.declared.Refusal.{Refusal}

abbrev pub Verdict : Type 0
Verdict = Result (Unit {0}) Refusal

pattern abbrev pub Accepted : Verdict
Accepted = Ok tt
