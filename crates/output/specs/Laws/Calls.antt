-- The passes that a call answers.
use Rattle.std.specs.Prelude.{◌≡◌}
use Rattle.std.proofs.Math.Path.{ap}
use Rattle.output.specs.Output.{build_of, passes_of}
use Rattle.output.specs.declared.Output.{Output}
use Rattle.output.specs.Calls.{Call}

module _ (c : Call) where
  pub passes-are : c.answer.passes ≡ passes_of c.given
  unfolding build_of
  passes-are = ap (λ (o : Output). o.passes) c.meets.answer
