-- Theorems about what Calls defines.
use Rattle.std.specs.Prelude.{◌≡◌}
use Rattle.std.proofs.Math.Path.{ap}
use Rattle.output.specs.Output.{passes_of}
use Rattle.build_map.specs.Map.{reach_of, map_of}
use Rattle.build_map.specs.declared.Map.{Map}
use Rattle.build_map.specs.Calls.{Call}
use Rattle.build_map.specs.Laws.Calls.{reach_in}

module _ (c : Call) where
  pub passes-are : c.answer.passes ≡ passes_of c.given
  unfolding map_of
  passes-are = ap (λ (m : Map). m.passes) c.meets.answer

  pub reach-is : reach_in c.answer ≡ reach_of c.given
  unfolding map_of
  reach-is = ap reach_in c.meets.answer
