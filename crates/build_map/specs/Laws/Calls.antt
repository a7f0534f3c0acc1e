-- Laws that Theorems/Calls rests on.
use Rattle.build_map.specs.declared.Map.{Map}
use Rattle.build_map.specs.declared.Reach.{Reach}

-- how far an answer says that the map goes
abbrev pub reach_in : Map → Reach
reach_in m = record { verdict = m.verdict; nodes = m.nodes; fault = m.fault }
