-- A map's answer told in numbers. The call is refused only for 1 to 4, and then changes nothing; where a layout is refused from 5 on the map is not, and its
-- answer says "stopped", with number, place and node.
use Rattle.std.specs.Prelude.{List, ℕ, ltb, Option, None, Some, Err}
use Rattle.prelude.specs.Pick.{pick}
use Rattle.prelude.specs.Refusals.{number_of, place_of}
use Rattle.prelude.specs.declared.Refusal.{Refusal}
use Rattle.prelude.specs.Verdict.{Verdict, Accepted}
use Rattle.iter.specs.declared.Lost.{Lost}
use Rattle.build_map.specs.declared.Map.{Map}
use Rattle.c_answers.specs.Told.{first_of, second_of}
use Rattle.c_answers.specs.declared.DkMap.{DkMap}

-- 1 to 4, and from 5 on.
abbrev pub refused_below : ℕ → ℕ
refused_below number = pick (ltb number 5) number 0

abbrev pub stopped_from : ℕ → ℕ
stopped_from number = pick (ltb number 5) 0 number

-- The node at fault, the largest number for none.
abbrev pub node_told : Option ℕ → ℕ
node_told None = 18446744073709551615
node_told (Some node) = node

abbrev pub refused_map : Refusal → ℕ → ℕ → ℕ → List Lost → DkMap
refused_map why node passes nodes padding =
    record {
      refusal = refused_below (number_of why);
      stopped = stopped_from (number_of why);
      place = first_of (place_of why);
      second = second_of (place_of why);
      node = node;
      passes = passes;
      nodes = nodes;
      padding = padding;
    }

abbrev pub ToldBy : Verdict → ℕ → ℕ → ℕ → List Lost → DkMap
ToldBy Accepted node passes nodes padding =
    record { refusal = 0; stopped = 0; place = 0; second = 0; node = node; passes = passes; nodes = nodes; padding = padding }
ToldBy (Err why) node passes nodes padding = refused_map why node passes nodes padding

abbrev pub map_told : Map → DkMap
map_told m = ToldBy m.verdict (node_told m.fault) m.passes m.nodes m.padding
