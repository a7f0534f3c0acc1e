-- What the build sees of a row: a list of visits, one for each node, in node order.
use Rattle.std.specs.Prelude.{ℕ, zero, suc, List, [], ◌∷◌, ◌++◌, length, Result, Ok, Err}
use Rattle.prelude.specs.declared.Refusal.{Refusal}
use Rattle.iter.specs.Address.{output_position}
use Rattle.iter.specs.Step.{origin, bank_after}
use Rattle.iter.specs.declared.Pos.{Pos}
use Rattle.iter.specs.declared.Walk.{Walk}
use Rattle.nodes.specs.Lists.{Row}
use Rattle.resolver.specs.Once.{Program, node, bank_of, step_at, walk_to}
use Rattle.build_visits.specs.declared.Visit.{Visit}

-- the position that a node sees; a node that the walk stops at sees none, and no build gets past it
abbrev pub seen_pos : Result Pos Refusal → Pos
seen_pos (Ok at) = at
seen_pos (Err why) = origin

abbrev pub position_of : Visit → ℕ
position_of v = (seen_pos v.seen).position

-- node i, met by a walk: the bank that it stands in, the position that it sees, "offset plus position", and the walk after it
abbrev pub visit_of : Program → Row → Walk → ℕ → Visit
visit_of p row walk i =
    record {
      node = node p row i;
      bank = bank_after walk.bank (node p row i);
      def = bank_of p.banks walk (node p row i);
      seen = (step_at p row walk i).seen;
      out = output_position (bank_of p.banks walk (node p row i)) (seen_pos (step_at p row walk i).seen).position;
      walk = (step_at p row walk i).walk;
    }

-- node i, met by the walk of its own row
abbrev pub visit_at : Program → Row → ℕ → Visit
visit_at p row i = visit_of p row (walk_to p row i) i

-- the first n nodes of a row, visited in their order
unfoldable pub visits_to : Program → Row → ℕ → List Visit
visits_to p row zero = []
visits_to p row (suc i) = visits_to p row i ++ visit_at p row i ∷ []

-- A row is a list of visits.
abbrev pub visits : Program → Row → List Visit
visits p row = visits_to p row (length p.kinds)

-- what each of the visits gives, one behind the other
unfoldable pub each : {X : Type 0} → (Visit → List X) → List Visit → List X
each f [] = []
each f (v ∷ l) = f v ++ each f l
