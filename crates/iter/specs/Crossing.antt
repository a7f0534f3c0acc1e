-- One node crossed in the bank that it stands in: the step without the other banks. `step-crosses`: a step is this crossing put into the walk, so
-- that a loop may keep the positions by themselves.
use Rattle.std.specs.Prelude.{ℕ, Err, Result, Ok}
use Rattle.prelude.specs.Pick.{pick}
use Rattle.prelude.specs.declared.Refusal.{Refusal}
use Rattle.prelude.specs.declared.Refusal.TheVariants.{Malformed}
use Rattle.bankdef.specs.declared.Bankdef.{Bankdef}
use Rattle.iter.specs.Distance.{no_skip}
use Rattle.iter.specs.Step.{seen_of, bad_state, advanced_of, kept, stopped, step_skips}
use Rattle.iter.specs.declared.Crossing.{Crossing}
use Rattle.nodes.specs.declared.Node.{Node}
use Rattle.iter.specs.declared.Pos.{Pos}
use Rattle.iter.specs.declared.Skipped.{Skipped}
use Rattle.iter.specs.declared.Stepped.{Stepped}
use Rattle.iter.specs.declared.Walk.{Walk}

-- a crossing that is refused
abbrev pub halted : Pos → Refusal → Crossing
halted at why = record { seen = Err why; skipped = no_skip; after = at }

abbrev pub crossed_to : Pos → Pos → Skipped → Result Pos Refusal → Crossing
crossed_to at p s (Ok q) = record { seen = Ok p; skipped = s; after = q }
crossed_to at p s (Err why) = halted at why

abbrev pub crossed_from : Bankdef → Pos → Node → Result Pos Refusal → Crossing
crossed_from def at node (Ok p) = crossed_to at p (step_skips def at p node) (advanced_of def p node)
crossed_from def at node (Err why) = halted at why

-- "A node sees its bank's position before its own advance", and its advance leads on from there. "4: .. a call's number is malformed: .. state". `def`
-- is the record of the bank that the node stands in, and `at` that bank's position.
unfoldable pub crossing_of : Bankdef → Pos → Node → Crossing
crossing_of def at node = pick (bad_state node) (halted at (Malformed node.index)) (crossed_from def at node (seen_of def at node))

-- ---- a crossing put into the walk

abbrev pub put_by : Walk → ℕ → Crossing → Result Pos Refusal → Stepped
put_by walk bank c (Ok p) = record { seen = Ok p; skipped = c.skipped; walk = kept walk bank c.after c.skipped }
put_by walk bank c (Err why) = stopped walk why

-- the bank has the new position and what it lost; a crossing that is refused leaves the walk as it was
abbrev pub put_in : Walk → ℕ → Crossing → Stepped
put_in walk bank c = put_by walk bank c c.seen
