-- A step of the walk: what a node sees, and how it moves its bank's position (document 01, "The walk").
use Rattle.std.specs.Prelude.{ℕ, ◌+◌, Bool, true, ◌&&◌, ◌||◌, eqb, leb, ltb, get_or, set, replicate, Result, Ok, Err, Option, None, Some}
use Rattle.prelude.specs.Limits.{max_banks, max_position}
use Rattle.prelude.specs.Pick.{pick}
use Rattle.prelude.specs.declared.Refusal.{Refusal}
use Rattle.prelude.specs.declared.Refusal.TheVariants.{Malformed, PositionPast}
use Rattle.bankdef.specs.declared.Bankdef.{Bankdef}
use Rattle.iter.specs.Distance.{no_skip, distance_of}
use Rattle.iter.specs.declared.Pos.{Pos}
use Rattle.nodes.specs.Kinds.{is_switch, is_symbol, is_declared, is_align, reads_state, does_of, by_doing}
use Rattle.nodes.specs.declared.Node.{Node}
use Rattle.iter.specs.declared.Lost.{Lost}
use Rattle.iter.specs.declared.Walk.{Walk}
use Rattle.iter.specs.declared.Skipped.{Skipped}
use Rattle.iter.specs.declared.Motion.{Motion}
use Rattle.iter.specs.declared.Stepped.{Stepped}

-- "Each bank's position starts at 0, known"
abbrev pub origin : Pos
origin = record { position = 0; known = true }

-- nothing is lost
abbrev pub no_lost : Lost
no_lost = record { bits = 0; units = 0 }

-- "Each bank's position starts at 0, known .. The walk begins in bank 0." No bank has lost a bit.
unfoldable pub start_of : Walk
start_of = record { at = replicate max_banks origin; lost = replicate max_banks no_lost; bank = 0 }

-- "5: a position would pass 4,294,967,295"
abbrev pub moved_by : Pos → ℕ → Bool → ℕ → Result Pos Refusal
moved_by at bits known node =
    pick (leb (at.position + bits) max_position)
    (Ok (record { position = at.position + bits; known = known }))
    (Err (PositionPast node))

abbrev pub moved_by_distance : Pos → Result Skipped Refusal → Bool → ℕ → Result Pos Refusal
moved_by_distance at (Ok s) known node = moved_by at s.bits known node
moved_by_distance at (Err why) known node = Err why

-- "8 adds the distance to alignment"
abbrev pub aligned_to : Bankdef → Pos → ℕ → Bool → ℕ → Result Pos Refusal
aligned_to def at a known node = moved_by_distance at (distance_of def at.position a node) known node

-- "a symbol (label or constant) of depth 0": kinds 2 and 3, whose operand is a depth
abbrev pub outermost_symbol : Node → Bool
outermost_symbol node = is_symbol node.kind && eqb node.operand 0

abbrev pub label_aligned : Bankdef → Option ℕ → Pos → ℕ → Result Pos Refusal
label_aligned def None at node = Ok at
label_aligned def (Some a) at node = aligned_to def at a at.known node

-- "A node sees its bank's position before its own advance, except that a symbol (label or constant) of depth 0 in a bank with label
-- alignment is aligned first."
unfoldable pub seen_of : Bankdef → Pos → Node → Result Pos Refusal
seen_of def at node = pick (outermost_symbol node) (label_aligned def def.align at node.index) (Ok at)

-- "state (0 resolved, 1 stable, 2 unresolved)"
abbrev pub resolved : Node → Bool
resolved node = eqb node.state 0

-- "0, 1 and 2 don't read the state": the other kinds read it, and "4: .. a call's number is malformed: .. state" where it is beyond 2
abbrev pub bad_state : Node → Bool
bad_state node = reads_state node.kind && ltb 2 node.state

-- "Afterwards 4 to 7 add their number, 8 adds the distance to alignment, 9 sets the position. Known-ness: 4, 6, 7, 8 keep it only if
-- state is 0; 5 and symbols leave it; 9 makes it so exactly if state is 0." "Any other kind number is refused."
unfoldable pub moved_on : Bankdef → Pos → Node → Result Pos Refusal
moved_on def at node =
    let known = pick (is_declared node.kind) at.known (at.known && resolved node) in
    by_doing (does_of node.kind)
    (Ok at)
    (moved_by at node.number known node.index)
    (aligned_to def at node.number known node.index)
    (Ok (record { position = node.number; known = resolved node }))
    (Err (Malformed node.index))

unfoldable pub advanced_of : Bankdef → Pos → Node → Result Pos Refusal
advanced_of def at node = pick (bad_state node) (Err (Malformed node.index)) (moved_on def at node)

-- ---- what is skipped (document 02, Ticket 2)

-- "Everything that uses the distance passes both on": what a distance skips; one that cannot be told skips nothing.
abbrev pub skips_by : Result Skipped Refusal → Skipped
skips_by (Ok s) = s
skips_by (Err why) = no_skip

-- a move that is refused skips nothing
abbrev pub when_made : Result Pos Refusal → Skipped → Skipped
when_made (Ok p) s = s
when_made (Err why) s = no_skip

-- a move, and what it skips
abbrev pub motion_of : Result Pos Refusal → Skipped → Motion
motion_of m s = record { to = m; skipped = when_made m s }

abbrev pub still : Result Pos Refusal → Motion
still m = record { to = m; skipped = no_skip }

abbrev pub aligned_motion : Bankdef → Pos → ℕ → Bool → ℕ → Motion
aligned_motion def at a known node = motion_of (aligned_to def at a known node) (skips_by (distance_of def at.position a node))

-- "label alignment": in a bank that has it
abbrev pub label_skips : Bankdef → Option ℕ → Pos → ℕ → Skipped
label_skips def None at node = no_skip
label_skips def (Some a) at node = skips_by (distance_of def at.position a node)

-- what is skipped to the position that a node sees: a symbol of depth 0 is aligned, no other node is
unfoldable pub seen_skips : Bankdef → Pos → Node → Skipped
seen_skips def at node = when_made (seen_of def at node) (pick (outermost_symbol node) (label_skips def def.align at node.index) no_skip)

abbrev pub seen_motion : Bankdef → Pos → Node → Motion
seen_motion def at node = record { to = seen_of def at node; skipped = seen_skips def at node }

-- what a node's own advance skips: an `align` its distance. "An `addr` that moves the position is not padding"; no other node aligns.
unfoldable pub advance_skips : Bankdef → Pos → Node → Skipped
advance_skips def at node =
    when_made (advanced_of def at node) (pick (is_align node.kind) (skips_by (distance_of def at.position node.number node.index)) no_skip)

abbrev pub advance_motion : Bankdef → Pos → Node → Motion
advance_motion def at node = record { to = advanced_of def at node; skipped = advance_skips def at node }

-- "bits lost to `align` and to label alignment": an `align`'s own, and else what the node's sight skips
abbrev pub counted : Node → Skipped → Skipped → Skipped
counted node sight own = pick (is_align node.kind) own sight

-- "each bank should carry the sum of bits lost": a sum stops at the largest number of 64 bits, which no walk from the start comes to
-- (specs/Padding)
abbrev pub max_sum : ℕ
max_sum = 18446744073709551615

abbrev pub sum_after : ℕ → ℕ → ℕ
sum_after sum more = pick (leb (sum + more) max_sum) (sum + more) max_sum

-- "Everything that uses the distance passes both on": the bits are added up, and the whole units of each skip
abbrev pub lost_after : Lost → Skipped → Lost
lost_after lost s = record { bits = sum_after lost.bits s.bits; units = sum_after lost.units s.units }

-- ---- the step

-- "1 bank switch": "The operand is a bank for 1"
abbrev pub bank_after : ℕ → Node → ℕ
bank_after bank node = pick (is_switch node.kind) node.operand bank

-- "Each bank's position .. is kept through switches", and so are the sums of what it lost.
abbrev pub kept : Walk → ℕ → Pos → Skipped → Walk
kept walk bank p s =
    record { at = set walk.at bank p; lost = set walk.lost bank (lost_after (get_or walk.lost bank no_lost) s); bank = bank }

-- a step that is refused
abbrev pub stopped : Walk → Refusal → Stepped
stopped walk why = record { seen = Err why; skipped = no_skip; walk = walk }

abbrev pub stepped_to : Walk → ℕ → Pos → Skipped → Result Pos Refusal → Stepped
stepped_to walk bank p s (Ok q) = record { seen = Ok p; skipped = s; walk = kept walk bank q s }
stepped_to walk bank p s (Err why) = stopped walk why

-- what a step counts in the bank that its node stands in, from the position there to the one that the node sees
abbrev pub step_skips : Bankdef → Pos → Pos → Node → Skipped
step_skips def at p node = counted node (seen_skips def at node) (advance_skips def p node)

abbrev pub stepped_from : Bankdef → Walk → ℕ → Node → Result Pos Refusal → Stepped
stepped_from def walk bank node (Ok p) = stepped_to walk bank p (step_skips def (get_or walk.at bank origin) p node) (advanced_of def p node)
stepped_from def walk bank node (Err why) = stopped walk why

-- "4: .. a call's number is malformed: .. bank number, state"
abbrev pub malformed : ℕ → Node → Bool
malformed bank node = leb max_banks bank || bad_state node

-- A step over a node: the bank that it stands in, what it sees there, and the walk after its own advance. `def` is the record of the
-- bank that the node stands in, which for a switch is the one switched to. A step that is refused leaves the walk as it was.
unfoldable pub step_of : Bankdef → Walk → Node → Stepped
step_of def walk node =
    let bank = bank_after walk.bank node in
    pick (malformed bank node)
    (stopped walk (Malformed node.index))
    (stepped_from def walk bank node (seen_of def (get_or walk.at bank origin) node))
