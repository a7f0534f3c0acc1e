-- What the build asks of each node in turn: refusals 9 to 13, and the intervals and marks stored (document 01, "Image, spans, blocks").
use Rattle.std.specs.Prelude.{ℕ, suc, ◌+◌, Bool, true, false, ◌&&◌, ◌||◌, List, [], ◌∷◌, eqb, ltb, Option, None, Some, Err, Result, Ok}
use Rattle.prelude.specs.Pick.{pick}
use Rattle.prelude.specs.declared.Refusal.{Refusal}
use Rattle.prelude.specs.declared.Refusal.TheVariants.{DefaultBank, PastBank, NoOutput}
use Rattle.prelude.specs.Verdict.{Verdict, Accepted}
use Rattle.bankdef.specs.declared.Bankdef.{Bankdef}
use Rattle.nodes.specs.Kinds.{is_reserve_kind, is_placed_kind, size_of}
use Rattle.nodes.specs.declared.Node.{Node}
use Rattle.iter.specs.declared.Pos.{Pos}
use Rattle.nodes.specs.Lists.{first_of}
use Rattle.overlap_checker.specs.declared.Entry.{Entry}
use Rattle.overlap_checker.specs.Interval.{interval}
use Rattle.overlap_checker.specs.State.{State, empty_state, answer}
use Rattle.overlap_checker.specs.Folds.{state_after}
use Rattle.build_visits.specs.declared.Visit.{Visit}
use Rattle.build_visits.specs.Visits.{each}
use Rattle.build_visits.specs.Items.{is_written}

-- ---- offers

abbrev pub is_reserve : Node → Bool
is_reserve n = is_reserve_kind n.kind

-- "labels (size 0), written items (4, 5, 6) and reserves": what 9 and 10 apply to
abbrev pub is_placed : Node → Bool
is_placed n = is_placed_kind n.kind

abbrev pub is_offered : Node → Bool
is_offered n = is_written n || is_reserve n

-- "Written items, and reserves in banks with an offset, are offered to the store."
abbrev pub bits_at : Option ℕ → Node → List Entry
bits_at None n = []
bits_at (Some o) n = interval o n.number ∷ []

abbrev pub offer_at : Node → Option ℕ → List Entry
offer_at n out = pick (is_offered n) (bits_at out n) []

abbrev pub offer_of : Visit → List Entry
offer_of v = offer_at v.node v.out

-- what is offered to the store, in node order
abbrev pub offers_of : List Visit → List Entry
offers_of vs = each offer_of vs

-- ---- 9, 10 and 11

-- "9: bank 0 is used while other banks exist": bank 0 is closed then, to labels, written items and reserves. "Refused even when it is alone"
-- (document 02, Ticket 13), where the caller closes it.
abbrev pub closes_default : ℕ → Bool → Bool
closes_default banks closed = closed || ltb 1 banks

abbrev pub uses_default : Bool → ℕ → Bool
uses_default closed bank = eqb bank 0 && closed

-- "10: an item ends past its bank's size"
abbrev pub ends_past : Option ℕ → ℕ → Bool
ends_past None end = false
ends_past (Some size) end = ltb size end

abbrev pub lacks_output : Option ℕ → Bool
lacks_output None = true
lacks_output (Some o) = false

-- 9, 10 and 11, in this order. `closed` says whether bank 0 is, `bank` is the one that the node stands in, `out` the node's place in the
-- output.
unfoldable pub checked : Bool → ℕ → Bankdef → Node → Pos → Option ℕ → Verdict
checked closed bank def n at out =
    pick (uses_default closed bank) (Err (DefaultBank n.index))
    (pick (ends_past def.size (at.position + size_of n)) (Err (PastBank n.index))
    (pick (is_written n && lacks_output out) (Err (NoOutput n.index)) Accepted))

-- ---- 12 and 13

-- what the store answers to a node's offer, if it makes one
abbrev pub answered : State → ℕ → List Entry → Verdict
answered stored node [] = Accepted
answered stored node (e ∷ none) = answer stored e node

-- "The build walks the nodes and tries 9, 10, 11, 12, 13 at each."
abbrev pub tried : Bool → ℕ → Bankdef → State → Node → Pos → Option ℕ → Verdict
tried closed bank def stored n at out =
    first_of (checked closed bank def n at out) (answered stored n.index (offer_at n out))

-- "9 and 10 apply to labels (size 0), written items (4, 5, 6) and reserves; 11 to written items."
abbrev pub placing : Bool → ℕ → Bankdef → State → Node → Pos → Option ℕ → Verdict
placing closed bank def stored n at out = pick (is_placed n) (tried closed bank def stored n at out) Accepted

-- the verdict on a node by the position that it sees: 5 where the walk stops there
abbrev pub verdict_seen : Bool → ℕ → Bankdef → State → Node → Option ℕ → Result Pos Refusal → Verdict
verdict_seen closed bank def stored n out (Err why) = Err why
verdict_seen closed bank def stored n out (Ok at) = placing closed bank def stored n at out

abbrev pub verdict_on : Bool → State → Visit → Verdict
verdict_on closed stored v = verdict_seen closed v.bank v.def stored v.node v.out v.seen

-- ---- all nodes

-- A build under way: what is stored; or the first refusal.
pub data Placed : Type 0 where
  holds : State → Placed
  stops : Refusal → Placed

abbrev pub placed_if : Verdict → State → Placed
placed_if Accepted stored = holds stored
placed_if (Err why) stored = stops why

-- a node placed after those before it
abbrev pub placed_next : Bool → Visit → Placed → Placed
placed_next closed v (stops why) = stops why
placed_next closed v (holds stored) = placed_if (verdict_on closed stored v) (state_after stored (offer_of v))

-- visits placed one after another
unfoldable pub placed_from : Bool → Placed → List Visit → Placed
placed_from closed q [] = q
placed_from closed q (v ∷ l) = placed_from closed (placed_next closed v q) l

abbrev pub placed_all : Bool → List Visit → Placed
placed_all closed vs = placed_from closed (holds empty_state) vs

-- how many visits are met when they are placed one after another, the one that is refused among them
unfoldable pub walked_from : Bool → Placed → List Visit → ℕ
walked_from closed q [] = 0
walked_from closed (stops why) (v ∷ l) = 0
walked_from closed (holds stored) (v ∷ l) = suc (walked_from closed (placed_next closed v (holds stored)) l)

abbrev pub walked_all : Bool → List Visit → ℕ
walked_all closed vs = walked_from closed (holds empty_state) vs
