-- Refusals 9 to 13, each with what it is given for exactly: "The build walks the nodes and tries 9, 10, 11, 12, 13 at each."
use Rattle.std.specs.Prelude.{◌≡◌, Bool, true, false, ◌&&◌, List, ◌⊎◌, ℕ, suc, ◌+◌, ◌≤◌, ◌<◌, Ok, Some, None, Err}
use Rattle.prelude.specs.Told.{refuses}
use Rattle.prelude.specs.declared.Refusal.{Refusal}
use Rattle.prelude.specs.declared.Refusal.TheVariants.{DefaultBank, PastBank, NoOutput}
use Rattle.prelude.specs.declared.Place.{Place}
use Rattle.iter.specs.declared.Pos.{Pos}
use Rattle.nodes.specs.Kinds.{size_of}
use Rattle.overlap_checker.specs.declared.Entry.{Entry}
use Rattle.overlap_checker.specs.State.{State}
use Rattle.build_visits.specs.declared.Visit.{Visit}
use Rattle.build_visits.specs.Items.{is_written}
use Rattle.build_plan.specs.Placing.{is_placed, uses_default, ends_past, lacks_output, offer_of, offers_of}
use Rattle.build_plan.specs.Placing.{answered}
use Rattle.build_plan.specs.Placing.{holds, stops, placed_all}
use Rattle.output.specs.Output.{Input, settled_of, told_build}
use Rattle.output.specs.Calls.{Call, nodes_in, closed_in, visit_in, visits_before}

-- ---- a build that gets to a node

-- The passes settled, every node before n was accepted, and the walk reaches n.
pub record Reaches (c : Call) (n : ℕ) : Type 0 where
  pub k : ℕ
  pub settled : settled_of c.given ≡ Ok k
  pub listed : n < nodes_in c
  pub stored : State
  pub before : placed_all (closed_in c) (visits_before c n) ≡ holds stored
  pub at : Pos
  pub sees : (visit_in c n).seen ≡ Ok at

-- The build is refused at node n, with a number and a place.
pub record RefusedThere (c : Call) (n number : ℕ) (place : Place) : Type 0 where
  pub why : Refusal
  pub stopped : placed_all (closed_in c) (visits_before c (suc n)) ≡ stops why
  pub told : told_build c.answer.build ≡ refuses number place

-- ---- what document 01 says of 9, 10 and 11

-- bank 0 may not be used
abbrev pub Closed : Input → Type 0
Closed b = (b.choices.closed ≡ true) ⊎ (1 < b.banks.len)

-- "labels (size 0), written items (4, 5, 6) and reserves"
abbrev pub PlacedKind : ℕ → Type 0
PlacedKind kind = (kind ≡ 2) ⊎ ((4 ≤ kind) × (kind ≤ 7))

-- "9: bank 0 is used while other banks exist", or where it may not be used alone (document 02, Ticket 13)
pub record Nine (b : Input) (v : Visit) : Type 0 where
  pub placed : PlacedKind v.node.kind
  pub default : v.bank ≡ 0
  pub closed : Closed b

-- "10: an item ends past its bank's size"
pub record Ten (v : Visit) (position : ℕ) : Type 0 where
  pub placed : PlacedKind v.node.kind
  pub size : ℕ
  pub sized : v.def.size ≡ Some size
  pub past : size < position + size_of v.node

-- "11: an item is written in a bank without output offset"
pub record Eleven (v : Visit) : Type 0 where
  pub written : (4 ≤ v.node.kind) × (v.node.kind ≤ 6)
  pub nowhere : v.def.offset ≡ None

-- ---- a node's refusal, by its cause

pub data Cause (closed : Bool) (s : State) (v : Visit) (at : Pos) (why : Refusal) : Type 0 where
  nine : is_placed v.node ≡ true → uses_default closed v.bank ≡ true → why ≡ DefaultBank v.node.index → Cause closed s v at why
  ten : is_placed v.node ≡ true → uses_default closed v.bank ≡ false → ends_past v.def.size (at.position + size_of v.node) ≡ true
      → why ≡ PastBank v.node.index → Cause closed s v at why
  eleven : is_placed v.node ≡ true → uses_default closed v.bank ≡ false → ends_past v.def.size (at.position + size_of v.node) ≡ false
      → (is_written v.node && lacks_output v.out) ≡ true → why ≡ NoOutput v.node.index → Cause closed s v at why
  store : is_placed v.node ≡ true → uses_default closed v.bank ≡ false → ends_past v.def.size (at.position + size_of v.node) ≡ false
      → (is_written v.node && lacks_output v.out) ≡ false → answered s v.node.index (offer_of v) ≡ Err why → Cause closed s v at why

-- the offers of the nodes before node n
abbrev pub offers_before : Call → ℕ → List Entry
offers_before c n = offers_of (visits_before c n)
