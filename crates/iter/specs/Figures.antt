-- What a caller is told of a distance, an address and a move, in document 01's figures, and of what is skipped: a case for each sentence,
-- by plain facts. The promises of `bits_until_alignment` and `get_address` use them.
use Rattle.std.specs.Prelude.{ℕ, suc, ◌+◌, ◌*◌, ◌≤◌, ◌<◌, ◌≡◌, Bool, true, false, ◌⊎◌, ◌↔◌, ℤ, Result, Ok, Err, None, Some}
use Rattle.prelude.specs.Limits.{max_position}
use Rattle.prelude.specs.Told.{Told, gives, refuses, told_refusal}
use Rattle.prelude.specs.declared.Place.TheVariants.{One}
use Rattle.prelude.specs.declared.Refusal.{Refusal}
use Rattle.bankdef.specs.declared.Bankdef.{Bankdef}
use Rattle.iter.specs.Aligned.{Aligns}
use Rattle.iter.specs.Distance.{tellable, address_in_bits, no_skip, distance_of}
use Rattle.iter.specs.Address.{units_from}
use Rattle.iter.specs.declared.Skipped.{Skipped}
use Rattle.nodes.specs.declared.Node.{Node}
use Rattle.iter.specs.declared.Pos.{Pos}

abbrev pub told_distance : Result Skipped Refusal → Told Skipped
told_distance (Ok s) = gives s
told_distance (Err why) = told_refusal why

abbrev pub told_address : Result ℤ Refusal → Told ℤ
told_address (Ok z) = gives z
told_address (Err why) = told_refusal why

abbrev pub told_moved : Result Pos Refusal → Told Pos
told_moved (Ok p) = gives p
told_moved (Err why) = told_refusal why

-- "the count of whole address units it skips (distance over unit, rounded down)": so many fit into the bits, and one more does not
pub record WholeUnits (unit bits units : ℕ) : Type 0 where
  pub fit : units * unit ≤ bits
  pub no_more : bits < suc units * unit

-- The distance.
pub data Measures (def : Bankdef) (position a node : ℕ) : Told Skipped → Type 0 where
  -- a unit or a start beyond its limit: no address can be told
  malformed : tellable def ≡ false → Measures def position a node (refuses 4 (One node))
  -- "The distance to alignment A is 0 for A = 0."
  none : tellable def ≡ true → a ≡ 0 → Measures def position a node (gives no_skip)
  -- otherwise, on either side of 0, the least number of bits to a multiple of A, and the whole units in them
  next : tellable def ≡ true → 0 < a → (s : Skipped) → Aligns (address_in_bits def position) a s.bits → WholeUnits def.unit s.bits s.units
      → Measures def position a node (gives s)

-- The address: "the start plus the whole units in the position".
pub data Stands (def : Bankdef) (position node : ℕ) : Told ℤ → Type 0 where
  malformed : tellable def ≡ false → Stands def position node (refuses 4 (One node))
  at : tellable def ≡ true → Stands def position node (gives (units_from def position))

-- Bits added to a position. "5: a position would pass 4,294,967,295"
pub data Adds (at : Pos) (bits : ℕ) (known : Bool) (node : ℕ) : Told Pos → Type 0 where
  sum : at.position + bits ≤ max_position → Adds at bits known node (gives (record { position = at.position + bits; known = known }))
  past : max_position < at.position + bits → Adds at bits known node (refuses 5 (One node))

-- A position moved on to an alignment: the distance is added, if it can be told.
pub data Aligning (def : Bankdef) (at : Pos) (a : ℕ) (known : Bool) (node : ℕ) : Told Pos → Type 0 where
  by : (s : Skipped) {t : Told Pos} → distance_of def at.position a node ≡ Ok s → Adds at s.bits known node t → Aligning def at a known node t
  untold : (why : Refusal) → distance_of def at.position a node ≡ Err why → Aligning def at a known node (told_refusal why)

-- "a symbol (label or constant) of depth 0"
abbrev pub OuterSymbol : Node → Type 0
OuterSymbol node = ((node.kind ≡ 2) ⊎ (node.kind ≡ 3)) × (node.operand ≡ 0)

-- "A node sees its bank's position before its own advance, except that a symbol (label or constant) of depth 0 in a bank with label
-- alignment is aligned first." It is as well known as it was.
pub data Sees (def : Bankdef) (at : Pos) (node : Node) : Told Pos → Type 0 where
  other : (OuterSymbol node → ⊥) → Sees def at node (gives at)
  unaligned : def.align ≡ None → Sees def at node (gives at)
  aligned : OuterSymbol node → (a : ℕ) {t : Told Pos} → def.align ≡ Some a → Aligning def at a at.known node.index t → Sees def at node t

-- "Known-ness: 4, 6, 7, 8 keep it only if state is 0; 5 .. leave it"
pub record Keeps (was : Bool) (node : Node) (is : Bool) : Type 0 where
  pub leaves : node.kind ≡ 5 → is ≡ was
  pub keeps : (node.kind ≡ 5 → ⊥) → (is ≡ true) ↔ ((was ≡ true) × (node.state ≡ 0))

-- "0, 1 and 2 don't read the state"; one that is read is 0, 1 or 2
abbrev pub SoundState : Node → Type 0
SoundState node = 3 ≤ node.kind → node.state ≤ 2

-- The position after a node's own advance.
pub data Advances (def : Bankdef) (at : Pos) (node : Node) : Told Pos → Type 0 where
  -- "Any other kind number is refused."
  unknown : 10 < node.kind → Advances def at node (refuses 4 (One node.index))
  -- "4: .. a call's number is malformed: .. state"
  badly : 3 ≤ node.kind → 2 < node.state → Advances def at node (refuses 4 (One node.index))
  -- "0 nothing, 1 bank switch, 2 label, 3 constant", "10 assert": "symbols leave it"
  stays : SoundState node → (node.kind ≤ 3) ⊎ (node.kind ≡ 10) → Advances def at node (gives at)
  -- "4 to 7 add their number"
  item : SoundState node → 4 ≤ node.kind → node.kind ≤ 7 → (known : Bool) {t : Told Pos} → Keeps at.known node known
      → Adds at node.number known node.index t → Advances def at node t
  -- "8 adds the distance to alignment"
  aligns : SoundState node → node.kind ≡ 8 → (known : Bool) {t : Told Pos} → Keeps at.known node known
      → Aligning def at node.number known node.index t → Advances def at node t
  -- "9 sets the position", "9 makes it so exactly if state is 0"
  sets : SoundState node → node.kind ≡ 9 → (known : Bool) → (known ≡ true) ↔ (node.state ≡ 0)
      → Advances def at node (gives (record { position = node.number; known = known }))

-- ---- what is skipped (document 02, Ticket 2)

-- A move to an alignment skips what its distance says; one that is refused skips nothing, as does a distance that cannot be told.
pub data Skipping (def : Bankdef) (at : Pos) (a node : ℕ) : Result Pos Refusal → Skipped → Type 0 where
  by : {p : Pos} {s : Skipped} → distance_of def at.position a node ≡ Ok s → Skipping def at a node (Ok p) s
  refused : {why : Refusal} → Skipping def at a node (Err why) no_skip
  untold : {m : Result Pos Refusal} (why : Refusal) → distance_of def at.position a node ≡ Err why → Skipping def at a node m no_skip

-- To what a node sees: label alignment of a symbol of depth 0, label or constant.
pub data SightSkips (def : Bankdef) (at : Pos) (node : Node) : Result Pos Refusal → Skipped → Type 0 where
  other : {m : Result Pos Refusal} → (OuterSymbol node → ⊥) → SightSkips def at node m no_skip
  unaligned : {m : Result Pos Refusal} → def.align ≡ None → SightSkips def at node m no_skip
  aligned : {m : Result Pos Refusal} {s : Skipped} → OuterSymbol node → (a : ℕ) → def.align ≡ Some a → Skipping def at a node.index m s
      → SightSkips def at node m s

-- In its own advance: `align`, and no other kind. "An `addr` that moves the position is not padding."
pub data OwnSkips (def : Bankdef) (at : Pos) (node : Node) : Result Pos Refusal → Skipped → Type 0 where
  other : {m : Result Pos Refusal} → (node.kind ≡ 8 → ⊥) → OwnSkips def at node m no_skip
  aligns : {m : Result Pos Refusal} {s : Skipped} → node.kind ≡ 8 → Skipping def at node.number node.index m s → OwnSkips def at node m s
