-- What holds of every advance and of every position that is seen: how far it moves and whether it is known, kind by kind; and that 5 is
-- given exactly when a sum passes the limit.
use Rattle.std.specs.Prelude.{ℕ, ◌+◌, ◌≤◌, ◌<◌, ◌≡◌, true, ◌⊎◌, ◌↔◌, Ok, Some}
use Rattle.prelude.specs.Limits.{max_position}
use Rattle.bankdef.specs.declared.Bankdef.{Bankdef}
use Rattle.iter.specs.Distance.{distance_of}
use Rattle.iter.specs.Figures.{OuterSymbol, SoundState}
use Rattle.iter.specs.declared.Skipped.{Skipped}
use Rattle.nodes.specs.declared.Node.{Node}
use Rattle.iter.specs.declared.Pos.{Pos}

-- Where a node's advance leads, by its kind.
pub record Moves (def : Bankdef) (at : Pos) (node : Node) (q : Pos) : Type 0 where
  -- "4 to 7 add their number"
  pub adds-number : 4 ≤ node.kind → node.kind ≤ 7 → q.position ≡ at.position + node.number
  -- "8 adds the distance to alignment"
  pub adds-distance : node.kind ≡ 8
      → (s : Skipped) × (distance_of def at.position node.number node.index ≡ Ok s) × (q.position ≡ at.position + s.bits)
  -- "9 sets the position"
  pub sets-position : node.kind ≡ 9 → q.position ≡ node.number
  -- no other kind moves it
  pub stays-there : (node.kind ≤ 3) ⊎ (node.kind ≡ 10) → q.position ≡ at.position
  -- "4, 6, 7, 8 keep it only if state is 0"
  pub keeps-known : (node.kind ≡ 4) ⊎ ((6 ≤ node.kind) × (node.kind ≤ 8)) → (q.known ≡ true) ↔ ((at.known ≡ true) × (node.state ≡ 0))
  -- "5 and symbols leave it"
  pub leaves-known : (node.kind ≡ 5) ⊎ ((node.kind ≤ 3) ⊎ (node.kind ≡ 10)) → q.known ≡ at.known
  -- "9 makes it so exactly if state is 0"
  pub sets-known : node.kind ≡ 9 → (q.known ≡ true) ↔ (node.state ≡ 0)

-- ---- 5, exactly when

-- the bits that a node's advance adds
pub data AddsBits (def : Bankdef) (at : Pos) (node : Node) : ℕ → Type 0 where
  number : 4 ≤ node.kind → node.kind ≤ 7 → AddsBits def at node node.number
  distance : node.kind ≡ 8 → (s : Skipped) → distance_of def at.position node.number node.index ≡ Ok s → AddsBits def at node s.bits

-- "5: a position would pass 4,294,967,295"
pub record PassesLimit (def : Bankdef) (at : Pos) (node : Node) : Type 0 where
  pub sound : SoundState node
  pub bits : ℕ
  pub adds : AddsBits def at node bits
  pub past : max_position < at.position + bits

-- and of a symbol that is aligned
pub record SightPasses (def : Bankdef) (at : Pos) (node : Node) : Type 0 where
  pub symbol : OuterSymbol node
  pub align : ℕ
  pub has-align : def.align ≡ Some align
  pub skips : Skipped
  pub has-skips : distance_of def at.position align node.index ≡ Ok skips
  pub past : max_position < at.position + skips.bits
