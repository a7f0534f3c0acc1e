-- What the list check tells: accepted, no node is at fault in any row; refused at a node, that node is the lowest at fault.
use Rattle.std.specs.Prelude.{ℕ, ◌<◌, ◌≤◌, ◌≡◌, true, false, length}
use Rattle.prelude.specs.Limits.{max_nodes}
use Rattle.prelude.specs.Told.{gives, refuses, nothing, told_verdict}
use Rattle.prelude.specs.declared.Place.TheVariants.{One}
use Rattle.prelude.specs.Verdict.{Verdict, Accepted}
use Rattle.nodes.specs.Lists.{Lists, Rows, node_count_sound, row_count_sound}
use Rattle.nodes.specs.Lists.{node_fault, nodes_to}

module _ (banks : ℕ) (l : Lists) where
  -- node i is the lowest at fault
  pub record Lowest (n i : ℕ) : Type 0 where
    pub listed : i < n
    pub fault : node_fault banks l i ≡ true
    pub none : (j : ℕ) → j < i → node_fault banks l j ≡ false

-- What the verdict on the lists tells, in figures: "field 0, 1, 2 for node count, row count, limit", in this order, then "an unknown choice, after the
-- limit (field 3)", then the lowest node.
pub record ListFigures (banks : ℕ) (l : Lists) (fill : ℕ) (v : Verdict) : Type 0 where
  pub nodes : node_count_sound l ≡ false → told_verdict v ≡ refuses 4 (One 0)
  pub rows : node_count_sound l ≡ true → row_count_sound l ≡ false → told_verdict v ≡ refuses 4 (One 1)
  pub choice : node_count_sound l ≡ true → row_count_sound l ≡ true → 1 < fill → told_verdict v ≡ refuses 4 (One 3)
  pub lowest :
      node_count_sound l ≡ true
      → row_count_sound l ≡ true
      → fill ≤ 1
      → (i : ℕ)
      → Lowest banks l (length l.kinds) i
      → told_verdict v ≡ refuses 4 (One i)
  pub none :
      node_count_sound l ≡ true
      → row_count_sound l ≡ true
      → fill ≤ 1
      → ((i : ℕ) → i < length l.kinds → node_fault banks l i ≡ false)
      → told_verdict v ≡ gives nothing

-- Lists that are accepted: the counts are within their limits and the lists as long as they say, the choice is known, and no node is at fault.
pub record SoundLists (banks : ℕ) (l : Lists) (fill : ℕ) : Type 0 where
  pub few : length l.kinds ≤ max_nodes
  pub operands : length l.operands ≡ length l.kinds
  pub rows : Rows (length l.kinds) l.rows l.numbers l.states
  pub choice : fill ≤ 1
  pub nodes : nodes_to banks l (length l.kinds) ≡ Accepted
