-- The entries of a row, written node by node.
use mathlib.Core.Path.{◌≡◌, refl, sym, ap, ◌∙◌}
use mathlib.Core.List.{List}
use Prim.Native.Nat.{ℕ, ◌+◌, ◌≤◌, ◌<◌}
use native.Mathlib.Omega.{arith}
use lib.ListN.{length, set, length-set}
use Rattle.bitvec.specs.Lists.{list_of}
use Rattle.bitvec.specs.Laws.Lists.{list_of-more}
use Rattle.blocks.specs.Offsets.{word_of}
use Rattle.iter.specs.Step.{bank_after}
use Rattle.iter.specs.declared.Walk.{Walk}
use Rattle.nodes.specs.Kinds.{size_of}
use Rattle.nodes.specs.Lists.{Row}
use Rattle.nodes.specs.declared.Node.{Node}
use Rattle.prelude.specs.Limits.{max_banks}
use Rattle.resolver.specs.Once.{Program, node, walk_to}
use Rattle.resolver.specs.Switches.{Switches}
use Rattle.resolver.specs.Walking.{Walks}
use Rattle.build_visits.specs.declared.Visit.{Visit}
use Rattle.build_visits.specs.Sights.{Comes}
use Rattle.build_visits.specs.Visits.{position_of, visit_at}
use Rattle.build_map.specs.Map.{bank_shown, position_shown, output_shown, size_shown, shown}

-- a list with the first i entries in it
pub record Filled (i : ℕ) (f : ℕ → ℕ) (old now : List ℕ) : Type 0 where
  pub is : now ≡ shown i f old
  pub long : length now ≡ length old

filled_none : (f : ℕ → ℕ) (old : List ℕ) → Filled 0 f old old
unfolding list_of
filled_none f old = record { is = refl; long = refl }

filled_next : {i : ℕ} {f : ℕ → ℕ} {old now : List ℕ} → Filled i f old now → i < length old → (x : ℕ) → x ≡ f i → Filled (i + 1) f old (set now i x)
filled_next {i} {f} {old} {now} l b x e =
    record {
      is = ap (λ (y : ℕ). set now i y) e ∙ ap (λ (k : List ℕ). set k i (f i)) l.is ∙ list_of-more i f old b;
      long = length-set now i x ∙ l.long;
    }

-- The walk before node i: it is the row's, and the entries of the nodes before are written.
pub record Writing (p : Program) (row : Row) (nodes i : ℕ) (walk : Walk)
    (banks₀ positions₀ outputs₀ sizes₀ banks positions outputs sizes : List ℕ) : Type 0 where
  pub within : i ≤ nodes
  pub walks : Walks p row i walk
  pub banked : Filled i (bank_shown p row) banks₀ banks
  pub placed : Filled i (position_shown p row) positions₀ positions
  pub given : Filled i (output_shown p row) outputs₀ outputs
  pub sized : Filled i (size_shown p row) sizes₀ sizes

pub begins : (p : Program) (row : Row) (nodes : ℕ) {walk : Walk} → Walks p row 0 walk → (banks positions outputs sizes : List ℕ)
    → Writing p row nodes 0 walk banks positions outputs sizes banks positions outputs sizes
begins p row nodes e banks positions outputs sizes =
    record {
      within = omega arith;
      walks = e;
      banked = filled_none (bank_shown p row) banks;
      placed = filled_none (position_shown p row) positions;
      given = filled_none (output_shown p row) outputs;
      sized = filled_none (size_shown p row) sizes;
    }

module _ {p : Program} {row : Row} {nodes i : ℕ} {walk : Walk} {banks₀ positions₀ outputs₀ sizes₀ banks positions outputs sizes : List ℕ}
    (g : Writing p row nodes i walk banks₀ positions₀ outputs₀ sizes₀ banks positions outputs sizes) where
  -- the loop has come to node i of its row
  pub comes : Switches p.banks.len p.kinds p.operands → length p.banks.defs ≡ max_banks → {n : Node} → n ≡ node p row i
      → {b : ℕ} → b ≡ bank_after walk.bank n → Comes p row i walk b n
  comes switches room met stands = record { switches = switches; room = room; walks = g.walks; met = met; stands = stands }

module _ {p : Program} {row : Row} {nodes i : ℕ} {walk : Walk} {banks₀ positions₀ outputs₀ sizes₀ banks positions outputs sizes : List ℕ}
    (g : Writing p row nodes i walk banks₀ positions₀ outputs₀ sizes₀ banks positions outputs sizes)
    (room : (nodes ≤ length banks₀) × (nodes ≤ length positions₀) × (nodes ≤ length outputs₀) × (nodes ≤ length sizes₀)) (more : i < nodes) where
  pub first_fits : i < length banks
  first_fits = omega (arith, g.banked.long, room.0)

  pub second_fits : i < length positions
  second_fits = omega (arith, g.placed.long, room.1)

  pub third-fits : i < length outputs
  third-fits = omega (arith, g.given.long, room.2)

  pub fourth-fits : i < length sizes
  fourth-fits = omega (arith, g.sized.long, room.3)

  -- one node more
  pub goes_on : {v : Visit} → v ≡ visit_at p row i → {walk' : Walk} → Walks p row (i + 1) walk' → (position output size : ℕ) → position ≡ position_of v
      → output ≡ word_of v.out → size ≡ size_of v.node
      → Writing p row nodes (i + 1) walk' banks₀ positions₀ outputs₀ sizes₀ (set banks i v.bank) (set positions i position)
      (set outputs i output) (set sizes i size)
  goes_on {v} is walks position output size at out long =
      record {
        within = omega arith;
        walks = walks;
        banked = filled_next g.banked (omega (arith, room.0)) v.bank (ap (λ (w : Visit). w.bank) is);
        placed = filled_next g.placed (omega (arith, room.1)) position (at ∙ ap position_of is);
        given = filled_next g.given (omega (arith, room.2)) output (out ∙ ap (λ (w : Visit). word_of w.out) is);
        sized = filled_next g.sized (omega (arith, room.3)) size (long ∙ ap (λ (w : Visit). size_of w.node) is);
      }

module _ {p : Program} {row : Row} {nodes i : ℕ} {walk : Walk} {banks₀ positions₀ outputs₀ sizes₀ banks positions outputs sizes : List ℕ}
    (g : Writing p row nodes i walk banks₀ positions₀ outputs₀ sizes₀ banks positions outputs sizes) (done : nodes ≤ i) where
  all : i ≡ nodes
  all = omega (arith, g.within)

  pub lost-at-end : walk.lost ≡ (walk_to p row nodes).lost
  lost-at-end = ap (λ (w : Walk). w.lost) (sym g.walks.is ∙ ap (walk_to p row) all)

  pub banks-at-end : banks ≡ shown nodes (bank_shown p row) banks₀
  banks-at-end = g.banked.is ∙ ap (λ (k : ℕ). shown k (bank_shown p row) banks₀) all

  pub positions-at-end : positions ≡ shown nodes (position_shown p row) positions₀
  positions-at-end = g.placed.is ∙ ap (λ (k : ℕ). shown k (position_shown p row) positions₀) all

  pub outputs-at-end : outputs ≡ shown nodes (output_shown p row) outputs₀
  outputs-at-end = g.given.is ∙ ap (λ (k : ℕ). shown k (output_shown p row) outputs₀) all

  pub sizes-at-end : sizes ≡ shown nodes (size_shown p row) sizes₀
  sizes-at-end = g.sized.is ∙ ap (λ (k : ℕ). shown k (size_shown p row) sizes₀) all
