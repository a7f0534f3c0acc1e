-- Padding figures (document 02, Ticket 2): a bank's padding as a plain sum over the nodes that stand in it, and that the walk carries it.
use Rattle.std.specs.Prelude.{ℕ, zero, suc, ◌+◌, ◌/◌, eqb, length, Option, None, Some}
use Rattle.prelude.specs.Pick.{pick}
use Rattle.bankdef.specs.declared.Bankdef.{Bankdef}
use Rattle.iter.specs.Distance.{address_in_bits, distance_to}
use Rattle.iter.specs.Step.{outermost_symbol}
use Rattle.iter.specs.StepCases.{standing}
use Rattle.iter.specs.declared.Lost.{Lost}
use Rattle.nodes.specs.Kinds.{is_align}
use Rattle.nodes.specs.declared.Node.{Node}
use Rattle.resolver.specs.KnownInPass.{bank_at}
use Rattle.nodes.specs.Lists.{Row}
use Rattle.resolver.specs.NodeOrder.{def_at}
use Rattle.resolver.specs.Once.{Program, node, walk_to}

-- ---- the definition

-- document 01's distance to an alignment, over the integers
abbrev pub distance_in : Bankdef → ℕ → ℕ → ℕ
distance_in def position a = distance_to (address_in_bits def position) a

-- "label alignment", in a bank that has it
abbrev pub label_loses : Bankdef → Option ℕ → ℕ → ℕ
label_loses def None position = 0
label_loses def (Some a) position = distance_in def position a

-- "a symbol (label or constant) of depth 0 in a bank with label alignment is aligned first"
abbrev pub sight_loses : Bankdef → ℕ → Node → ℕ
sight_loses def position n = pick (outermost_symbol n) (label_loses def def.align position) 0

-- "bits lost to `align` and to label alignment" by a node, from the position of the bank that it stands in. "An `addr` that moves the position is not
-- padding", and no other node loses any.
abbrev pub lost_by : Bankdef → ℕ → Node → ℕ
lost_by def position n = pick (is_align n.kind) (distance_in def position n.number) (sight_loses def position n)

module _ (p : Program) (row : Row) where
  -- that bank's position before the node
  abbrev pub stands_at : ℕ → ℕ
  stands_at i = (standing (walk_to p row i) (node p row i)).position

  abbrev pub lost_at : ℕ → ℕ
  lost_at i = lost_by (def_at p row i) (stands_at i) (node p row i)

  -- "the count of whole address units it skips (distance over unit, rounded down)"
  abbrev pub units_at : ℕ → ℕ
  units_at i = lost_at i / (def_at p row i).unit

  -- what those of the first n nodes that stand in a bank add up to
  unfoldable pub sum_in : (ℕ → ℕ) → ℕ → ℕ → ℕ
  sum_in f bank zero = 0
  sum_in f bank (suc i) = sum_in f bank i + pick (eqb (bank_at p row i) bank) (f i) 0

  -- "each bank should carry the sum of bits lost to `align` and to label alignment", over the first n nodes, and "everything that uses the distance passes
  -- both on": the sum of the whole units of each skip
  abbrev pub padding_to : ℕ → ℕ → Lost
  padding_to bank n = record { bits = sum_in lost_at bank n; units = sum_in units_at bank n }

  -- and over the whole row
  abbrev pub padding_of : ℕ → Lost
  padding_of bank = padding_to bank (length p.kinds)
