-- One law for each count and for the choice that is turned away, in the definition's order; then the nodes.
use mathlib.Core.Path.{◌∙◌}
use Rattle.nodes.specs.Laws.Counts.{too-many-nodes, other-operands, no_rows, too_many_rows, other-numbers, other-states, unknown-choice, sound-counts}
use Rattle.nodes.specs.Theorems.Sound.{lists-told}
use Rattle.nodes.proofs.check_lists.Goals as goal

pub returns-then-n-gt-MAX_NODES-clause-value : goal.returns-then-n-gt-MAX_NODES-clause-value
returns-then-n-gt-MAX_NODES-clause-value c = c.malformed.ensures ∙ too-many-nodes _ _ _ c.if-n-gt-MAX_NODES.true

pub returns-then-operands-n-clause-value : goal.returns-then-operands-n-clause-value
returns-then-operands-n-clause-value c =
    c.malformed-then-operands-n.ensures ∙ other-operands _ _ _ c.if-n-gt-MAX_NODES.false c.if-operands-n.true

pub returns-then-rows-lt1-clause-value : goal.returns-then-rows-lt1-clause-value
returns-then-rows-lt1-clause-value c =
    c.malformed-then-rows-lt1.ensures ∙ no_rows _ _ _ c.if-n-gt-MAX_NODES.false c.if-operands-n.false c.if-rows-lt1.true

pub returns-then-rows-gt-MAX_ROWS-clause-value : goal.returns-then-rows-gt-MAX_ROWS-clause-value
returns-then-rows-gt-MAX_ROWS-clause-value c =
    c.malformed-then-rows-gt-MAX_ROWS.ensures
    ∙ too_many_rows _ _ _ c.if-n-gt-MAX_NODES.false c.if-operands-n.false c.if-rows-lt1.false c.if-rows-gt-MAX_ROWS.true

pub returns-then-numbers-cells-clause-value : goal.returns-then-numbers-cells-clause-value
returns-then-numbers-cells-clause-value c =
    c.malformed-then-numbers-cells.ensures
    ∙ other-numbers _ _ _ c.if-n-gt-MAX_NODES.false c.if-operands-n.false c.if-rows-lt1.false c.if-rows-gt-MAX_ROWS.false c.if-numbers-cells.true

pub returns-then-states-cells-clause-value : goal.returns-then-states-cells-clause-value
returns-then-states-cells-clause-value c =
    c.malformed-then-states-cells.ensures
    ∙ other-states _ _ _ c.if-n-gt-MAX_NODES.false c.if-operands-n.false c.if-rows-lt1.false c.if-rows-gt-MAX_ROWS.false c.if-numbers-cells.false
    c.if-states-cells.true

pub returns-then-fill-gt1-clause-value : goal.returns-then-fill-gt1-clause-value
returns-then-fill-gt1-clause-value c =
    c.malformed-then-fill-gt1.ensures
    ∙ unknown-choice _ _ _ c.if-n-gt-MAX_NODES.false c.if-operands-n.false c.if-rows-lt1.false c.if-rows-gt-MAX_ROWS.false c.if-numbers-cells.false
    c.if-states-cells.false c.if-fill-gt1.true

pub returns-clause-value : goal.returns-clause-value
returns-clause-value c =
    sound-counts _ _ _ c.if-n-gt-MAX_NODES.false c.if-operands-n.false c.if-rows-lt1.false c.if-rows-gt-MAX_ROWS.false c.if-numbers-cells.false
    c.if-states-cells.false c.if-fill-gt1.false c.check_nodes.ensures

pub returns-clause-told : goal.returns-clause-told
returns-clause-told c = (lists-told _ _ _ (returns-clause-value c)).1
