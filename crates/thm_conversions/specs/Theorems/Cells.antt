-- Theorems about what Cells defines.
use Rattle.std.specs.Prelude.{ℕ, suc, ◌<◌, ◌≡◌, List, ◌∷◌, length}
use Rattle.std.proofs.Common.{ap}
use Rattle.nodes.specs.declared.Node.{Node}
use Rattle.nodes.specs.Lists.{Lists, Row, row_at, node_at}
use Rattle.thm_conversions.specs.Widened.{turned, with_switch}
use Rattle.thm_conversions.specs.Steps.{up}
use Rattle.thm_conversions.specs.Cells.{Counted, zeroed}
use Rattle.thm_conversions.specs.Laws.Cells.{row-ahead, turned-at}

module _ (l : Lists) (c : Counted l) where
  pub row-zeroed : (r : ℕ) → r < l.rows → row_at (with_switch l) r ≡ zeroed (row_at l r)
  row-zeroed r h =
      both (row-ahead (length l.kinds) l.rows l.numbers c.numbers r h)
      (row-ahead (length l.kinds) l.rows l.states c.states r h)
    where
      both : {a b x y : List ℕ} → a ≡ b → x ≡ y → ◌≡◌ {A = Row} (record { numbers = a; states = x }) (record { numbers = b; states = y })
      both e f = rw (e, f)

  -- a node behind the switch
  pub node-up : (first : List ℕ) (row : Row) (i : ℕ)
      → node_at (1 ∷ l.kinds) (1 ∷ turned l.kinds l.operands) (0 ∷ first) (zeroed row) (suc i) ≡ up (node_at l.kinds l.operands first row i)
  node-up first row i =
      ap (with-operand (node_at l.kinds l.operands first row i)) (turned-at l.kinds l.operands c.operands i)
    where
      with-operand : Node → ℕ → Node
      with-operand n o = record { index = suc n.index; kind = n.kind; operand = o; number = n.number; state = n.state }
