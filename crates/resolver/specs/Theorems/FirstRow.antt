-- What a pass reads of the lists: the row of its number or the last row; a node's number and state there, and for kind 5 the number in the first row.
use Rattle.std.specs.Prelude.{ℕ, ◌+◌, ◌*◌, ◌<◌, ◌≡◌, get_or, length}
use Rattle.std.proofs.Common.{ap, ◌∙◌, arith, eq-eqb, ne_eqb}
use Rattle.bankdef.specs.declared.Bankdefs.{Bankdefs}
use Rattle.nodes.specs.Lists.{Lists, row_at}
use Rattle.resolver.specs.Once.{node}
use Rattle.resolver.specs.Passes.{program}
use Rattle.resolver.specs.Laws.FirstRow.{cell}

module _ (banks : Bankdefs) (l : Lists) (r i : ℕ) (listed : i < length l.kinds) where
  -- "A row gives each node a number and a state"
  pub state-of-its-row : (node (program banks l) (row_at l r) i).state ≡ get_or l.states (r * length l.kinds + i) 0
  state-of-its-row = cell (length l.kinds) r i l.states listed

  pub number-of-its-row : (get_or l.kinds i 0 ≡ 5 → ⊥) → (node (program banks l) (row_at l r) i).number ≡ get_or l.numbers (r * length l.kinds + i) 0
  number-of-its-row other = rw (ne_eqb (get_or l.kinds i 0) 5 other) (cell (length l.kinds) r i l.numbers listed)

  -- "Kind 5 takes its number from the first row", in every row
  pub declared-number-of-first-row : get_or l.kinds i 0 ≡ 5 → (node (program banks l) (row_at l r) i).number ≡ get_or l.numbers i 0
  declared-number-of-first-row e =
      rw (eq-eqb (get_or l.kinds i 0) 5 e)
      (cell (length l.kinds) 0 i l.numbers listed ∙ ap (λ (k : ℕ). get_or l.numbers k 0) (omega arith))
