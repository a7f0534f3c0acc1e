-- After the checks of the banks and of the lists no pass gives 4: each node stands in a bank of the table, whose addresses can be told, and its
-- kind and its state are sound.
use Rattle.std.specs.Prelude.{ℕ, ◌<◌, ◌≤◌, ◌≡◌, Bool, ◌&&◌, eqb, leb, get_or, length, Err}
use Rattle.std.proofs.Common.{ltb-false}
use Rattle.prelude.specs.Refusals.{number_of}
use Rattle.prelude.specs.declared.Refusal.{Refusal}
use Rattle.prelude.specs.Laws.Bools.{neither}
use Rattle.bankdef.specs.declared.Bankdefs.{Bankdefs}
use Rattle.iter.specs.Step.{bank_after}
use Rattle.resolver.specs.Layout.{Checked}
use Rattle.nodes.specs.Kinds.{last_kind, is_unknown}
use Rattle.nodes.specs.Lists.{Lists, node_of, head_fault, any_row_fault}
use Rattle.resolver.specs.NodeOrder.{seen_at, def_at, GoesPast}
use Rattle.resolver.specs.Once.{walk_to}
use Rattle.resolver.specs.PassStates.{node_in}
use Rattle.resolver.specs.Theorems.PassStates.{sound-state-of-row}
use Rattle.resolver.specs.Passes.{program, row_of_pass}
use Rattle.resolver.specs.Theorems.PositionPast.{stands-listed, sound-numbers}
use Rattle.nodes.specs.Theorems.Sound.{accepted-node, accepted-lists}
use Rattle.resolver.specs.Laws.NeverFour.{listed-tells, step-not-four}

module _ (banks : Bankdefs) (l : Lists) {fill : ℕ} (c : Checked banks l fill) where
  pub listed-kind : (i : ℕ) → i < length l.kinds → get_or l.kinds i 0 ≤ last_kind
  listed-kind i h =
      let s = accepted-lists banks.len l fill c.lists in
      let e = accepted-node banks.len l (length l.kinds) s.nodes i h in
      let a = neither (head_fault banks.len (node_of l.kinds l.operands l.numbers l.states 0 i)) (any_row_fault l i l.rows) e in
      let b = neither (is_unknown (get_or l.kinds i 0)) (eqb (get_or l.kinds i 0) 1 && leb banks.len (get_or l.operands i 0)) a.0 in
      ltb-false last_kind (get_or l.kinds i 0) b.0

  -- No node of a pass is refused 4.
  pub never-four : banks.len ≤ length banks.defs → (n i : ℕ) (is_last : Bool) → i < length l.kinds
      → ((j : ℕ) → j < i → GoesPast (program banks l) (row_of_pass l n) is_last j)
      → (why : Refusal) → seen_at (program banks l) (row_of_pass l n) i ≡ Err why → number_of why ≡ 4 → ⊥
  never-four whole n i is_last h all =
      let walk = walk_to (program banks l) (row_of_pass l n) i in
      step-not-four (def_at (program banks l) (row_of_pass l n) i)
      (listed-tells banks c.table whole (bank_after walk.bank (node_in banks l n i)) (stands-listed banks l c n i is_last h all))
      walk (node_in banks l n i) (listed-kind i h) (sound-state-of-row banks l fill c.lists n i h) (sound-numbers banks l c n i is_last h all)
