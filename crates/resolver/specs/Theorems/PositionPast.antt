-- Theorems about what PositionPast defines.
use Rattle.std.specs.Prelude.{ℕ, zero, suc, ◌<◌, ◌≤◌, ◌≡◌, Bool, true, false, ◌&&◌, ◌↔◌, eqb, leb, get_or, length, Err}
use Rattle.std.proofs.Common.{arith, eq-eqb, leb-false, eqb-true, le-ltb, leb-true}
use Rattle.std.proofs.lemmas.Bool.{lt-leb}
use Rattle.prelude.specs.Limits.{max_banks}
use Rattle.prelude.specs.declared.Refusal.TheVariants.{PositionPast}
use Rattle.prelude.specs.Laws.Bools.{either, neither}
use Rattle.bankdef.specs.Theorems.Refused.{accepted}
use Rattle.bankdef.specs.declared.Bankdefs.{Bankdefs}
use Rattle.iter.specs.Step.{bad_state, bank_after, malformed}
use Rattle.nodes.specs.Kinds.{is_unknown}
use Rattle.nodes.specs.declared.Node.{Node}
use Rattle.resolver.specs.Theorems.LabelStates.{switched_to, bank-by-switches}
use Rattle.resolver.specs.Layout.{Checked}
use Rattle.nodes.specs.Lists.{Lists, node_of, head_fault, any_row_fault}
use Rattle.resolver.specs.NodeOrder.{seen_at, def_at, GoesPast}
use Rattle.resolver.specs.Once.{walk_to}
use Rattle.resolver.specs.PassStates.{node_in}
use Rattle.resolver.specs.Theorems.PassStates.{sound-state-of-row}
use Rattle.resolver.specs.Passes.{program, row_of_pass}
use Rattle.nodes.specs.Theorems.Sound.{accepted-node, accepted-lists}
use Rattle.resolver.specs.Laws.PositionPast.{step-five-only, step-five-when}
use Rattle.resolver.specs.PositionPast.{WouldPass}

-- ---- a pass of a layout that has passed its checks

module _ (banks : Bankdefs) (l : Lists) {fill : ℕ} (c : Checked banks l fill) where
  -- a switch that is listed names a bank of the table
  switch-sound : (i : ℕ) → i < length l.kinds → get_or l.kinds i 0 ≡ 1 → get_or l.operands i 0 < banks.len
  switch-sound i h k =
      let s = accepted-lists banks.len l fill c.lists in
      let e = accepted-node banks.len l (length l.kinds) s.nodes i h in
      let a = neither (head_fault banks.len (node_of l.kinds l.operands l.numbers l.states 0 i)) (any_row_fault l i l.rows) e in
      let b = neither (is_unknown (get_or l.kinds i 0)) (eqb (get_or l.kinds i 0) 1 && leb banks.len (get_or l.operands i 0)) a.0 in
      let d : true && leb banks.len (get_or l.operands i 0) ≡ false = rw (eq-eqb (get_or l.kinds i 0) 1 k) at b.1 in
      leb-false banks.len (get_or l.operands i 0) d

  -- So the walk stands in a bank of the table before every node, and after it.
  pub listed-switches : (i : ℕ) → i ≤ length l.kinds → switched_to (program banks l) i < banks.len
  listed-switches zero h = (accepted banks c.table).least
  listed-switches (suc i) h =
      either (eqb (get_or l.kinds i 0) 1)
      (λ e. rw e (switch-sound i h (eqb-true (get_or l.kinds i 0) 1 e)))
      (λ e. rw e (listed-switches i (omega arith)))

  module _ (n i : ℕ) (is_last : Bool) (h : i < length l.kinds) (all : (j : ℕ) → j < i → GoesPast (program banks l) (row_of_pass l n) is_last j) where
    -- the bank that node i stands in is listed
    pub stands-listed : bank_after (walk_to (program banks l) (row_of_pass l n) i).bank (node_in banks l n i) < banks.len
    stands-listed =
        rw (bank-by-switches (program banks l) (row_of_pass l n) is_last i all) (listed-switches (suc i) h)

    -- and its numbers are sound
    pub sound-numbers : malformed (bank_after (walk_to (program banks l) (row_of_pass l n) i).bank (node_in banks l n i)) (node_in banks l n i) ≡ false
    sound-numbers =
        let most = (accepted banks c.table).most in
        let bank = stands-listed in
        let b = bank_after (walk_to (program banks l) (row_of_pass l n) i).bank (node_in banks l n i) in
        let outside : leb max_banks b ≡ false = lt-leb max_banks b (omega arith) in
        rw outside (good-state (node_in banks l n i) (sound-state-of-row banks l fill c.lists n i h))
      where
        good-state : (x : Node) → (2 < x.kind → x.state ≤ 2) → bad_state x ≡ false
        good-state x s =
            either (leb 3 x.kind) (λ e. rw e (le-ltb 2 x.state (s (leb-true 3 x.kind e)))) (λ e. rw e)

    -- In a pass, 5 is met at a node exactly when a position would pass the limit there.
    pub five-met-exactly : (seen_at (program banks l) (row_of_pass l n) i ≡ Err (PositionPast i)) ↔
        WouldPass (def_at (program banks l) (row_of_pass l n) i) (walk_to (program banks l) (row_of_pass l n) i) (node_in banks l n i)
    five-met-exactly = (
      step-five-only (def_at (program banks l) (row_of_pass l n) i) (walk_to (program banks l) (row_of_pass l n) i) (node_in banks l n i),
      step-five-when (def_at (program banks l) (row_of_pass l n) i) (walk_to (program banks l) (row_of_pass l n) i) (node_in banks l n i) sound-numbers,
    )

-- ---- no position is past the limit
