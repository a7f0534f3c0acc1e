-- Theorems about what Switches defines.
use Rattle.std.specs.Prelude.{ℕ, ◌<◌, ◌≤◌, ◌≡◌, false, ◌&&◌, eqb, leb, get_or, length}
use Rattle.std.proofs.Common.{sym, ◌∙◌, ⊎_elim, arith, leb-false, eq-eqb}
use Rattle.std.proofs.Math.ListN.{get_or-eq_default}
use Rattle.prelude.specs.Laws.Bools.{neither}
use Rattle.prelude.specs.Verdict.{Accepted, Verdict}
use Rattle.bankdef.specs.Check.{check_of}
use Rattle.bankdef.specs.Theorems.Refused.{accepted}
use Rattle.bankdef.specs.declared.Bankdefs.{Bankdefs}
use Rattle.resolver.specs.Laws.Least.{or-past}
use Rattle.nodes.specs.Kinds.{is_unknown}
use Rattle.nodes.specs.Lists.{Lists, node_of, head_fault, any_row_fault, lists_of}
use Rattle.nodes.specs.Theorems.Sound.{accepted-node, accepted-lists}
use Rattle.resolver.specs.Switches.{Switches}

module _ (banks : Bankdefs) (l : Lists) (fill : ℕ) where
  -- "The operand is a bank for 1": a switch that the check has gone past
  switch-named : lists_of banks.len l fill ≡ Accepted → (i : ℕ) → i < length l.kinds → get_or l.kinds i 0 ≡ 1 → get_or l.operands i 0 < banks.len
  switch-named e i h k =
      let n = node_of l.kinds l.operands l.numbers l.states 0 i in
      let none = accepted-node banks.len l (length l.kinds) (accepted-lists banks.len l fill e).nodes i h in
      let head = (neither (head_fault banks.len n) (any_row_fault l i l.rows) none).0 in
      let named = (neither (is_unknown n.kind) (eqb n.kind 1 && leb banks.len n.operand) head).1 in
      let past : leb banks.len n.operand ≡ false = rw (eq-eqb (get_or l.kinds i 0) 1 k) at named in
      leb-false banks.len n.operand past

  pub accepted-switches : {u v : Verdict} → u ≡ check_of banks → u ≡ Accepted → v ≡ lists_of banks.len l fill → v ≡ Accepted
      → Switches banks.len l.kinds l.operands
  accepted-switches t f e g =
      let table = accepted banks (sym t ∙ f) in
      record {
        some = table.least;
        few = table.most;
        named = λ i k.
            ⊎_elim (λ (h : length l.kinds ≤ i). absurd (let z = sym (get_or-eq_default l.kinds 0 h) ∙ k in omega arith))
            (λ (h : i < length l.kinds). switch-named (sym e ∙ g) i h k)
            (or-past (length l.kinds) i);
      }
