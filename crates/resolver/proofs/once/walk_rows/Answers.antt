use Rattle.std.specs.Prelude.{Err}
use Prim.Native.Nat.{◌+◌, ◌<◌}
use mathlib.Core.Path.{◌≡◌, refl, sym, ap, subst, ◌∙◌}
use native.Mathlib.Omega.{arith}
use lib.ListN.{length, get_or}
use Rattle.bankdef.specs.Check.{no_bank}
use borrow.Author.Rules.{rules}
use borrow.Author.Tests.{eq-eqb, ne_eqb}
use Rattle.prelude.specs.Laws.Bools.{clash}
use Rattle.prelude.specs.Laws.Pick.{pick_true, pick-false}
use Rattle.prelude.specs.declared.Refusal.{Refusal}
use Rattle.iter.specs.Pace.{seen_by}
use Rattle.iter.specs.Step.{bank_after}
use Rattle.nodes.specs.Lists.{Row, row_with}
use Rattle.resolver.specs.Laws.Stands.{both-stand, stands-in, record_is, sees, stands-next}
use Rattle.resolver.specs.Once.{Program, program_with, node, step_at, walk_to}
use Rattle.resolver.proofs.Going.{met-off, met-paced, pass-start, pass_meets, pass-goes, pass-halts, pass-refused}
use Rattle.resolver.proofs.once.walk_rows.Goals as goal

pub loop-i-init : goal.loop-i-init
loop-i-init c =
    -- what the pass is given
    let given : Program =
    program_with c.args.banks c.args.nodes.kinds.now c.args.nodes.operands.now c.args.nodes.first.now in
    let row : Row =
    row_with c.args.row.numbers.now c.args.row.states.now in
    let row_before : Row =
    row_with c.args.row_before.numbers.now c.args.row_before.states.now in
    let at-start = both-stand (given) c.requires.switches (row) (row_before) c.requires.begun_value in (
      refl,
      search rules,
      pass-start (given) (row) (row_before) c.args.is_first c.args.is_last,
      at-start.0,
      λ e. at-start.1,
    )

pub returns-then-step-ne-MADE-clause-pass : goal.returns-then-step-ne-MADE-clause-pass
returns-then-step-ne-MADE-clause-pass c =
    -- what the pass is given
    let given : Program =
    program_with c.args.banks c.args.nodes.kinds.now c.args.nodes.operands.now c.args.nodes.first.now in
    let row : Row =
    row_with c.args.row.numbers.now c.args.row.states.now in
    let row_before : Row =
    row_with c.args.row_before.numbers.now c.args.row_before.states.now in
    -- owning a table tells that it has 16 records
    let room : length c.args.banks.defs ≡ 16 =
    c.well_formed.0.1.1.0.1.0.1 in
    -- the bank that node i stands in, whatever the row
    let there : c.bank_after-bank.result ≡ bank_after c.loop-i.bank (node (given) (row) c.loop-i.i) =
    stands-in (given) c.requires.switches (row) c.loop-i.i c.loop-i.bank c.node-node.ensures c.bank_after-bank.ensures in
    -- there is one more node
    let more : c.loop-i.i < length c.args.nodes.kinds.now =
    omega (arith, c.loop-i-test.true, c.loop-i.invariant.0) in
    -- what node i sees
    let seen-is : (let i = c.loop-i.i in
    seen_by c.pace-step.result c.node-node.result.index ≡ (step_at (given) (row) (walk_to (given) (row) i) i).seen) =
    let l = c.loop-i in
    sees (given) c.requires.switches (room) (row) l.i l.invariant.3 (there) _ _ no_bank c.node-node.ensures c.pace-step.ensures.1 refl in
    let l = c.loop-i in c.refused_pass.ensures
    ∙ ap (λ (x : Refusal). Err x) c.why_refused.ensures
    ∙ pass-halts (given) (row) (row_before) c.args.is_first c.args.is_last l.i l.invariant.2 (seen-is)
    (pick-false _ _ (ne_eqb c.pace-step.result.fault 0 c.if-step-ne-MADE.true)) (more)

pub returns-then-off_boundary-clause-pass : goal.returns-then-off_boundary-clause-pass
returns-then-off_boundary-clause-pass c =
    -- what the pass is given
    let given : Program =
    program_with c.args.banks c.args.nodes.kinds.now c.args.nodes.operands.now c.args.nodes.first.now in
    let row : Row =
    row_with c.args.row.numbers.now c.args.row.states.now in
    let row_before : Row =
    row_with c.args.row_before.numbers.now c.args.row_before.states.now in
    -- owning a table tells that it has 16 records
    let room : length c.args.banks.defs ≡ 16 =
    c.well_formed.0.1.1.0.1.0.1 in
    -- the bank that node i stands in, whatever the row
    let there : c.bank_after-bank.result ≡ bank_after c.loop-i.bank (node (given) (row) c.loop-i.i) =
    stands-in (given) c.requires.switches (row) c.loop-i.i c.loop-i.bank c.node-node.ensures c.bank_after-bank.ensures in
    -- there is one more node
    let more : c.loop-i.i < length c.args.nodes.kinds.now =
    omega (arith, c.loop-i-test.true, c.loop-i.invariant.0) in
    -- what node i sees
    let seen-is : (let i = c.loop-i.i in
    seen_by c.pace-step.result c.node-node.result.index ≡ (step_at (given) (row) (walk_to (given) (row) i) i).seen) =
    let l = c.loop-i in
    sees (given) c.requires.switches (room) (row) l.i l.invariant.3 (there) _ _ no_bank c.node-node.ensures c.pace-step.ensures.1 refl in
    let l = c.loop-i in c.refused_pass-then-off_boundary.ensures
    ∙ pass-refused (given) (row) (row_before) c.args.is_first c.args.is_last l.i (walk_to (given) (row) (l.i + 1))
    (pass_meets (given) (row) (row_before) c.args.is_first c.args.is_last l.i l.invariant.2 c.node-node.ensures
    (record_is (given) c.requires.switches (room) (row) l.i l.invariant.3 (there) no_bank refl)
    (seen-is) refl
    (met-off (get_or c.args.banks.defs c.bank_after-bank.result no_bank) c.node-node.result
    (step_at (given) (row_before) (walk_to (given) (row_before) l.i) l.i).seen c.args.is_first c.args.is_last l.merged (pick_true _ _ (eq-eqb c.pace-step.result.fault 0 c.if-step-ne-MADE.false)) c.off_boundary.ensures c.if-off_boundary.true))
    refl (more)

-- held against its own row: what the pass before sees is what this one sees
pub loop-i-preserved-then-alone : goal.loop-i-preserved-then-alone
loop-i-preserved-then-alone c =
    -- what the pass is given
    let given : Program =
    program_with c.args.banks c.args.nodes.kinds.now c.args.nodes.operands.now c.args.nodes.first.now in
    let row : Row =
    row_with c.args.row.numbers.now c.args.row.states.now in
    let row_before : Row =
    row_with c.args.row_before.numbers.now c.args.row_before.states.now in
    -- owning a table tells that it has 16 records
    let room : length c.args.banks.defs ≡ 16 =
    c.well_formed.0.1.1.0.1.0.1 in
    -- the bank that node i stands in, whatever the row
    let there : c.bank_after-bank.result ≡ bank_after c.loop-i.bank (node (given) (row) c.loop-i.i) =
    stands-in (given) c.requires.switches (row) c.loop-i.i c.loop-i.bank c.node-node.ensures c.bank_after-bank.ensures in
    -- what node i sees
    let seen-is : (let i = c.loop-i.i in
    seen_by c.pace-step.result c.node-node.result.index ≡ (step_at (given) (row) (walk_to (given) (row) i) i).seen) =
    let l = c.loop-i in
    sees (given) c.requires.switches (room) (row) l.i l.invariant.3 (there) _ _ no_bank c.node-node.ensures c.pace-step.ensures.1 refl in
    let l = c.loop-i in
    let i = l.i in
    let alone = c.if-alone.true in
    let other =
    subst (λ (r : Row). seen_by c.pace-step.result c.node-node.result.index ≡ (step_at (given) r (walk_to (given) r i) i).seen)
    (sym (c.requires.before_states_value alone)) (seen-is) in (
      l.invariant.0,
      omega (arith, c.loop-i-test.true),
      pass-goes (given) (row) (row_before) c.args.is_first c.args.is_last (i + 1)
          (pass_meets (given) (row) (row_before) c.args.is_first c.args.is_last i l.invariant.2 c.node-node.ensures
          (record_is (given) c.requires.switches (room) (row) i l.invariant.3 (there) no_bank refl) (seen-is) other
          (met-paced (get_or c.args.banks.defs c.bank_after-bank.result no_bank) c.node-node.result c.pace-step.result c.node-node.result.index
          c.args.is_first c.args.is_last l.merged
          (pick_true _ _ (eq-eqb c.pace-step.result.fault 0 c.if-step-ne-MADE.false)) c.off_boundary.ensures c.if-off_boundary.false
          c.node_state.ensures c.max-merged.ensures))
          refl,
      stands-next (given) c.requires.switches (room) (row) i l.invariant.3 (there) _ _ no_bank c.node-node.ensures c.pace-step.ensures.1 refl,
      λ e. absurd (clash alone e),
    )

-- held against the row before
pub loop-i-preserved : goal.loop-i-preserved
loop-i-preserved c =
    -- what the pass is given
    let given : Program =
    program_with c.args.banks c.args.nodes.kinds.now c.args.nodes.operands.now c.args.nodes.first.now in
    let row : Row =
    row_with c.args.row.numbers.now c.args.row.states.now in
    let row_before : Row =
    row_with c.args.row_before.numbers.now c.args.row_before.states.now in
    -- owning a table tells that it has 16 records
    let room : length c.args.banks.defs ≡ 16 =
    c.well_formed.0.1.1.0.1.0.1 in
    -- the bank that node i stands in, whatever the row
    let there : c.bank_after-bank.result ≡ bank_after c.loop-i.bank (node (given) (row) c.loop-i.i) =
    stands-in (given) c.requires.switches (row) c.loop-i.i c.loop-i.bank c.node-node.ensures c.bank_after-bank.ensures in
    -- what node i sees
    let seen-is : (let i = c.loop-i.i in
    seen_by c.pace-step.result c.node-node.result.index ≡ (step_at (given) (row) (walk_to (given) (row) i) i).seen) =
    let l = c.loop-i in
    sees (given) c.requires.switches (room) (row) l.i l.invariant.3 (there) _ _ no_bank c.node-node.ensures c.pace-step.ensures.1 refl in
    let l = c.loop-i in
    let i = l.i in
    let old = l.invariant.4 c.if-alone.false in (
      l.invariant.0,
      omega (arith, c.loop-i-test.true),
      pass-goes (given) (row) (row_before) c.args.is_first c.args.is_last (i + 1)
          (pass_meets (given) (row) (row_before) c.args.is_first c.args.is_last i l.invariant.2 c.node-node.ensures
          (record_is (given) c.requires.switches (room) (row) i l.invariant.3 (there) no_bank refl) (seen-is)
          (sees (given) c.requires.switches (room) (row_before) i old (there) _ _ no_bank c.node-node_before.ensures c.pace-before.ensures.1 refl)
          (met-paced (get_or c.args.banks.defs c.bank_after-bank.result no_bank) c.node-node.result c.pace-before.result c.node-node_before.result.index
          c.args.is_first c.args.is_last l.merged
          (pick_true _ _ (eq-eqb c.pace-step.result.fault 0 c.if-step-ne-MADE.false)) c.off_boundary.ensures c.if-off_boundary.false
          c.node_state-in-loop-i.ensures c.max-merged-in-loop-i.ensures))
          refl,
      stands-next (given) c.requires.switches (room) (row) i l.invariant.3 (there) _ _ no_bank c.node-node.ensures c.pace-step.ensures.1 refl,
      λ e. stands-next (given) c.requires.switches (room) (row_before) i old (there) _ _ no_bank c.node-node_before.ensures c.pace-before.ensures.1 refl,
    )
