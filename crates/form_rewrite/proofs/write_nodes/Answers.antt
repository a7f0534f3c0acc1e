use native.Mathlib.Omega.{arith}
use Rattle.form_rewrite.proofs.Laws.{fields-none, fields-turn}
use Rattle.form_rewrite.proofs.write_nodes.Invariants.{turned_at}
use Rattle.form_rewrite.proofs.write_nodes.Goals as goal

pub loop-i-init : goal.loop-i-init
loop-i-init c =
    let a = c.args in
    (omega arith, omega arith, fields-none 2 (turned_at a.file.now a.bank) 8 a.from)

pub loop-i-preserved : goal.loop-i-preserved
loop-i-preserved c =
    let a = c.args in
    let next = c.write_node-end.ensures in
    (omega arith, omega arith, fields-turn 2 (turned_at a.file.now a.bank) 8 a.from c.loop-i.i c.loop-i.invariant.2 next.writes)
