use mathlib.Core.Path.{sym}
use native.Mathlib.Omega.{arith}
use Rattle.print_map.proofs.Lines.{nodes-none, nodes-next, written_as}
use Rattle.print_text.specs.Laws.Sets.{writes_then, writes-none}
use Rattle.print_map.proofs.records.write_nodes.Goals as goal

pub loop-i-init : goal.loop-i-init
loop-i-init c =
    let a = c.args in (
      omega arith,
      omega arith,
      written_as
          (sym (nodes-none a.banks a.kinds.now a.banks_of.now a.positions.now a.outputs.now a.sizes.now))
          (writes-none a.out.now a.at),
    )

pub loop-i-preserved : goal.loop-i-preserved
loop-i-preserved c =
    let a = c.args in
    let l = c.loop-i in
    let w = c.write_node-end.ensures in (
      omega (arith, c.loop-i-test.true),
      omega (arith, l.invariant.1, w.upper_bound),
      written_as (sym (nodes-next a.banks a.kinds.now a.banks_of.now a.positions.now a.outputs.now a.sizes.now l.i))
          (writes_then l.invariant.2 w.writes),
    )
