use mathlib.Core.Path.{subst}
use Prim.Native.Nat.{◌+◌, ◌<◌}
use borrow.Author.Rules.{rules}
use Rattle.bitvec.specs.Ones.{AnyOne}
use Rattle.record_scan.proofs.WindowLaws.{marking-starts, marking-hit, marking-on}
use Rattle.record_scan.proofs.mark_window.Goals as goal

pub loop-k-init : goal.loop-k-init
loop-k-init c =
    let a = c.args in
    marking-starts a.format a.text.now a.n a.low a.scratch.now c.requires.low_bound.1 c.requires.low_bound.0

pub returns-then-any_one : goal.returns-then-any_one
returns-then-any_one c =
    let a = c.args in
    -- an address of 32 bits and a count of 8
    let near : c.known_line-s.result.line.address + c.known_line-s.result.line.count < 8589934592 = search rules in
    marking-hit a.format a.text.now a.n a.low a.scratch.now c.loop-k.invariant c.loop-k-test.true c.known_line-s.ensures
    c.saturating_sub-from.ensures c.saturating_sub-stop.ensures near
    (subst (AnyOne c.loop-k.scratch c.saturating_sub-from.result c.saturating_sub-stop.result) c.if-any_one.true c.any_one.ensures)

pub loop-k-preserved : goal.loop-k-preserved
loop-k-preserved c =
    let a = c.args in
    marking-on a.format a.text.now a.n a.low a.scratch.now c.loop-k.invariant c.loop-k-test.true c.known_line-s.ensures
    c.saturating_sub-from.ensures c.saturating_sub-stop.ensures
    (subst (AnyOne c.loop-k.scratch c.saturating_sub-from.result c.saturating_sub-stop.result) c.if-any_one.false c.any_one.ensures) c.set_ones.ensures
    c.window_end-top.ensures c.nearer-next.ensures
