use mathlib.Core.Bool.{false}
use mathlib.Core.List.{◌++◌}
use mathlib.Core.Path.{◌≡◌, ap, ◌∙◌}
use Prim.Native.Nat.{◌-◌}
use native.Mathlib.Omega.{arith}
use Rattle.blocks.specs.Walk.{block, kept}
use Rattle.blocks.specs.Laws.Put.{filling-on, filling-ends, kept-none}
use Rattle.overlay.specs.Runs.{agree, differ, length_from, runs_from}
use Rattle.overlay.specs.Laws.RunFacts.{length-le}
use Rattle.overlay.proofs.RunLaws.{kept-few, turn, turn-moves, runs-end, length_none}
use Rattle.overlay.proofs.Images.list_stretch.Goals as goal

pub next_agreement-end-requires : goal.next_agreement-end-requires
next_agreement-end-requires c =
    let a = c.args in
    let short = length-le (agree a.self.now.overlay.now a.self.now.released.now) c.loop-at.at (a.self.now.to - c.loop-at.at) in
    omega (arith, c.next_difference-first.ensures, c.loop-at-test.true)

pub loop-at-smaller : goal.loop-at-smaller
loop-at-smaller c =
    let a = c.args in
    let moves = turn-moves (agree a.self.now.overlay.now a.self.now.released.now) c.loop-at.at a.self.now.to c.next_difference-first.result c.next_agreement-end.result
    c.loop-at-test.true c.next_difference-first.ensures c.next_agreement-end.ensures in
    omega (arith, c.loop-at-test.true)

pub loop-at-preserved : goal.loop-at-preserved
loop-at-preserved c =
    let a = c.args in
    let l = c.loop-at in
    let t = differ a.self.now.overlay.now a.self.now.released.now in
    let first = c.next_difference-first.result in
    let end = c.next_agreement-end.result in (
      omega (
        arith,
        l.invariant.0,
        kept-few first end
            (omega (arith, c.next_agreement-end.ensures)),
        c.push-n.ensures.put.counted,
        c.next_difference-first.ensures,
        c.next_agreement-end.ensures,
      ),
      filling-on (kept (block first (end - first))) (runs_from t end (a.self.now.to - end) false)
          (turn (agree a.self.now.overlay.now a.self.now.released.now) l.at a.self.now.to first end (omega (arith, c.loop-at-test.true))
          c.next_difference-first.ensures c.next_agreement-end.ensures)
          l.invariant.1
          c.push-n.ensures.put,
    )

-- nothing differs any more: the next run would be empty, and behind it there is none
pub returns-then-self-first : goal.returns-then-self-first
returns-then-self-first c =
    let a = c.args in
    let l = c.loop-at in
    let same = agree a.self.now.overlay.now a.self.now.released.now in
    let t = differ a.self.now.overlay.now a.self.now.released.now in
    let first = c.next_difference-first.result in
    let empty : length_from t first (a.self.now.to - first) ≡ 0 = ap (length_from t first) {y = 0} (omega arith) ∙ length_none t first in
    let more =
    turn same l.at a.self.now.to first first (omega (arith, c.loop-at-test.true)) c.next_difference-first.ensures (omega (arith, empty)) in
    filling-ends
    (more ∙ ap (λ r. r ++ runs_from t first (a.self.now.to - first) false) (kept-none (block first (first - first)) (omega arith))
    ∙ runs-end t first a.self.now.to (omega arith)) l.invariant.1

pub returns : goal.returns
returns c =
    let a = c.args in
    let l = c.loop-at in
    let t = differ a.self.now.overlay.now a.self.now.released.now in
    filling-ends (runs-end t l.at a.self.now.to c.loop-at-test.false) l.invariant.1
