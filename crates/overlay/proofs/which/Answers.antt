-- `which` meets its contract: 4, 16, and then by the blocks.
use mathlib.Core.Path.{sym, ap, ◌∙◌}
use native.Mathlib.Omega.{arith}
use lib.ListN.{length}
use Rattle.overlay.specs.Cover.{covered_bit}
use Rattle.overlay.specs.Range.{judged}
use Rattle.overlay.specs.Laws.Range.{inside-true}
use Rattle.overlay.specs.Trial.{trial}
use Rattle.overlay.proofs.AnswerLaws.{out_of_order, outside, by-cover}
use Rattle.overlay.proofs.which.Goals as goal

pub returns-then-not-in_order : goal.returns-then-not-in_order
returns-then-not-in_order c =
    let a = c.args in
    out_of_order (trial a.overlay.now a.released.now a.offsets.now a.sizes.now) a.first a.count (sym c.in_order.ensures ∙ c.if-not-in_order.true)

pub returns-then-not-is_inside : goal.returns-then-not-is_inside
returns-then-not-is_inside c =
    let a = c.args in
    outside (trial a.overlay.now a.released.now a.offsets.now a.sizes.now) a.first a.count (sym c.in_order.ensures ∙ c.if-not-in_order.false)
    (sym c.is_inside.ensures ∙ c.if-not-is_inside.true)

pub overflow_add-first : goal.overflow_add-first
overflow_add-first c =
    let a = c.args in
    omega (
      arith,
      inside-true (length a.overlay.now) (length a.released.now) a.first a.count (sym c.is_inside.ensures ∙ c.if-not-is_inside.false),
    )

pub cover-requires : goal.cover-requires
cover-requires c =
    let a = c.args in (
      sym c.in_order.ensures ∙ c.if-not-in_order.false,
      omega (
        arith,
        inside-true (length a.overlay.now) (length a.released.now) a.first a.count (sym c.is_inside.ensures ∙ c.if-not-is_inside.false),
      ),
    )

pub returns : goal.returns
returns c =
    let a = c.args in
    by-cover (trial a.overlay.now a.released.now a.offsets.now a.sizes.now) a.first a.count (sym c.in_order.ensures ∙ c.if-not-in_order.false)
    (sym c.is_inside.ensures ∙ c.if-not-is_inside.false) c.cover.result
    (c.cover.ensures ∙ ap (judged (covered_bit a.offsets.now a.sizes.now) a.first) (omega arith))
