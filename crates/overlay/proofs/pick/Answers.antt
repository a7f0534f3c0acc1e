-- `pick` hands out the bytes that the definition names, of the image that `which` answers; they are inside it, since the range is.
use mathlib.Core.Path.{sym, ◌∙◌}
use native.Mathlib.Omega.{arith}
use Rattle.overlay.specs.Trial.{trial}
use Rattle.overlay.proofs.AnswerLaws.{answered-inside}
use Rattle.overlay.proofs.pick.Goals as goal

pub overflow_add-end : goal.overflow_add-end
overflow_add-end c =
    let lent = trial c.args.overlay.now c.args.released.now c.args.offsets.now c.args.sizes.now in
    omega (arith, answered-inside lent c.args.first c.args.count c.in-Ok.source (sym c.which.ensures.answer ∙ c.in-Ok.is))

pub slice_bounds-result-end-in-Overlay : goal.slice_bounds-result-end-in-Overlay
slice_bounds-result-end-in-Overlay c =
    let lent = trial c.args.overlay.now c.args.released.now c.args.offsets.now c.args.sizes.now in
    omega (arith, answered-inside lent c.args.first c.args.count c.in-Ok.source (sym c.which.ensures.answer ∙ c.in-Ok.is))

pub slice_bounds-result-end-in-Released : goal.slice_bounds-result-end-in-Released
slice_bounds-result-end-in-Released c =
    let lent = trial c.args.overlay.now c.args.released.now c.args.offsets.now c.args.sizes.now in
    omega (arith, answered-inside lent c.args.first c.args.count c.in-Ok.source (sym c.which.ensures.answer ∙ c.in-Ok.is))
