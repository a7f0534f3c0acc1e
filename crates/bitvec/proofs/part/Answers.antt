-- `bitvec::part` hands out the bytes that the definition names; their end is within the image since the part is one.
use mathlib.Core.Path.{sym, ◌∙◌}
use lib.ListN.{length}
use native.Mathlib.Omega.{arith}
use Rattle.bitvec.specs.Theorems.Part.{is_part-true}
use Rattle.bitvec.proofs.part.Goals as goal

pub slice_bounds-result-end : goal.slice_bounds-result-end
slice_bounds-result-end c =
    let a = c.args in
    omega (arith, is_part-true (length a.image.now) a.offset a.size (sym c.is_part.ensures ∙ c.if-is_part.true))
