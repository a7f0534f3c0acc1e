-- `form_lists::read64` meets its contract: the definition's sum, and it fits.
use native.Mathlib.Omega.{arith}
use Rattle.form_fields.specs.Words.{word64}
use Rattle.form_lists.proofs.read64.Goals as goal

pub returns : goal.returns
unfolding word64
returns c =
    omega arith
