-- `form_lists::read32` meets its contract: the definition's sum, and it fits.
use native.Mathlib.Omega.{arith}
use Rattle.form_fields.specs.Words.{word32}
use Rattle.form_lists.proofs.read32.Goals as goal

pub returns : goal.returns
unfolding word32
returns c =
    omega arith
