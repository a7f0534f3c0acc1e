-- The blank image: the banks from 1 to before the next one are laid.
use mathlib.Core.Path.{◌≡◌}
use Prim.Native.Nat.{◌+◌}
use lib.ListN.{length}
use Rattle.bankdef.specs.Check.{banks_of}
use Rattle.build_write.proofs.Laying.{laid_to}
use Rattle.build_write.proofs.blank.lay_blank.Given as goal

abbrev pub invariant-loop-def : goal.invariant-loop-def
invariant-loop-def l = l.image ≡ laid_to (banks_of l.fn.banks) l.bits (length l.initial.image) (1 + l.def-index)
