-- `first_free` meets its contract: what is left of the blocks leads from the byte that is reached to the same one.
use mathlib.Core.Path.{◌≡◌}
use Prim.Native.Nat.{◌≤◌, max}
use lib.ListN.{length, drop}
use Rattle.print_bench.specs.Images.{free_from}
use Rattle.print_bench.specs.Steps.{far}
use Rattle.print_bench.proofs.first_free.Given as goal

abbrev pub invariant-loop-offset : goal.invariant-loop-offset
invariant-loop-offset l =
    (free_from l.offsets l.sizes l.at ≡ free_from (drop (length l.yielded) l.offsets) (drop (length l.yielded) l.sizes) l.free) × (l.free ≤ max l.at far)
