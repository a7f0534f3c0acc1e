-- `first_alone` meets its contract: what is left of the overlay's blocks leads to the same byte.
use mathlib.Core.Path.{◌≡◌}
use lib.ListN.{length, drop}
use Rattle.print_bench.specs.Images.{alone_in}
use Rattle.print_bench.proofs.first_alone.Given as goal

abbrev pub invariant-loop-offset : goal.invariant-loop-offset
invariant-loop-offset l = alone_in l.released_offsets l.released_sizes l.offsets l.sizes l.end ≡ alone_in l.released_offsets l.released_sizes
    (drop (length l.yielded) l.offsets) (drop (length l.yielded) l.sizes) l.end
