-- `in_order` meets its contract: what is left to look at answers for the whole. The end of the block before is never reckoned.
use Rattle.std.proofs.Common.{◌≡◌, ◌+◌, length, drop}
use Rattle.overlay.specs.Order.{in_order}
use Rattle.overlay.proofs.in_order.Given as goal

abbrev pub invariant-loop-next : goal.invariant-loop-next
invariant-loop-next l = (length l.offsets ≡ length l.sizes)
    × (in_order (l.offset + l.size) (drop (length l.yielded) l.offsets) (drop (length l.yielded) l.sizes) ≡ in_order 0 l.offsets l.sizes)
