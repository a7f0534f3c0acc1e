-- `chain_end` meets its contract: the blocks passed touch one another, each the next.
use Rattle.std.proofs.Common.{◌≡◌, ℕ, ◌+◌, ◌≤◌, ◌<◌, length, get_or}
use Rattle.overlay.proofs.chain_end.Given as goal

abbrev pub invariant-loop-next : goal.invariant-loop-next
invariant-loop-next l = (l.at + 1 ≤ l.next)
    × (l.next ≤ length l.offsets)
    × ((m : ℕ) → l.at ≤ m → m + 1 < l.next → get_or l.offsets m 0 + get_or l.sizes m 0 ≡ get_or l.offsets (m + 1) 0)
