-- `bankdef::check_bank_overlap` meets its contract. The loop's invariant: no bank passed overlaps one after it, so the first pair is that
-- of the banks from here on.
use Rattle.std.proofs.Common.{◌≡◌, ◌+◌, drop, length}
use Rattle.bankdef.specs.Check.{first_pair}
use Rattle.bankdef.proofs.check_bank_overlap.Given as goal

abbrev pub invariant-loop-i : goal.invariant-loop-i
invariant-loop-i l = record {
  can : (goal.iterator-loop-i).can_next l.i-iterator;
  ends : (goal.iterator-loop-i).is_finite l.i-iterator;
  left : first_pair 1 (drop 1 l.banks) ≡ first_pair (1 + length l.yielded) (drop (1 + length l.yielded) l.banks);
}
