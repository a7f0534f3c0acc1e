-- The nodes so far keep the rule, and the bank carried along is the one in force; the first node that does not keep it is named.
use Prim.Native.Nat.{◌/◌}
use mathlib.Core.Path.{◌≡◌}
use lib.ListN.{length}
use Rattle.build_profile.specs.Laws.RuleLaws.{KeptTo}
use Rattle.build_profile.specs.Rules.{addrs_kept}
use Rattle.build_profile.specs.Standing.{bank_before}
use Rattle.build_profile.specs.Steps.{nodes_of}
use Rattle.build_profile.proofs.rules.check_addrs.Given as goal

abbrev pub invariant-loop-i : goal.invariant-loop-i
invariant-loop-i l =
    (l.bank ≡ bank_before l.kinds l.operands l.i)
    × KeptTo (addrs_kept l.banks (nodes_of l.kinds l.operands l.numbers (length l.numbers / length l.kinds))) l.i
