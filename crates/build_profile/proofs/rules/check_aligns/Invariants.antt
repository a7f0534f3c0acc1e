-- The nodes so far keep the rule; the first that does not is named.
use Prim.Native.Nat.{◌/◌}
use mathlib.Core.List.{[]}
use lib.ListN.{length}
use Rattle.build_profile.specs.Laws.RuleLaws.{KeptTo}
use Rattle.build_profile.specs.Rules.{aligns_kept}
use Rattle.build_profile.specs.Steps.{nodes_of}
use Rattle.build_profile.proofs.rules.check_aligns.Given as goal

abbrev pub invariant-loop-i : goal.invariant-loop-i
invariant-loop-i l = KeptTo (aligns_kept (nodes_of l.kinds [] l.numbers (length l.numbers / length l.kinds))) l.i
