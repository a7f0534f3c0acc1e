-- `form_fields::count_run` meets its contract. The invariant: what is counted and the run from here are the whole run.
use Prim.Native.Nat.{◌+◌, ◌-◌, ◌*◌, ◌≤◌}
use mathlib.Core.Path.{◌≡◌}
use lib.ListN.{length}
use Rattle.form_fields.specs.Fields.{run}
use Rattle.form_fields.proofs.count_run.Given as goal

abbrev pub invariant-loop-end : goal.invariant-loop-end
invariant-loop-end l = (run l.file l.tag l.len l.at ≡ l.count + run l.file l.tag l.len l.end) × (l.end ≡ l.at + l.count * (3 + l.len)) × (l.count ≤ l.end)

abbrev pub decreases-loop-end : goal.decreases-loop-end
decreases-loop-end l = length l.file - l.end
