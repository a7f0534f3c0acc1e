-- `form_rewrite::write_fields` meets its contract. The invariant: i fields stand in the buffer.
use Prim.Native.Nat.{ℕ, ◌+◌, ◌-◌, ◌*◌, ◌≤◌}
use mathlib.Core.List.{List, ◌++◌}
use mathlib.Core.Path.{◌≡◌}
use Rattle.form_fields.specs.Columns.{column}
use Rattle.form_fields.specs.Contents.{field, flat}
use Rattle.form_fields.specs.Whole.{part}
use Rattle.form_rewrite.specs.Turning.{zeros}
use Rattle.print_text.specs.Puts.{Writes}
use Rattle.form_rewrite.proofs.write_fields.Given as goal

abbrev pub padded : List ℕ → ℕ → ℕ → ℕ → ℕ → List ℕ
padded file before keep behind a = zeros before ++ (part file keep a ++ zeros behind)

abbrev pub invariant-loop-i : goal.invariant-loop-i
invariant-loop-i l = (l.i ≤ l.count)
    × (l.end ≡ l.at + l.i * (3 + (l.before + l.keep + l.behind)))
    × Writes (flat (field l.tag) (column (padded l.file l.before l.keep l.behind) l.step l.from l.i)) l.initial.out l.at l.end l.out

abbrev pub decreases-loop-i : goal.decreases-loop-i
decreases-loop-i l = l.count - l.i
