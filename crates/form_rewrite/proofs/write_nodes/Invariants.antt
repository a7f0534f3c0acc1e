-- `form_rewrite::write_nodes` meets its contract. The invariant: i nodes stand in the buffer.
use Prim.Native.Nat.{ℕ, ◌+◌, ◌-◌, ◌*◌, ◌≤◌}
use mathlib.Core.List.{List}
use mathlib.Core.Path.{◌≡◌}
use Rattle.form_fields.specs.Columns.{column}
use Rattle.form_fields.specs.Contents.{field, flat}
use Rattle.form_fields.specs.Whole.{part}
use Rattle.form_rewrite.specs.Turning.{turned}
use Rattle.print_text.specs.Puts.{Writes}
use Rattle.form_rewrite.proofs.write_nodes.Given as goal

abbrev pub turned_at : List ℕ → ℕ → ℕ → List ℕ
turned_at file bank a = turned bank (part file 5 a)

abbrev pub invariant-loop-i : goal.invariant-loop-i
invariant-loop-i l = (l.i ≤ l.count)
    × (l.end ≡ l.at + l.i * 8)
    × Writes (flat (field 2) (column (turned_at l.file l.bank) 8 l.from l.i)) l.initial.out l.at l.end l.out

abbrev pub decreases-loop-i : goal.decreases-loop-i
decreases-loop-i l = l.count - l.i
