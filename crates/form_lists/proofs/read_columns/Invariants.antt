-- `form_lists::read_columns` meets its contract. The invariant: the first i things of both columns stand in the lists.
use Prim.Native.Nat.{◌-◌, ◌≤◌}
use mathlib.Core.Path.{◌≡◌}
use lib.ListN.{length}
use lib.Seq.{paste}
use Rattle.form_fields.specs.Columns.{column}
use Rattle.form_fields.specs.Words.{byte, word32}
use Rattle.form_lists.proofs.read_columns.Given as goal

abbrev pub invariant-loop-i : goal.invariant-loop-i
invariant-loop-i l = (l.i ≤ l.count)
    × (length l.words ≡ length l.initial.words)
    × (length l.bytes ≡ length l.initial.bytes)
    × (l.words ≡ paste l.initial.words l.from (column (word32 l.file) l.step l.word_at l.count) l.i)
    × (l.bytes ≡ paste l.initial.bytes l.from (column (byte l.file) l.step l.byte_at l.count) l.i)

abbrev pub decreases-loop-i : goal.decreases-loop-i
decreases-loop-i l = l.count - l.i
