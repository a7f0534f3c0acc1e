-- Uniqueness of the text, over its contract's own clause: the answer, and every byte of the lent buffer.
use mathlib.Core.List.{List}
use Prim.Native.Nat.{ℕ, ◌≤◌}
use lib.ListN.{length}
use Rattle.prelude.specs.Laws.Outcome.{OneView}
use Rattle.prelude.specs.Laws.Pick.{determined, paired}
use Rattle.print_records.specs.Steps.{text_room}
use Rattle.print_records.proofs.put_file.Kinds as put-file-kinds
use Rattle.print_records.proofs.put_file.Reads as put-file-reads

pub put-file-unique : OneView 2 put-file-kinds.ps put-file-kinds.r
    (λ κs a x e. (text_room ≤ length a.1.1.1.1.0.now) × put-file-reads.Learnt κs a x e) (ℕ × List ℕ) (λ κs x e. (x, e.1.1.1.1.0.now))
put-file-unique κs a x y e f p q = paired (determined (p.1 p.0).counted (q.1 q.0).counted) (determined (p.1 p.0).buffer (q.1 q.0).buffer)
