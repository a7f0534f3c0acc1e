-- Uniqueness of the text, over its contract's own clause: the answer, and what stands in the lent buffer afterwards.
use mathlib.Core.List.{List}
use Prim.Native.Nat.{ℕ}
use Rattle.prelude.specs.Laws.Outcome.{OneView}
use Rattle.prelude.specs.Laws.Pick.{paired}
use Rattle.print_map.specs.Laws.Unique.{writes-unique}
use Rattle.print_map.proofs.files.write_map.Kinds as write-map-kinds
use Rattle.print_map.proofs.files.write_map.Reads as write-map-reads

pub write-map-unique : OneView 2 write-map-kinds.ps write-map-kinds.r write-map-reads.Learnt (ℕ × List ℕ) (λ κs x e. (x, e.1.1.1.0.now))
write-map-unique κs a x y e f p q = let same = writes-unique p.0 q.0 in paired same.0 same.1
