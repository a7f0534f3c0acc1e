-- Uniqueness: the public function's own contract has one outcome: what stands in the four lent slices afterwards.
use Prim.Native.Nat.{ℕ}
use mathlib.Core.List.{List}
use lib.IntN.{ℤ}
use borrow.Fn.Kinds.{ended_of}
use contract.Lifetimes.{Lfts}
use denote.Triple.Clauses.{AtExit}
use Rattle.prelude.specs.Laws.Pick.{determined, paired}
use Rattle.prelude.specs.Laws.Outcome.{OneView}
use Rattle.build_write.proofs.write_row.Kinds as write-row-kinds
use Rattle.build_write.proofs.write_row.Reads as write-row-reads

-- the image and the three lists of spans, at exit
abbrev lent_at : (κs : Lfts 10) → AtExit (ended_of 10 write-row-kinds.ps write-row-kinds.r) κs → List ℕ × (List ℤ × (List ℕ × List ℕ))
lent_at κs e =
    let slices = e.1.1.1.1.1.1.1.1 in
    (slices.0.now, (slices.1.0.now, (slices.1.1.0.now, slices.1.1.1.0.now)))

pub write-row-unique : OneView 10 write-row-kinds.ps write-row-kinds.r write-row-reads.Learnt (List ℕ × (List ℤ × (List ℕ × List ℕ)))
    (λ κs x e. lent_at κs e)
write-row-unique κs a x y e f p q =
    paired (determined p.0 q.0)
    (paired (determined p.1.0 q.1.0) (paired (determined p.1.1.0 q.1.1.0) (determined p.1.1.1 q.1.1.1)))
