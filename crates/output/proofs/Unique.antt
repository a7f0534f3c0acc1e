-- Uniqueness of each public function, over its contract's own clause: of the build the answer, and what stands in the four lent slices afterwards.
use borrow.Fn.Kinds.{ended_of}
use contract.Lifetimes.{Lfts}
use denote.Triple.Clauses.{AtExit}
use Rattle.prelude.specs.Laws.Outcome.{OneOutcome, OneView}
use Rattle.prelude.specs.Laws.Pick.{determined, paired}
use Rattle.output.specs.Output.{Lent, lent}
use Rattle.output.specs.Theorems.Unique.{build-unique}
use Rattle.output.specs.declared.Output.{Output}
use Rattle.output.proofs.builds.build_output.Kinds as build-output-kinds
use Rattle.output.proofs.builds.build_output.Reads as build-output-reads
use Rattle.output.proofs.builds.row_start.Kinds as row-start-kinds
use Rattle.output.proofs.builds.row_start.Reads as row-start-reads

-- what is lent, at exit
abbrev pub lent_at : (κs : Lfts 9) → AtExit (ended_of 9 build-output-kinds.ps build-output-kinds.r) κs → Lent
lent_at κs e =
    let slices = e.1.1.1.1.1.1.1.1 in
    lent slices.0.now slices.1.0.now slices.1.1.0.now slices.1.1.1.0.now

pub build-output-unique : OneView 9 build-output-kinds.ps build-output-kinds.r build-output-reads.Learnt (Output × Lent) (λ κs x e. (x, lent_at κs e))
build-output-unique κs a x y e f p q = let same = build-unique _ _ p q in paired same.0 same.1

pub row-start-unique : OneOutcome 0 row-start-kinds.ps row-start-kinds.r row-start-reads.Learnt
row-start-unique κs a x y e f p q = determined p.0 q.0
