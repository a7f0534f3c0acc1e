-- Uniqueness over the contract's own clause: the answer, and what stands in the lent slices afterwards.
use borrow.Fn.Kinds.{ended_of}
use contract.Lifetimes.{Lfts}
use denote.Triple.Clauses.{AtExit}
use Rattle.prelude.specs.Laws.Outcome.{OneOutcome, OneView}
use Rattle.prelude.specs.Laws.Pick.{determined, paired}
use Rattle.output.specs.Output.{Lent, lent}
use Rattle.output.specs.declared.Output.{Output}
use Rattle.form_build.specs.Theorems.Paged.{one-built-in}
use Rattle.form_build.specs.Theorems.Unique.{one-file-build}
use Rattle.form_build.proofs.chosen.Kinds as chosen-kinds
use Rattle.form_build.proofs.chosen.Reads as chosen-reads
use Rattle.form_build.proofs.build_with.Kinds as with-kinds
use Rattle.form_build.proofs.build_with.Reads as with-reads
use Rattle.form_build.proofs.build_file.Kinds as build-kinds
use Rattle.form_build.proofs.build_file.Reads as build-reads

pub chosen-unique : OneOutcome 0 chosen-kinds.ps chosen-kinds.r chosen-reads.Learnt
chosen-unique κs a x y e f p q = determined p q

-- what is lent to the build, at exit
abbrev file_lent : (κs : Lfts 5) → AtExit (ended_of 5 build-kinds.ps build-kinds.r) κs → Lent
file_lent κs e = lent e.1.1.1.0.now e.1.1.1.1.0.now e.1.1.1.1.1.0.now e.1.1.1.1.1.1.0.now

pub build-file-unique : OneView 5 build-kinds.ps build-kinds.r build-reads.Learnt (Output × Lent) (λ κs x e. (x, file_lent κs e))
build-file-unique κs a x y e f p q = let same = one-file-build p q in paired same.0 same.1

abbrev with_lent : (κs : Lfts 9) → AtExit (ended_of 9 with-kinds.ps with-kinds.r) κs → Lent
with_lent κs e =
    let slices = e.1.1.1.1.1.1.1.1.1 in
    lent slices.0.now slices.1.0.now slices.1.1.0.now slices.1.1.1.0.now

pub build-with-unique : OneView 9 with-kinds.ps with-kinds.r with-reads.Learnt (Output × Lent) (λ κs x e. (x, with_lent κs e))
build-with-unique κs a x y e f p q = let same = one-built-in p q in paired same.0 same.1
