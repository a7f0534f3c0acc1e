-- Uniqueness of the build in the profile, over its contract's own clause: the answer, and what stands in the four lent slices afterwards.
use borrow.Fn.Kinds.{ended_of}
use contract.Lifetimes.{Lfts}
use denote.Triple.Clauses.{AtExit}
use Rattle.prelude.specs.Laws.Outcome.{OneView}
use Rattle.prelude.specs.Laws.Pick.{paired}
use Rattle.output.specs.Output.{Lent, lent}
use Rattle.output.specs.declared.Output.{Output}
use Rattle.build_paged.specs.Theorems.InProfile.{one-outcome}
use Rattle.build_paged.proofs.build_in_profile.Kinds as build-kinds
use Rattle.build_paged.proofs.build_in_profile.Reads as build-reads

-- what is lent, at exit
abbrev pub lent_at : (κs : Lfts 9) → AtExit (ended_of 9 build-kinds.ps build-kinds.r) κs → Lent
lent_at κs e =
    let slices = e.1.1.1.1.1.1.1.1.1 in
    lent slices.0.now slices.1.0.now slices.1.1.0.now slices.1.1.1.0.now

pub build-in-profile-unique : OneView 9 build-kinds.ps build-kinds.r build-reads.Learnt (Output × Lent) (λ κs x e. (x, lent_at κs e))
build-in-profile-unique κs a x y e f p q = let same = one-outcome _ _ _ p q in paired same.0 same.1
