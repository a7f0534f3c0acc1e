-- Uniqueness over the public function's own contract: two answers that meet it for the same file are equal, and so is the scratch afterwards.
use Rattle.std.specs.Prelude.{Result}
use mathlib.Core.List.{List}
use Prim.Native.Nat.{ℕ}
use Rattle.prelude.specs.Laws.Outcome.{OneView}
use Rattle.prelude.specs.Laws.Pick.{determined, paired}
use Rattle.prelude.specs.declared.Refusal.{Refusal}
use Rattle.record_extent.proofs.extent_of.Kinds as extent-of-kinds
use Rattle.record_extent.proofs.extent_of.Reads as extent-of-reads
use Rattle.record_extent.specs.declared.Extent.{Extent}

pub extent-of-unique : OneView 2 extent-of-kinds.ps extent-of-kinds.r extent-of-reads.Learnt ((Result Extent Refusal) × List ℕ) (λ κs x e. (x, e.1.1.0.now))
extent-of-unique κs a x y e f p q = paired (determined p.0 q.0) (determined p.1 q.1)
