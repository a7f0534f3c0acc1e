-- Laws that proofs about Folds need.
use mathlib.Core.List.{List, Memᴰ}
use Rattle.std.specs.Prelude.{ℕ}
use Rattle.overlap_checker.specs.declared.Entry.{Entry}
use Rattle.overlap_checker.specs.Interval.{StrictlyInside}

-- one of some positions is strictly inside an interval
abbrev pub HasInside : Entry → List ℕ → Type 0
HasInside e ms = (m : ℕ) × Memᴰ m ms × StrictlyInside m e
