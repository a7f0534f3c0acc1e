-- Uniqueness of the report, over its contract's own clause: the answer, and every byte of the lent buffer.
use Rattle.std.specs.Prelude.{Option}
use mathlib.Core.List.{List}
use Prim.Native.Nat.{ℕ}
use Rattle.prelude.specs.Laws.Outcome.{OneView}
use Rattle.prelude.specs.Laws.Pick.{paired}
use Rattle.print_report.specs.Theorems.Unique.{report-unique}
use Rattle.print_report.proofs.report.Kinds as report-kinds
use Rattle.print_report.proofs.report.Reads as report-reads

pub report-one : OneView 2 report-kinds.ps report-kinds.r report-reads.Learnt ((Option ℕ) × List ℕ) (λ κs x e. (x, e.1.1.1.0.now))
report-one κs a x y e f p q = let same = report-unique _ _ _ _ p q in paired same.0 same.1
