-- Uniqueness of the text, over its contract's own clause: the answer, and every byte of the lent buffer.
use Rattle.std.specs.Prelude.{Option}
use mathlib.Core.List.{List}
use Prim.Native.Nat.{ℕ}
use Rattle.prelude.specs.Laws.Outcome.{OneView}
use Rattle.prelude.specs.Laws.Pick.{paired}
use Rattle.print_text.specs.Theorems.Unique.{puts-unique}
use Rattle.print_answer.proofs.put_answer.Kinds as put-answer-kinds
use Rattle.print_answer.proofs.put_answer.Reads as put-answer-reads

pub put-answer-one : OneView 4 put-answer-kinds.ps put-answer-kinds.r put-answer-reads.Learnt ((Option ℕ) × List ℕ) (λ κs x e. (x, e.1.1.1.1.0.now))
put-answer-one κs a x y e f p q = let same = puts-unique p q in paired same.0 same.1
