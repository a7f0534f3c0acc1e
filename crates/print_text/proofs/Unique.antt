-- Uniqueness: the contract of each public function has one outcome, over its own clause: the answer, and every byte of the buffer.
use Rattle.std.specs.Prelude.{Option}
use Prim.Native.Nat.{ℕ}
use mathlib.Core.List.{List}
use Rattle.prelude.specs.Laws.Outcome.{OneView}
use Rattle.prelude.specs.Laws.Pick.{determined, paired}
use Rattle.print_text.proofs.put_blocks.Kinds as put-blocks-kinds
use Rattle.print_text.proofs.put_blocks.Reads as put-blocks-reads
use Rattle.print_text.proofs.put_image.Kinds as put-image-kinds
use Rattle.print_text.proofs.put_image.Reads as put-image-reads
use Rattle.print_text.proofs.put_layout.Kinds as put-layout-kinds
use Rattle.print_text.proofs.put_layout.Reads as put-layout-reads
use Rattle.print_text.proofs.put_line.Kinds as put-line-kinds
use Rattle.print_text.proofs.put_line.Reads as put-line-reads
use Rattle.print_text.proofs.put_number.Kinds as put-number-kinds
use Rattle.print_text.proofs.put_number.Reads as put-number-reads
use Rattle.print_text.proofs.put_passes.Kinds as put-passes-kinds
use Rattle.print_text.proofs.put_passes.Reads as put-passes-reads
use Rattle.print_text.proofs.put_refusal.Kinds as put-refusal-kinds
use Rattle.print_text.proofs.put_refusal.Reads as put-refusal-reads
use Rattle.print_text.proofs.put_word.Kinds as put-word-kinds
use Rattle.print_text.proofs.put_word.Reads as put-word-reads

pub put-word-unique : OneView 2 put-word-kinds.ps put-word-kinds.r put-word-reads.Learnt ((Option ℕ) × List ℕ) (λ κs x e. (x, e.0.now))
put-word-unique κs a x y e f p q = paired (determined p.place q.place) (determined p.buffer q.buffer)

pub put-number-unique : OneView 1 put-number-kinds.ps put-number-kinds.r put-number-reads.Learnt ((Option ℕ) × List ℕ) (λ κs x e. (x, e.0.now))
put-number-unique κs a x y e f p q = paired (determined p.place q.place) (determined p.buffer q.buffer)

pub put-line-unique : OneView 3 put-line-kinds.ps put-line-kinds.r put-line-reads.Learnt ((Option ℕ) × List ℕ) (λ κs x e. (x, e.0.now))
put-line-unique κs a x y e f p q = paired (determined p.place q.place) (determined p.buffer q.buffer)

pub put-refusal-unique : OneView 1 put-refusal-kinds.ps put-refusal-kinds.r put-refusal-reads.Learnt ((Option ℕ) × List ℕ) (λ κs x e. (x, e.0.now))
put-refusal-unique κs a x y e f p q = paired (determined p.place q.place) (determined p.buffer q.buffer)

pub put-passes-unique : OneView 1 put-passes-kinds.ps put-passes-kinds.r put-passes-reads.Learnt ((Option ℕ) × List ℕ) (λ κs x e. (x, e.0.now))
put-passes-unique κs a x y e f p q = paired (determined p.place q.place) (determined p.buffer q.buffer)

pub put-blocks-unique : OneView 3 put-blocks-kinds.ps put-blocks-kinds.r put-blocks-reads.Learnt ((Option ℕ) × List ℕ) (λ κs x e. (x, e.0.now))
put-blocks-unique κs a x y e f p q = paired (determined p.place q.place) (determined p.buffer q.buffer)

pub put-image-unique : OneView 2 put-image-kinds.ps put-image-kinds.r put-image-reads.Learnt ((Option ℕ) × List ℕ) (λ κs x e. (x, e.0.now))
put-image-unique κs a x y e f p q = paired (determined p.place q.place) (determined p.buffer q.buffer)

pub put-layout-unique : OneView 4 put-layout-kinds.ps put-layout-kinds.r put-layout-reads.Learnt ((Option ℕ) × List ℕ) (λ κs x e. (x, e.0.now))
put-layout-unique κs a x y e f p q = paired (determined p.place q.place) (determined p.buffer q.buffer)
