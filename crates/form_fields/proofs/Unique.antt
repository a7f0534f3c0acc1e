-- Uniqueness: the contract of each public function has one outcome, over its own clause: the answer.
use Prim.Native.Nat.{ℕ}
use mathlib.Core.Path.{ap₂}
use Rattle.prelude.specs.Laws.Outcome.{OneOutcome}
use Rattle.prelude.specs.Laws.Pick.{determined}
use Rattle.form_fields.proofs.word_of.Kinds as word-of-kinds
use Rattle.form_fields.proofs.word_of.Reads as word-of-reads
use Rattle.form_fields.proofs.is_set.Kinds as is-set-kinds
use Rattle.form_fields.proofs.is_set.Reads as is-set-reads
use Rattle.form_fields.proofs.option.Kinds as option-kinds
use Rattle.form_fields.proofs.option.Reads as option-reads
use Rattle.form_fields.proofs.count_run.Kinds as count-run-kinds
use Rattle.form_fields.proofs.count_run.Reads as count-run-reads
use Rattle.form_fields.proofs.kind_of.Kinds as kind-of-kinds
use Rattle.form_fields.proofs.kind_of.Reads as kind-of-reads
use Rattle.form_fields.proofs.read_form1.Kinds as read-form1-kinds
use Rattle.form_fields.proofs.read_form1.Reads as read-form1-reads
use Rattle.form_fields.proofs.read_form2.Kinds as read-form2-kinds
use Rattle.form_fields.proofs.read_form2.Reads as read-form2-reads
use Rattle.form_fields.proofs.read_shape.Kinds as read-shape-kinds
use Rattle.form_fields.proofs.read_shape.Reads as read-shape-reads

pub word-of-unique : OneOutcome 0 word-of-kinds.ps word-of-kinds.r word-of-reads.Learnt
word-of-unique κs a x y e f p q = determined p q

pub is-set-unique : OneOutcome 0 is-set-kinds.ps is-set-kinds.r is-set-reads.Learnt
is-set-unique κs a x y e f p q = determined p q

pub option-unique : OneOutcome 0 option-kinds.ps option-kinds.r option-reads.Learnt
option-unique κs a x y e f p q = determined p q

pub kind-of-unique : OneOutcome 1 kind-of-kinds.ps kind-of-kinds.r kind-of-reads.Learnt
kind-of-unique κs a x y e f p q = determined p q

pub count-run-unique : OneOutcome 1 count-run-kinds.ps count-run-kinds.r count-run-reads.Learnt
count-run-unique κs a x y e f p q =
    ap₂ (λ (count end : ℕ). record { count = count; end = end }) (determined p.0 q.0) (determined p.1 q.1)

pub read-shape-unique : OneOutcome 1 read-shape-kinds.ps read-shape-kinds.r read-shape-reads.Learnt
read-shape-unique κs a x y e f p q = determined p.is q.is

pub read-form1-unique : OneOutcome 1 read-form1-kinds.ps read-form1-kinds.r read-form1-reads.Learnt
read-form1-unique κs a x y e f p q = determined p.is q.is

pub read-form2-unique : OneOutcome 1 read-form2-kinds.ps read-form2-kinds.r read-form2-reads.Learnt
read-form2-unique κs a x y e f p q = determined p.is q.is
