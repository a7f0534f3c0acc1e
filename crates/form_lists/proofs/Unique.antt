-- Uniqueness: the contract of each public function has one outcome, over its own clause: the answer, and all that is lent afterwards.
use Prim.Native.Nat.{ℕ}
use mathlib.Core.List.{List}
use mathlib.Core.Path.{◌≡◌, sym, ap, ◌∙◌}
use Rattle.prelude.specs.Laws.Outcome.{OneOutcome, OneView}
use Rattle.prelude.specs.Laws.Pick.{determined, paired}
use Rattle.prelude.specs.Verdict.{Verdict}
use Rattle.form_fields.specs.Lists.{kinds_of, operands_of, numbers_of, states_of, list_after}
use Rattle.form_lists.proofs.read_banks.Kinds as read-banks-kinds
use Rattle.form_lists.proofs.read_banks.Reads as read-banks-reads
use Rattle.form_lists.proofs.read_lists.Kinds as read-lists-kinds
use Rattle.form_lists.proofs.read_lists.Reads as read-lists-reads
use Rattle.form_lists.proofs.read_values.Kinds as read-values-kinds
use Rattle.form_lists.proofs.read_values.Reads as read-values-reads

pub read-banks-unique : OneOutcome 1 read-banks-kinds.ps read-banks-kinds.r read-banks-reads.Learnt
read-banks-unique κs a x y e f p q = determined p q

-- the value bytes
pub read-values-unique : OneView 1 read-values-kinds.ps read-values-kinds.r read-values-reads.Learnt (List ℕ) (λ κs x e. x.now)
read-values-unique κs a x y e f p q = determined p q

-- two lists that follow from the same answer
after : (new old : List ℕ) {v w : Verdict} {a b : List ℕ} → v ≡ w → a ≡ list_after v new old → b ≡ list_after w new old → a ≡ b
after new old e p q = p ∙ ap (λ (u : Verdict). list_after u new old) e ∙ sym q

-- the answer, and kinds, operands, numbers and states afterwards
pub read-lists-unique : OneView 5 read-lists-kinds.ps read-lists-kinds.r read-lists-reads.Learnt ((Verdict) × (List ℕ × (List ℕ × (List ℕ × List ℕ))))
    (λ κs x e. (x, (e.1.0.now, (e.1.1.0.now, (e.1.1.1.0.now, e.1.1.1.1.0.now)))))
read-lists-unique κs a x y e f p q =
    let file = a.0.now in
    let v = determined p.lists.verdict q.lists.verdict in
    paired v
    (paired (after (kinds_of file) a.1.0.now v p.lists.of-kinds q.lists.of-kinds)
    (paired (after (operands_of file) a.1.1.0.now v p.lists.of-operands q.lists.of-operands)
    (paired (after (numbers_of file) a.1.1.1.0.now v p.lists.of-numbers q.lists.of-numbers)
    (after (states_of file) a.1.1.1.1.0.now v p.lists.of-states q.lists.of-states))))
