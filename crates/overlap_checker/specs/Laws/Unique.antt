-- Each public function's contract has one outcome: two that meet it for the same input agree in the answer and in all that is lent.
use Rattle.std.specs.Prelude.{◌≡◌, List, ℕ}
use Rattle.std.proofs.Common.{sym, ap, ap₂, ◌∙◌}
use Rattle.prelude.specs.Laws.Pick.{determined}
use Rattle.prelude.specs.Verdict.{Verdict}
use Rattle.overlap_checker.specs.declared.Entry.{Entry}
use Rattle.overlap_checker.specs.declared.Offered.{Offered}
use Rattle.overlap_checker.specs.Lent.{Lent, lent, state_in, laid_into, leaving, Offers, Calls}
use Rattle.overlap_checker.specs.State.{after}

same_left : (a : Lent) (e : Entry) (v w : Verdict) (b c : Lent) → v ≡ w → b ≡ leaving v (laid_into a (after (state_in a) e)) a
    → c ≡ leaving w (laid_into a (after (state_in a) e)) a → b ≡ c
same_left a e v w b c same p q = p ∙ ap (λ (u : Verdict). leaving u (laid_into a (after (state_in a) e)) a) same ∙ sym q

pub offers-unique : (a : Lent) (e : Entry) (node : ℕ) (v w : Verdict) (b c : Lent) → Offers a e node v b → Offers a e node w c
    → (v ≡ w) × (b ≡ c)
offers-unique a e node v w b c p q =
    let same = determined p.verdict q.verdict in
    (same, same_left a e v w b c same p.left q.left)

pub calls-unique : (a : Lent) (e : Entry) (v w : Verdict) (b c : Lent) → Calls a e v b → Calls a e w c → (v ≡ w) × (b ≡ c)
calls-unique a e v w b c p q =
    let same = determined p.verdict q.verdict in
    (same, same_left a e v w b c same p.left q.left)

-- two answers with what they left
pub answers-alike : (x y : Offered) (p z m q w n : List ℕ)
    → (x.verdict ≡ y.verdict) × (lent p z x.count m x.marks ≡ lent q w y.count n y.marks)
    → (x ≡ y) × ((p ≡ q) × (z ≡ w) × (m ≡ n))
answers-alike x y p z m q w n h = (
  ap₂ (λ (v : Verdict) (l : Lent). record { verdict = v; count = l.count; marks = l.mark_count }) h.0 h.1,
  (ap (λ (l : Lent). l.positions) h.1, ap (λ (l : Lent). l.sizes) h.1, ap (λ (l : Lent). l.marks) h.1),
)
