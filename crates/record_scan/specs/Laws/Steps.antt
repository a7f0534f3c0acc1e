-- Laws that proofs about Steps need.
use Rattle.std.specs.Prelude.{Bool, ◌||◌, List, [], ◌∷◌, ◌≡◌, refl, ℕ, suc, ◌+◌, ◌<◌, leb, length}
use Rattle.std.proofs.Math.Bool.{and-true}
use Rattle.std.proofs.Common.{sym, ap, subst, ◌∙◌, arith, ne_eqb}
use Rattle.record_lines.specs.Items.{Item, gives, passes, ends, bad, as_line, Says}
use Rattle.record_lines.specs.Pieces.{Piece}
use Rattle.record_lines.specs.declared.Line.{Line}
use Rattle.record_scan.specs.Reading.{new_pieces, is_new}
use Rattle.record_scan.specs.Steps.{admits_by, high_by, leaves_by, IsGood, AllGood}
use Rattle.record_scan.specs.Trail.{trail, line_at}

abbrev pub leaves_of : Line → ℕ → ℕ → Bool
leaves_of r first end = leaves_by r.kind r.address r.count first end

abbrev pub admits : ℕ → List Piece → Line → Bool
admits load given r = admits_by load given r.kind r.address r.count

abbrev pub high_after : Line → ℕ → ℕ
high_after r high = high_by r.kind r.address r.count high

-- Whether a line that was read leaves a span, by what it says.
leaves-new' : (s f first end : ℕ) (i : Item) → leaves_of (as_line s f i) first end ≡ is_new (new_pieces i) first end
unfolding is_new
leaves-new' s f first end (gives a [] t) = refl
leaves-new' s f first end (gives a (b ∷ l) t) =
    rw (ne_eqb (suc (length l)) 0 (λ e. omega arith)) (sym (and-true (leb (a + suc (length l)) first || leb end a)))
leaves-new' s f first end (passes t) = refl
leaves-new' s f first end ends = refl
leaves-new' s f first end bad = refl

pub leaves-new : {l : List ℕ} {s f : ℕ} {r : Line} {i : Item} (first end : ℕ) → Says l s f r i → leaves_of r first end ≡ is_new (new_pieces i) first end
leaves-new {l} {s} {f} {r} {i} first end p = ap (λ (x : Line). leaves_of x first end) p.answer ∙ leaves-new' s f first end i

-- The line that comes next is not bad.
pub good-at : (format : ℕ) (text : List ℕ) (n k : ℕ) {at state : ℕ} → at ≡ (trail format text k).at → state ≡ (trail format text k).state
    → AllGood format text n → k < n → IsGood format state (line_at text at)
good-at format text n k {at} {state} p q g h =
    subst (λ (s : ℕ). IsGood format s (line_at text at)) (sym q)
    (subst (λ (a : ℕ). IsGood format (trail format text k).state (line_at text a)) (sym p) (g k h))
