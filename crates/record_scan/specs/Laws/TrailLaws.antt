-- A trail, one line more; a text from a line on; the highest end of pieces, and those that touch.
use Rattle.std.specs.Prelude.{◌≡◌, refl, true, List, [], ◌∷◌, ◌++◌, ℕ, ◌+◌, ◌<◌, ◌≤◌, max, length, drop}
use Rattle.std.proofs.Common.{sym, subst, ◌∙◌, add-one, arith, le-leb, length-drop, drop-drop}
use Rattle.std.proofs.Math.Path.{ap}
use Rattle.record_lines.specs.Items.{Item, gives, passes, ends, bad, as_line, Says}
use Rattle.record_lines.specs.Lines.{lines_of, first_line, taken}
use Rattle.record_lines.specs.Theorems.Lines.{lines-first}
use Rattle.record_lines.specs.Pieces.{Piece, end_of}
use Rattle.record_lines.specs.declared.Line.{Line}
use Rattle.record_scan.specs.Reading.{new_pieces, state_after, is_new}
use Rattle.record_scan.specs.Trail.{Trail, trail, line_at, item_at, next_of}
use Rattle.record_scan.specs.Steps.{Stepped, highest, last_end, parts_of}
use Rattle.record_scan.specs.declared.Step.{Step}

says-state' : (s f : ℕ) (i : Item) → (as_line s f i).state ≡ state_after s i
says-state' s f (gives a l t) = refl
says-state' s f (passes t) = refl
says-state' s f ends = refl
says-state' s f bad = refl

pub says-state : {l : List ℕ} {s f : ℕ} {r : Line} {i : Item} → Says l s f r i → r.state ≡ state_after s i
says-state {l} {s} {f} {r} {i} p = ap (λ (x : Line). x.state) p.answer ∙ says-state' s f i

-- ---- a text from a line on

lines-some : (t : List ℕ) → 0 < length t → lines_of t ≡ first_line t ∷ lines_of (drop (taken t) t)
lines-some [] h = absurd (omega arith)
lines-some (c ∷ t) h = lines-first c t

pub lines_at : (text : List ℕ) (at : ℕ) → at < length text → lines_of (drop at text) ≡ line_at text at ∷ lines_of (drop (next_of text at) text)
lines_at text at h =
    lines-some (drop at text) (omega (arith, length-drop at text)) ∙ ap (λ (l : List ℕ). line_at text at ∷ lines_of l) (drop-drop (taken (drop at text)) at text)

lines_none : (t : List ℕ) → length t ≡ 0 → lines_of t ≡ []
unfolding lines_of
lines_none [] h = refl
lines_none (c ∷ t) h = absurd (omega arith)

pub lines-past : (text : List ℕ) (at : ℕ) → length text ≤ at → lines_of (drop at text) ≡ []
lines-past text at h = lines_none (drop at text) (omega (arith, length-drop at text))

-- ---- one line more

module _ (format : ℕ) (text : List ℕ) (k : ℕ) (r : Step) where
  abbrev pub here : Trail
  here = trail format text k

  abbrev pub said : Item
  said = item_at format text here.at here.state

  pub moved : (at state : ℕ) → at ≡ here.at → state ≡ here.state → Stepped format text at state r → Stepped format text here.at here.state r
  moved at state p q s = subst (λ (y : ℕ). Stepped format text here.at y r) q (subst (λ (x : ℕ). Stepped format text x state r) p s)

  module _ (s : Stepped format text here.at here.state r) where
    pub next-at : r.next ≡ (trail format text (k + 1)).at
    unfolding trail
    next-at = s.next ∙ ap (λ (n : ℕ). (trail format text n).at) (sym (add-one k))

    pub next-state : r.line.state ≡ (trail format text (k + 1)).state
    unfolding trail
    next-state = says-state s.says ∙ ap (λ (n : ℕ). (trail format text n).state) (sym (add-one k))

  pub next-given : here.given ++ new_pieces said ≡ (trail format text (k + 1)).given
  unfolding trail
  next-given = ap (λ (n : ℕ). (trail format text n).given) (sym (add-one k))

pub high-append : (a b : List Piece) → highest (a ++ b) ≡ max (highest a) (highest b)
unfolding highest
high-append [] b = omega arith
high-append (p ∷ a) b = ap (max (end_of p)) (high-append a b) ∙ omega arith

-- Nothing at the highest end or above is given.
pub new-above : (l : List Piece) (first end : ℕ) → highest l ≤ first → is_new l first end ≡ true
unfolding is_new highest
new-above [] first end h = refl
new-above (p ∷ l) first end h = rw (le-leb (end_of p) first (omega arith)) (new-above l first end (omega arith))

-- Pieces behind pieces: where the last ends, and how many do not touch the one before them.
pub last-append : (a b : List Piece) (edge : ℕ) → last_end edge (a ++ b) ≡ last_end (last_end edge a) b
unfolding last_end
last-append [] b edge = refl
last-append (p ∷ a) b edge = last-append a b (end_of p)

pub parts-append : (a b : List Piece) (edge : ℕ) → parts_of edge (a ++ b) ≡ parts_of edge a + parts_of (last_end edge a) b
unfolding last_end parts_of
parts-append [] b edge = omega arith
parts-append (p ∷ a) b edge = omega (arith, parts-append a b (end_of p))
