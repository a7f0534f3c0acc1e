-- Laws that Theorems/ReadBack rests on: a cell has neither a space nor an LF in it, so that a line can be cut where it was put together.
use Rattle.std.specs.Prelude.{◌≡◌, refl, Bool, true, false, List, [], ◌∷◌, ◌++◌, ℕ, ◌+◌, ◌/◌, ◌%◌, ◌≤◌, ◌<◌, eqb, length}
use Rattle.std.proofs.Common.{sym, ap, ap₂, ◌∙◌, append_assoc, arith, eqb-true}
use Rattle.prelude.specs.Laws.Bools.{unlike}
use Rattle.prelude.specs.Pick.{pick}
use Rattle.bankdef.specs.declared.Bankdefs.{Bankdefs}
use Rattle.blocks.specs.Offsets.{no_offset}
use Rattle.iter.specs.Address.{address_of}
use Rattle.resolver.specs.Once.{bank_record}
use Rattle.print_text.specs.Decimal.{decimal, digit}
use Rattle.print_text.specs.Laws.Decimal.{by-tens, decimal-few}
use Rattle.print_text.proofs.Decimal.{decimal_injective, decimal-more, decimal-some}
use Rattle.print_map.specs.Cells.{Cell, number, minus, none, cell_text, cells_from, line_of}
use Rattle.print_map.specs.ReadBack.{Columns, SameColumns}
use Rattle.print_map.specs.Text.{address_cell, word_cell}

-- every character is this or above
abbrev pub Above : ℕ → List ℕ → Type 0
Above k [] = Unit {0}
Above k (x ∷ xs) = (k ≤ x) × Above k xs

above-append : (k : ℕ) (xs ys : List ℕ) → Above k xs → Above k ys → Above k (xs ++ ys)
above-append k [] ys h g = g
above-append k (x ∷ xs) ys h g = (h.0, above-append k xs ys h.1 g)

above-less : (k m : ℕ) (xs : List ℕ) → m ≤ k → Above k xs → Above m xs
above-less k m [] h g = tt
above-less k m (x ∷ xs) h g = (omega (arith, h, g.0), above-less k m xs h g.1)

digits_above : (n : ℕ) → Above 48 (decimal n)
digits_above =
    by-tens (λ (n : ℕ). Above 48 (decimal n))
    (λ n h. rw (decimal-few n h) (omega arith, tt))
    (λ n h ih. rw (decimal-more n h) (above-append 48 (decimal (n / 10)) (digit (n % 10) ∷ []) ih (omega arith, tt)))

pub cell-above : (c : Cell) → Above 33 (cell_text c)
cell-above (number n) = above-less 48 33 (decimal n) (omega arith) (digits_above n)
cell-above (minus n) = (omega arith, above-less 48 33 (decimal n) (omega arith) (digits_above n))
cell-above none = (omega arith, tt)

-- ---- a cell by its text

pub same_head : {x y : ℕ} {xs ys : List ℕ} → x ∷ xs ≡ y ∷ ys → x ≡ y
same_head e = cc

same-tail : {x y : ℕ} {xs ys : List ℕ} → x ∷ xs ≡ y ∷ ys → xs ≡ ys
same-tail e = cc

no_minus : (l m : List ℕ) → Above 48 l → l ≡ 45 ∷ m → ⊥
no_minus [] m h e = unlike cc
no_minus (x ∷ l) m h e = omega (arith, h.0, same_head e)

no-digits : (n : ℕ) → decimal n ≡ [] → ⊥
no-digits n e = omega (arith, decimal-some n, ap length e)

pub cell-injective : (c d : Cell) → cell_text c ≡ cell_text d → c ≡ d
cell-injective (number m) (number n) e = ap number (decimal_injective m n e)
cell-injective (number m) (minus n) e = absurd (no_minus (decimal m) (decimal n) (digits_above m) e)
cell-injective (number m) none e = absurd (no_minus (decimal m) [] (digits_above m) e)
cell-injective (minus m) (number n) e = absurd (no_minus (decimal n) (decimal m) (digits_above n) (sym e))
cell-injective (minus m) (minus n) e = ap minus (decimal_injective m n (same-tail e))
cell-injective (minus m) none e = absurd (no-digits m (same-tail e))
cell-injective none (number n) e = absurd (no_minus (decimal n) [] (digits_above n) (sym e))
cell-injective none (minus n) e = absurd (no-digits n (sym (same-tail e)))
cell-injective none none e = refl

-- ---- a line, cut

-- two texts, each followed by a character that is in neither
pub cut : (xs ys : List ℕ) (a b : ℕ) (r s : List ℕ) → Above 33 xs → Above 33 ys → a < 33 → b < 33 → xs ++ (a ∷ r) ≡ ys ++ (b ∷ s)
    → (xs ≡ ys) × (a ∷ r ≡ b ∷ s)
cut [] [] a b r s h g ha hb e = (refl, e)
cut [] (y ∷ ys) a b r s h g ha hb e = absurd (omega (arith, ha, g.0, same_head e))
cut (x ∷ xs) [] a b r s h g ha hb e = absurd (omega (arith, hb, h.0, same_head e))
cut (x ∷ xs) (y ∷ ys) a b r s h g ha hb e =
    let rest = cut xs ys a b r s h.1 g.1 ha hb (same-tail e) in
    (ap₂ (λ (z : ℕ) (l : List ℕ). z ∷ l) (same_head e) rest.0, rest.1)

-- cells, a space before each, and LF
abbrev pub ended : List Cell → List ℕ
ended [] = 10 ∷ []
ended (c ∷ cs) = 32 ∷ (cell_text c ++ ended cs)

pub from-ended : (text : List ℕ) (cs : List Cell) → cells_from text cs ++ (10 ∷ []) ≡ text ++ ended cs
unfolding cells_from
from-ended text [] = refl
from-ended text (c ∷ cs) = from-ended (text ++ (32 ∷ cell_text c)) cs ∙ append_assoc text (32 ∷ cell_text c) (ended cs)

-- cells and what stands behind them begin with a space or an LF
starts : (cs : List Cell) (r : List ℕ) → (a : ℕ) × (t : List ℕ) × (a < 33) × (ended cs ++ r ≡ a ∷ t)
starts [] r = (10, r, omega arith, refl)
starts (c ∷ cs) r = (32, (cell_text c ++ ended cs) ++ r, omega arith, refl)

-- Cells, and the text behind their line, by the text of both.
pub cells-then : (cs ds : List Cell) (r s : List ℕ) → ended cs ++ r ≡ ended ds ++ s → (cs ≡ ds) × (r ≡ s)
cells-then [] [] r s e = (refl, same-tail e)
cells-then [] (d ∷ ds) r s e = absurd (omega (arith, same_head e))
cells-then (c ∷ cs) [] r s e = absurd (omega (arith, same_head e))
cells-then (c ∷ cs) (d ∷ ds) r s e =
    let x = starts cs r in
    let y = starts ds s in
    let f = sym (append_assoc (cell_text c) (ended cs) r) ∙ same-tail e ∙ append_assoc (cell_text d) (ended ds) s in
    let two = cut (cell_text c) (cell_text d) x.0 y.0 x.1 y.1 (cell-above c) (cell-above d) x.2 y.2
    (ap (λ (l : List ℕ). cell_text c ++ l) (sym x.3) ∙ f ∙ ap (λ (l : List ℕ). cell_text d ++ l) y.3) in
    let rest = cells-then cs ds r s (x.3 ∙ two.1 ∙ sym y.3) in
    (ap₂ (λ (z : Cell) (l : List Cell). z ∷ l) (cell-injective c d two.0) rest.0, rest.1)

-- a word before them
pub after_same : (word xs ys : List ℕ) → word ++ xs ≡ word ++ ys → xs ≡ ys
after_same [] xs ys e = e
after_same (x ∷ word) xs ys e = after_same word xs ys (same-tail e)

pub line-ended : (word : List ℕ) (cs : List Cell) → line_of word cs ≡ word ++ ended cs
line-ended word cs = append_assoc word (cells_from [] cs) (10 ∷ []) ∙ ap (λ (l : List ℕ). word ++ l) (from-ended [] cs)

-- A line, and the text behind it, by the text of both: its word, which has neither a space nor an LF in it, its cells, and that text.
pub line-then : (word other : List ℕ) (cs ds : List Cell) (r s : List ℕ) → Above 33 word → Above 33 other → line_of word cs ++ r ≡ line_of other ds ++ s
    → (word ≡ other) × (cs ≡ ds) × (r ≡ s)
line-then word other cs ds r s h k e =
    let x = starts cs r in
    let y = starts ds s in
    let two = cut word other x.0 y.0 x.1 y.1 h k x.2 y.2
    (ap (λ (l : List ℕ). word ++ l) (sym x.3)
    ∙ sym (append_assoc word (ended cs) r)
    ∙ ap (λ (l : List ℕ). l ++ r) (sym (line-ended word cs))
    ∙ e
    ∙ ap (λ (l : List ℕ). l ++ s) (line-ended other ds)
    ∙ append_assoc other (ended ds) s
    ∙ ap (λ (l : List ℕ). other ++ l) y.3) in
    let rest = cells-then cs ds r s (x.3 ∙ two.1 ∙ sym y.3) in
    (two.0, rest.0, rest.1)

-- ---- a node's columns

abbrev pub cells_of : Bankdefs → Columns → List Cell
cells_of banks c =
    number c.node ∷
    number c.kind ∷
    number c.bank ∷
    number c.position ∷
    address_cell (address_of (bank_record banks c.bank) c.position c.node) ∷
    word_cell c.output ∷
    number c.size ∷
    []

-- a place in the output by its cell: `-` stands for the word for none, and for no other
word-told : (v w : ℕ) (s t : Bool) → eqb v no_offset ≡ s → eqb w no_offset ≡ t → pick s none (number v) ≡ pick t none (number w) → v ≡ w
word-told v w true true a b e = eqb-true v no_offset a ∙ sym (eqb-true w no_offset b)
word-told v w true false a b e = unlike cc
word-told v w false true a b e = unlike cc
word-told v w false false a b e = cc

-- the cells of a node tell its columns, whatever table its address is told by
pub columns-told : (banks other : Bankdefs) (c d : Columns) → cells_of banks c ≡ cells_of other d → SameColumns c d
columns-told banks other c d same =
    let out : word_cell c.output ≡ word_cell d.output = cc in
    (cc, cc, cc, cc, word-told c.output d.output (eqb c.output no_offset) (eqb d.output no_offset) refl refl out, cc)
