-- The records of the sentences are the lines of the definitions, column by column, and there is one of each.
use Rattle.std.specs.Prelude.{◌≡◌, refl, List, [], ◌∷◌, ◌++◌, map, ℕ, suc, ℤ, pos, negsuc}
use Rattle.std.proofs.Common.{sym, ap, ap₂, subst, ◌∙◌, append-nil, append_assoc, arith, le-ltb}
use Rattle.print_text.specs.Ascii.{ascii}
use Rattle.print_text.specs.Decimal.{decimal}
use Rattle.print_text.specs.Lines.{spaced, line}
use Rattle.print_map.specs.Cells as made
use Rattle.print_map.specs.Cells.{cell_text, cells_from, line_of, signed}
use Rattle.says.specs.Lines.{Line}
use Rattle.says.specs.MapText as says
use Rattle.says.specs.MapText.{Cell, CellText, Columns, Record, Whole, Optional}
use Rattle.meets.specs.Laws.Words.{OneOnly}
use Rattle.meets_report.specs.Laws.Lines.{decimal-is, decimal-meets, line-meets}

-- ---- a column

abbrev pub as_made : Cell → made.Cell
as_made (says.number n) = made.number n
as_made (says.minus n) = made.minus n
as_made says.none = made.none

cell-is : {c : Cell} {t : List ℕ} → CellText c t → t ≡ cell_text (as_made c)
cell-is (says.digits d) = decimal-is d
cell-is (says.below d) = ap (λ (t : List ℕ). ascii "-" ++ t) (decimal-is d)
cell-is says.dash = refl

cell-meets : (c : Cell) → CellText c (cell_text (as_made c))
cell-meets (says.number n) = says.digits (decimal-meets n)
cell-meets (says.minus n) = says.below (decimal-meets n)
cell-meets says.none = says.dash

-- ---- columns, from the front as the sentences have them and from the back as the definitions do

abbrev columns_text : List made.Cell → List ℕ
columns_text [] = []
columns_text (c ∷ cs) = ascii " " ++ cell_text c ++ columns_text cs

from-columns : (text : List ℕ) (cs : List made.Cell) → cells_from text cs ≡ text ++ columns_text cs
unfolding cells_from
from-columns text [] = sym (append-nil text)
from-columns text (c ∷ cs) =
    from-columns (text ++ (ascii " " ++ cell_text c)) cs ∙ append_assoc text (ascii " " ++ cell_text c) (columns_text cs)

columns-are : {cs : List Cell} {t : List ℕ} → Columns cs t → t ≡ columns_text (map as_made cs)
columns-are says.end = refl
columns-are (says.next c x) = ap₂ (λ (d t : List ℕ). ascii " " ++ d ++ t) (cell-is c) (columns-are x)

columns-meet : (cs : List Cell) → Columns cs (columns_text (map as_made cs))
columns-meet [] = says.end
columns-meet (c ∷ cs) = says.next (cell-meets c) (columns-meet cs)

record_is : {word : List ℕ} {cs : List Cell} {t : List ℕ} → Record word cs t → t ≡ word ++ columns_text (map as_made cs) ++ ascii "\n"
record_is {word} (says.ended x) = ap (λ (t : List ℕ). word ++ t ++ ascii "\n") (columns-are x)

pub record-one : (word : List ℕ) (cs : List Cell) → OneOnly (Record word cs)
record-one word cs t u a b = record_is a ∙ sym (record_is b)

line-is : (word : List ℕ) (cs : List made.Cell) → line_of word cs ≡ word ++ columns_text cs ++ ascii "\n"
line-is word cs = ap (λ (t : List ℕ). word ++ t ++ ascii "\n") (from-columns [] cs)

-- the definitions' line of columns that the sentences have
pub record-meets : (word : List ℕ) (cs : List Cell) (ds : List made.Cell) → map as_made cs ≡ ds → Record word cs (line_of word ds)
record-meets word cs ds e =
    subst (Record word cs) (sym (line-is word ds ∙ ap (λ (l : List made.Cell). word ++ columns_text l ++ ascii "\n") (sym e))) (says.ended (columns-meet cs))

-- a line of numbers alone
numbers-spaced : (ns : List ℕ) → columns_text (map made.number ns) ≡ spaced ns
unfolding spaced
numbers-spaced [] = refl
numbers-spaced (n ∷ ns) = ap (λ (t : List ℕ). ascii " " ++ decimal n ++ t) (numbers-spaced ns)

pub numbers-line : (word ns : List ℕ) → line_of word (map made.number ns) ≡ line word ns
numbers-line word ns = line-is word (map made.number ns) ∙ ap (λ (t : List ℕ). word ++ t ++ ascii "\n") (numbers-spaced ns)

pub numbers-meet-line : (word ns : List ℕ) → Line word ns (line_of word (map made.number ns))
numbers-meet-line word ns = subst (Line word ns) (sym (numbers-line word ns)) (line-meets word ns)

-- ---- a whole number

pub whole-one : (z : ℤ) → OneOnly (Whole z)
whole-one (pos n) c d says.from-0 says.from-0 = refl
whole-one (negsuc n) c d says.below-0 says.below-0 = refl

pub whole_meets : (z : ℤ) → (c : Cell) × Whole z c × (as_made c ≡ signed z)
whole_meets (pos n) = (says.number n, says.from-0, rw (le-ltb n 0 (omega arith)))
whole_meets (negsuc n) = (says.minus (suc n), says.below-0, refl)

-- ---- a number that may be absent

pub optional-one : (Has : ℕ → Type 0) → OneOnly Has → OneOnly (Optional Has)
optional-one Has one c d (says.there h) (says.there k) = ap says.number (one _ _ h k)
optional-one Has one c d (says.there {n} h) (says.absent never) = absurd (never n h)
optional-one Has one c d (says.absent never) (says.there {n} h) = absurd (never n h)
optional-one Has one c d (says.absent a) (says.absent b) = refl
