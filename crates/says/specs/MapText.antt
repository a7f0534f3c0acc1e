-- What `prog_map`, the program behind tools/map, prints for the bytes of a layout file, one record a line: what `dk_map` says of the layout in it (Map), in the
-- profile of a device with pages where there is a page size.
--
--     file FORM LIMIT ROWS PASSES NODES
--     bank I UNIT START SIZE OFFSET ALIGN FILL BIT PADDING UNITS
--     node I KIND BANK POSITION ADDRESS OUTPUT SIZE
--     fault N
--     accepted, or refused NUMBER PLACE
use Rattle.std.specs.Prelude.{◌≡◌, List, [], ◌∷◌, ◌++◌, ℕ, suc, ◌/◌, ◌<◌, min, ℤ, pos, negsuc, ◌+ℤ◌, length, get_or, Option, None, Some}
use Rattle.iter.specs.declared.Lost.{Lost}
use Rattle.print_text.specs.Ascii.{ascii}
use Rattle.c_answers.specs.declared.DkMap.{DkMap}
use Rattle.says.specs.Words.{Not}
use Rattle.says.specs.Build.{Given, losing, banks, unit, start, fill_bit, Size, Offset, Align, Filled, nodes, kind}
use Rattle.says.specs.Profile.{Checks, Rules}
use Rattle.says.specs.Map.{Lent, Outcome, no_node, refusal, Mapped, MapSays}
use Rattle.says.specs.Files.{Form, form-1, form-2, Held, Sound, Broken}
use Rattle.says.specs.Form.{OfForm, Layout}
use Rattle.says.specs.Lines.{Decimal, Line}
use Rattle.says.specs.Report.{Numbers}

-- ---- columns: a number, a number below zero with a minus, or `-` for none
pub data Cell : Type 0 where
  number : ℕ → Cell
  minus : ℕ → Cell
  none : Cell

pub data CellText : Cell → List ℕ → Type 0 where
  digits : {n : ℕ} {t : List ℕ} → Decimal n t → CellText (number n) t
  below : {n : ℕ} {t : List ℕ} → Decimal n t → CellText (minus n) (ascii "-" ++ t)
  dash : CellText none (ascii "-")

-- a space before each
pub data Columns : List Cell → List ℕ → Type 0 where
  end : Columns [] []
  next : {c : Cell} {cs : List Cell} {d t : List ℕ} → CellText c d → Columns cs t → Columns (c ∷ cs) (ascii " " ++ d ++ t)

pub data Record (word : List ℕ) (cells : List Cell) : List ℕ → Type 0 where
  ended : {t : List ℕ} → Columns cells t → Record word cells (word ++ t ++ ascii "\n")

-- a whole number: `negsuc n` is n + 1 below zero
pub data Whole : ℤ → Cell → Type 0 where
  from-0 : {n : ℕ} → Whole (pos n) (number n)
  below-0 : {n : ℕ} → Whole (negsuc n) (minus (suc n))

-- a number that may be absent
pub data Optional (Has : ℕ → Type 0) : Cell → Type 0 where
  there : {n : ℕ} → Has n → Optional Has (number n)
  absent : ((n : ℕ) → Has n → ⊥) → Optional Has none

-- a number of the map's lists, in which the largest stands for none
abbrev pub Word : ℕ → ℕ → Type 0
Word word n = (n ≡ word) × Not (n ≡ no_node)

-- ---- the node at fault, where there is one
pub data FaultLine (i : ℕ) : List ℕ → Type 0 where
  at-fault : {t : List ℕ} → Not (i ≡ no_node) → Line (ascii "fault") (i ∷ []) t → FaultLine i t
  no-fault : i ≡ no_node → FaultLine i []

-- ---- the verdict: what the call is refused for, 1 to 4 and 19, or the layout, 5 to 13. "A refusal prints `refused`, number and place, one space between."
pub data Verdict (a : DkMap) : List ℕ → Type 0 where
  accepted : a.refusal ≡ 0 → a.stopped ≡ 0 → Verdict a (ascii "accepted\n")
  refused : {ns t : List ℕ} → 0 < a.refusal → Numbers a.refusal a.place a.second ns → Line (ascii "refused") ns t → Verdict a t
  stopped : {ns t : List ℕ} → a.refusal ≡ 0 → 0 < a.stopped → Numbers a.stopped a.place a.second ns → Line (ascii "refused") ns t → Verdict a t

-- ---- the number of a form
abbrev pub form_number : Form → ℕ
form_number form-1 = 1
form_number form-2 = 2

module _ (g : Given) where
  -- ---- a bank: what the table has of it, with the bits and the whole units that it has lost
  pub data Fill (b : ℕ) : ℕ → Type 0 where
    filled : Filled g b → Fill b 1
    unfilled : Not (Filled g b) → Fill b 0

  pub data BankLine (b : ℕ) (lost : Lost) (t : List ℕ) : Type 0 where
    bank : {s m o a : Cell} {f : ℕ} → Whole (start g b) s → Optional (Size g b) m → Optional (Offset g b) o → Optional (Align g b) a → Fill b f
        → Record (ascii "bank")
        (number b ∷ number (unit g b) ∷ s ∷ m ∷ o ∷ a ∷ number f ∷ number (fill_bit g b) ∷ number lost.bits ∷ number lost.units ∷ []) t
        → BankLine b lost t

  -- the first n banks
  pub data BankLines (lost : List Lost) : (n : ℕ) → List ℕ → Type 0 where
    no-bank : BankLines lost 0 []
    more : {b : ℕ} {t l : List ℕ} → BankLines lost b t → BankLine b (get_or lost b (losing 0 0)) l → BankLines lost (suc b) (t ++ l)

  -- ---- a node: its bank b and the position p that it sees. "The address is the start plus the whole units in the position; the output position is offset plus
  -- position", or none.
  pub data NodeLine (l : Lent) (i : ℕ) (t : List ℕ) : Type 0 where
    node : {b p : ℕ} {a o : Cell} → b ≡ get_or l.banks i 0 → p ≡ get_or l.positions i 0 → Whole (start g b +ℤ pos (p / unit g b)) a
        → Optional (Word (get_or l.outputs i 0)) o
        → Record (ascii "node") (number i ∷ number (kind g i) ∷ number b ∷ number p ∷ a ∷ o ∷ number (get_or l.sizes i 0) ∷ []) t
        → NodeLine l i t

  -- the first n nodes
  pub data NodeLines (l : Lent) : (n : ℕ) → List ℕ → Type 0 where
    no-node : NodeLines l 0 []
    more : {i : ℕ} {t s : List ℕ} → NodeLines l i t → NodeLine l i s → NodeLines l (suc i) (t ++ s)

  -- ---- the text of an outcome. A table has room for 16 banks: of more the first 16 are told.
  pub data Prints (f : Form) (y : Outcome) : List ℕ → Type 0 where
    prints : {h b n e v : List ℕ} → Line (ascii "file") (form_number f ∷ g.limit ∷ g.rows ∷ y.answer.passes ∷ nodes g ∷ []) h
        → BankLines y.answer.padding (min (banks g) 16) b → NodeLines y.lent y.answer.nodes n → FaultLine y.answer.node e
        → Verdict y.answer v
        → Prints f y (h ++ b ++ n ++ e ++ v)

  -- ---- What is said of the layout: the map; with a page size, "the ordinary build after a yes. Refusals: 19 (new), after 4 and before the first pass; place:
  -- rule and bank or node", so that no node is shown then.
  abbrev pub LaidSays : Option ℕ → Lent → Outcome → Type 0
  LaidSays None old = MapSays g old
  LaidSays (Some page) old = Checks g (refusal g old) (Rules g page (refusal g old 19) (Mapped g old))

-- a place for each of 4,096 nodes, whatever it holds
abbrev pub Lends : Lent → Type 0
Lends old = (length old.banks ≡ 4096) × (length old.positions ≡ 4096) × (length old.outputs ≡ 4096) × (length old.sizes ≡ 4096)

-- The program with its arguments: a broken file is a refusal's line alone; of a sound one the text is that of the outcome, whatever stood in the lists.
pub data MapText (file : List ℕ) (fill : ℕ) (page : Option ℕ) (t : List ℕ) : Type 0 where
  broken : {f : Form} {i : ℕ} → OfForm file f → Broken f file i → Line (ascii "refused") (4 ∷ i ∷ []) t → MapText file fill page t
  laid : {f : Form} {h : Held} {g : Given} → OfForm file f → Sound f file h → Layout f h fill g
      → ((old : Lent) → Lends old → (y : Outcome) × LaidSays g page old y × Prints g f y t) → MapText file fill page t
