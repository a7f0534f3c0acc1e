-- The records' lines by the marks and numbers that the code writes.
use Rattle.std.specs.Prelude.{Result, ℤ, Ok, Err}
use mathlib.Core.Path.{◌≡◌, refl, sym, ap, subst, ◌∙◌}
use mathlib.Core.Bool.{Bool, true, false}
use mathlib.Core.List.{List, [], ◌∷◌, ◌++◌}
use Prim.Native.Nat.{ℕ, ◌+◌}
use native.Mathlib.Numerals.{add-one}
use borrow.Author.Tests.{ne_eqb}
use lib.Dec.{eqb}
use lib.IntN.{nat_abs}
use lib.ListN.{get_or}
use Rattle.prelude.specs.Pick.{pick}
use Rattle.prelude.specs.Refusals.{number_of, place_of}
use Rattle.prelude.specs.declared.Place.{Place}
use Rattle.prelude.specs.declared.Place.TheVariants.{One, Two}
use Rattle.prelude.specs.declared.Refusal.{Refusal}
use Rattle.bankdef.specs.declared.Bankdef.{Bankdef}
use Rattle.bankdef.specs.declared.Bankdefs.{Bankdefs}
use Rattle.blocks.specs.Offsets.{no_offset}
use Rattle.iter.specs.Address.{address_of}
use Rattle.iter.specs.Step.{no_lost}
use Rattle.iter.specs.declared.Lost.{Lost}
use Rattle.resolver.specs.Once.{bank_record}
use Rattle.print_text.specs.Ascii.{ascii}
use Rattle.print_text.specs.Decimal.{decimal}
use Rattle.print_text.specs.Puts.{Writes}
use Rattle.print_map.specs.Cells.{Cell, number, none, cell_text, cells_from, line_of}
use Rattle.print_map.specs.Marks.{cell_of, cells_to, line_to, sign_of, mark_of, value_of, address_mark, address_value, bit_of}
use Rattle.print_map.specs.Laws.Marks.{is_signed, is-optional}
use Rattle.print_map.specs.Steps.{nodes_held}
use Rattle.print_map.specs.Text.{bank_line, banks_text, address_cell, word_cell, node_line, place_cells, refused_text}

pub cells-next : (marks numbers : List ℕ) (i : ℕ)
    → cells_to marks numbers (i + 1) ≡ cells_to marks numbers i ++ (ascii " " ++ cell_text (cell_of (get_or marks i 0) (get_or numbers i 0)))
unfolding cells_to
cells-next marks numbers i = rw (add-one i)

pub cells-none : (marks numbers : List ℕ) → cells_to marks numbers 0 ≡ []
unfolding cells_to
cells-none marks numbers = refl

is_address : (a : Result ℤ Refusal) → cell_of (address_mark a) (address_value a) ≡ address_cell a
is_address (Ok z) = is_signed z
is_address (Err why) = refl

is_word : (word : ℕ) → cell_of (pick (eqb word no_offset) 2 0) word ≡ word_cell word
is_word word = by (eqb word no_offset)
  where
    by : (t : Bool) → cell_of (pick t 2 0) word ≡ pick t none (number word)
    by true = refl
    by false = refl

-- a bank's line
abbrev bank_cells : ℕ → ℕ → Cell → Cell → Cell → Cell → ℕ → ℕ → ℕ → ℕ → List Cell
bank_cells i unit start size offset align fill bit padding units =
    number i ∷ number unit ∷ start ∷ size ∷ offset ∷ align ∷ number fill ∷ number bit ∷ number padding ∷ number units ∷ []

bank-coded : (i unit s z mz vz mo vo ma va fill bit padding units : ℕ)
    → line_to (ascii "bank") (0 ∷ 0 ∷ s ∷ mz ∷ mo ∷ ma ∷ 0 ∷ 0 ∷ 0 ∷ 0 ∷ []) (i ∷ unit ∷ z ∷ vz ∷ vo ∷ va ∷ fill ∷ bit ∷ padding ∷ units ∷ [])
    ≡ line_of (ascii "bank") (bank_cells i unit (cell_of s z) (cell_of mz vz) (cell_of mo vo) (cell_of ma va) fill bit padding units)
unfolding cells_to cells_from
bank-coded i unit s z mz vz mo vo ma va fill bit padding units = refl

pub bank-line : (i : ℕ) (def : Bankdef) (padding : Lost)
    → line_to (ascii "bank")
    (0 ∷ 0 ∷ sign_of def.start ∷ mark_of def.size ∷ mark_of def.offset ∷ mark_of def.align ∷ 0 ∷ 0 ∷ 0 ∷ 0 ∷ [])
    (i ∷ def.unit ∷ nat_abs def.start ∷ value_of def.size ∷ value_of def.offset ∷ value_of def.align ∷ bit_of def.fill ∷ def.fill_bit ∷
    padding.bits ∷
    padding.units ∷
    [])
    ≡ bank_line i def padding
bank-line i def padding =
    bank-coded i def.unit (sign_of def.start) (nat_abs def.start) (mark_of def.size) (value_of def.size) (mark_of def.offset)
    (value_of def.offset) (mark_of def.align) (value_of def.align) (bit_of def.fill) def.fill_bit padding.bits padding.units
    ∙ ap
    (λ (c : Cell).
    line_of (ascii "bank")
    (bank_cells i def.unit c (cell_of (mark_of def.size) (value_of def.size)) (cell_of (mark_of def.offset) (value_of def.offset))
    (cell_of (mark_of def.align) (value_of def.align)) (bit_of def.fill) def.fill_bit padding.bits padding.units))
    (is_signed def.start)
    ∙ rw (is-optional def.size, is-optional def.offset, is-optional def.align) refl

-- a node's line
node-coded : (i kind bank position a v w word size : ℕ)
    → line_to (ascii "node") (0 ∷ 0 ∷ 0 ∷ 0 ∷ a ∷ w ∷ 0 ∷ []) (i ∷ kind ∷ bank ∷ position ∷ v ∷ word ∷ size ∷ [])
    ≡ line_of (ascii "node") (number i ∷ number kind ∷ number bank ∷ number position ∷ cell_of a v ∷ cell_of w word ∷ number size ∷ [])
unfolding cells_to cells_from
node-coded i kind bank position a v w word size = refl

pub node-line : (banks : Bankdefs) (i kind bank position word size : ℕ)
    → line_to (ascii "node")
    (0 ∷ 0 ∷ 0 ∷ 0 ∷ address_mark (address_of (bank_record banks bank) position i) ∷ pick (eqb word no_offset) 2 0 ∷ 0 ∷ [])
    (i ∷ kind ∷ bank ∷ position ∷ address_value (address_of (bank_record banks bank) position i) ∷ word ∷ size ∷ [])
    ≡ node_line banks i kind bank position word size
node-line banks i kind bank position word size =
    let address = address_of (bank_record banks bank) position i in
    node-coded i kind bank position (address_mark address) (address_value address) (pick (eqb word no_offset) 2 0) word size
    ∙ ap
    (λ (c : Cell).
    line_of (ascii "node")
    (number i ∷ number kind ∷ number bank ∷ number position ∷ c ∷ cell_of (pick (eqb word no_offset) 2 0) word ∷ number size ∷ []))
    (is_address address)
    ∙ ap
    (λ (c : Cell).
    line_of (ascii "node") (number i ∷ number kind ∷ number bank ∷ number position ∷ address_cell address ∷ c ∷ number size ∷ []))
    (is_word word)

-- lines whose cells are numbers
pub one_number : (word : List ℕ) (a : ℕ) → line_to word (0 ∷ []) (a ∷ []) ≡ line_of word (number a ∷ [])
unfolding cells_to cells_from
one_number word a = refl

pub two-numbers : (word : List ℕ) (a b : ℕ) → line_to word (0 ∷ 0 ∷ []) (a ∷ b ∷ []) ≡ line_of word (number a ∷ number b ∷ [])
unfolding cells_to cells_from
two-numbers word a b = refl

pub three-numbers : (word : List ℕ) (a b c : ℕ)
    → line_to word (0 ∷ 0 ∷ 0 ∷ []) (a ∷ b ∷ c ∷ []) ≡ line_of word (number a ∷ number b ∷ number c ∷ [])
unfolding cells_to cells_from
three-numbers word a b c = refl

pub five-numbers : (word : List ℕ) (a b c d e : ℕ)
    → line_to word (0 ∷ 0 ∷ 0 ∷ 0 ∷ 0 ∷ []) (a ∷ b ∷ c ∷ d ∷ e ∷ []) ≡ line_of word (number a ∷ number b ∷ number c ∷ number d ∷ number e ∷ [])
unfolding cells_to cells_from
five-numbers word a b c d e = refl

-- ---- what was written is the record's line

-- the marks and numbers of a bank that are computed
record Nine : Type 0 where
  s : ℕ
  m1 : ℕ
  m2 : ℕ
  m3 : ℕ
  z : ℕ
  v1 : ℕ
  v2 : ℕ
  v3 : ℕ
  f : ℕ

nine-same : {s m1 m2 m3 z v1 v2 v3 f s' m1' m2' m3' z' v1' v2' v3' f' : ℕ} → s ≡ s' → m1 ≡ m1' → m2 ≡ m2' → m3 ≡ m3' → z ≡ z' → v1 ≡ v1' → v2 ≡ v2'
    → v3 ≡ v3' → f ≡ f'
    → ◌≡◌ {A = Nine} (record { s = s; m1 = m1; m2 = m2; m3 = m3; z = z; v1 = v1; v2 = v2; v3 = v3; f = f })
    (record { s = s'; m1 = m1'; m2 = m2'; m3 = m3'; z = z'; v1 = v1'; v2 = v2'; v3 = v3'; f = f' })
nine-same a b c d e g h j k = rw (a, b, c, d, e, g, h, j, k)

module _ {old new : List ℕ} {at r : ℕ} where
  pub marked-1 : {mark : ℕ} (n : ℕ) → mark ≡ 1 → Writes (cell_text (cell_of 1 n)) old at r new → Writes (cell_text (cell_of mark n)) old at r new
  marked-1 {mark} n e w = rw e w

  pub marked-2 : {mark : ℕ} (n : ℕ) → mark ≡ 2 → Writes (ascii "-") old at r new → Writes (cell_text (cell_of mark n)) old at r new
  marked-2 {mark} n e w = rw e w

  pub unmarked : {mark : ℕ} (n : ℕ) → (mark ≡ 1 → ⊥) → (mark ≡ 2 → ⊥) → Writes (decimal n) old at r new → Writes (cell_text (cell_of mark n)) old at r new
  unmarked {mark} n e f w = rw (ne_eqb mark 1 e, ne_eqb mark 2 f) w

  pub bank-written : (i : ℕ) (def : Bankdef) (padding : Lost) {s z m1 m2 m3 v1 v2 v3 f : ℕ} → s ≡ sign_of def.start → m1 ≡ mark_of def.size
      → m2 ≡ mark_of def.offset → m3 ≡ mark_of def.align → z ≡ nat_abs def.start → v1 ≡ value_of def.size → v2 ≡ value_of def.offset
      → v3 ≡ value_of def.align → f ≡ bit_of def.fill
      → Writes (line_to (ascii "bank") (0 ∷ 0 ∷ s ∷ m1 ∷ m2 ∷ m3 ∷ 0 ∷ 0 ∷ 0 ∷ 0 ∷ [])
      (i ∷ def.unit ∷ z ∷ v1 ∷ v2 ∷ v3 ∷ f ∷ def.fill_bit ∷ padding.bits ∷ padding.units ∷ [])) old at r new
      → Writes (bank_line i def padding) old at r new
  bank-written i def padding {s} {z} {m1} {m2} {m3} {v1} {v2} {v3} {f} a b c d e g h j k w =
      subst (λ (l : List ℕ). Writes l old at r new) (bank-line i def padding)
      (subst
      (λ (x : Nine). Writes (line_to (ascii "bank") (0 ∷ 0 ∷ x.s ∷ x.m1 ∷ x.m2 ∷ x.m3 ∷ 0 ∷ 0 ∷ 0 ∷ 0 ∷ [])
      (i ∷ def.unit ∷ x.z ∷ x.v1 ∷ x.v2 ∷ x.v3 ∷ x.f ∷ def.fill_bit ∷ padding.bits ∷ padding.units ∷ [])) old at r new)
      (nine-same a b c d e g h j k) w)

  pub node-written : (banks : Bankdefs) (i kind bank position word size : ℕ) {def : Bankdef} {address : Result ℤ Refusal} {a v w : ℕ} → def ≡ bank_record banks bank
      → address ≡ address_of def position i → a ≡ address_mark address → v ≡ address_value address → w ≡ pick (eqb word no_offset) 2 0
      → Writes (line_to (ascii "node") (0 ∷ 0 ∷ 0 ∷ 0 ∷ a ∷ w ∷ 0 ∷ []) (i ∷ kind ∷ bank ∷ position ∷ v ∷ word ∷ size ∷ [])) old at r new
      → Writes (node_line banks i kind bank position word size) old at r new
  node-written banks i kind bank position word size {def} {address} {a} {v} {w} ed ea e f g wrote =
      let is : address ≡ address_of (bank_record banks bank) position i = ea ∙ ap (λ (d : Bankdef). address_of d position i) ed in
      subst (λ (l : List ℕ). Writes l old at r new) (node-line banks i kind bank position word size)
      (subst (λ (x : ℕ). Writes (line_to (ascii "node") (0 ∷ 0 ∷ 0 ∷ 0 ∷ address_mark (address_of (bank_record banks bank) position i) ∷ x ∷ 0 ∷ [])
      (i ∷ kind ∷ bank ∷ position ∷ address_value (address_of (bank_record banks bank) position i) ∷ word ∷ size ∷ [])) old at r new) g
      (subst (λ (x : ℕ). Writes (line_to (ascii "node") (0 ∷ 0 ∷ 0 ∷ 0 ∷ x ∷ w ∷ 0 ∷ [])
      (i ∷ kind ∷ bank ∷ position ∷ address_value (address_of (bank_record banks bank) position i) ∷ word ∷ size ∷ [])) old at r new) (e ∙ ap address_mark is)
      (subst (λ (x : ℕ). Writes (line_to (ascii "node") (0 ∷ 0 ∷ 0 ∷ 0 ∷ a ∷ w ∷ 0 ∷ [])
      (i ∷ kind ∷ bank ∷ position ∷ x ∷ word ∷ size ∷ [])) old at r new) (f ∙ ap address_value is) wrote)))

  -- a text that is the same as the one that was written
  pub written_as : {a b : List ℕ} → a ≡ b → Writes a old at r new → Writes b old at r new
  written_as e w = subst (λ (l : List ℕ). Writes l old at r new) e w

pub refused-one : (why : Refusal) {n p : ℕ} {place : Place} → n ≡ number_of why → place ≡ place_of why → place ≡ One p
    → line_to (ascii "refused") (0 ∷ 0 ∷ []) (n ∷ p ∷ []) ≡ refused_text why
refused-one why {n} {p} e f g =
    two-numbers (ascii "refused") n p
    ∙ ap (λ (k : ℕ). line_of (ascii "refused") (number k ∷ number p ∷ [])) e
    ∙ ap (λ (q : Place). line_of (ascii "refused") (number (number_of why) ∷ place_cells q)) (sym g ∙ f)

pub refused-two : (why : Refusal) {n p q : ℕ} {place : Place} → n ≡ number_of why → place ≡ place_of why → place ≡ Two p q
    → line_to (ascii "refused") (0 ∷ 0 ∷ 0 ∷ []) (n ∷ p ∷ q ∷ []) ≡ refused_text why
refused-two why {n} {p} {q} e f g =
    three-numbers (ascii "refused") n p q
    ∙ ap (λ (k : ℕ). line_of (ascii "refused") (number k ∷ number p ∷ number q ∷ [])) e
    ∙ ap (λ (x : Place). line_of (ascii "refused") (number (number_of why) ∷ place_cells x)) (sym g ∙ f)

pub banks-next : (banks : Bankdefs) (padding : List Lost) (i : ℕ)
    → banks_text banks padding (i + 1) ≡ banks_text banks padding i ++ bank_line i (bank_record banks i) (get_or padding i no_lost)
unfolding banks_text
banks-next banks padding i = rw (add-one i)

pub banks-none : (banks : Bankdefs) (padding : List Lost) → banks_text banks padding 0 ≡ []
unfolding banks_text
banks-none banks padding = refl

pub nodes-next : (banks : Bankdefs) (kinds banked positions outputs sizes : List ℕ) (i : ℕ)
    → nodes_held banks kinds banked positions outputs sizes (i + 1)
    ≡ nodes_held banks kinds banked positions outputs sizes i
    ++ node_line banks i (get_or kinds i 0) (get_or banked i 0) (get_or positions i 0) (get_or outputs i 0) (get_or sizes i 0)
unfolding nodes_held
nodes-next banks kinds banked positions outputs sizes i = rw (add-one i)

pub nodes-none : (banks : Bankdefs) (kinds banked positions outputs sizes : List ℕ) → nodes_held banks kinds banked positions outputs sizes 0 ≡ []
unfolding nodes_held
nodes-none banks kinds banked positions outputs sizes = refl
