-- Laws that Theorems/SameText rests on: lines of one word one behind the other, up to a line of another word, tell how many they are and the cells of each.
use Rattle.std.specs.Prelude.{◌≡◌, refl, Bool, true, false, ◌&&◌, List, [], ◌∷◌, ◌++◌, ℕ, zero, suc, ◌<◌, leb, ℤ, pos, negsuc, get_or, Option, None, Some, Err}
use Rattle.std.proofs.Common.{sym, ap, ap₂, ◌∙◌, append-nil, append_assoc, arith, le-ltb, leb-true}
use Rattle.prelude.specs.Laws.Bools.{both, unlike}
use Rattle.prelude.specs.Refusals.{number_of, place_of}
use Rattle.prelude.specs.Theorems.Told.{refusal-by-figures}
use Rattle.prelude.specs.declared.Place.{Place}
use Rattle.prelude.specs.declared.Place.TheVariants.{One, Two}
use Rattle.prelude.specs.declared.Refusal.{Refusal}
use Rattle.prelude.specs.Verdict.{Verdict, Accepted}
use Rattle.bankdef.specs.declared.Bankdef.{Bankdef}
use Rattle.bankdef.specs.declared.Bankdefs.{Bankdefs}
use Rattle.iter.specs.Step.{no_lost}
use Rattle.iter.specs.declared.Lost.{Lost}
use Rattle.resolver.specs.Once.{bank_record}
use Rattle.print_text.specs.Ascii.{ascii}
use Rattle.print_map.specs.Cells.{Cell, number, minus, cells_from, line_of, signed, optional}
use Rattle.print_map.specs.Marks.{bit_of}
use Rattle.print_map.specs.SameText.{Printed, columns_of}
use Rattle.print_map.specs.Text.{bank_line, banks_text, nodes_text, fault_text, place_cells, refused_text, verdict_text}
use Rattle.print_map.specs.Laws.ReadBack.{same_head, Above, line-then, cells_of}

-- ---- lines of one word

abbrev pub rows_of : List ℕ → (ℕ → List Cell) → ℕ → List ℕ
rows_of word f zero = []
rows_of word f (suc n) = line_of word (f 0) ++ rows_of word (λ i. f (suc i)) n

rows_last : (word : List ℕ) (f : ℕ → List Cell) (n : ℕ) → rows_of word f (suc n) ≡ rows_of word f n ++ line_of word (f n)
rows_last word f zero = append-nil (line_of word (f 0))
rows_last word f (suc n) =
    ap (λ (l : List ℕ). line_of word (f 0) ++ l) (rows_last word (λ i. f (suc i)) n)
    ∙ sym (append_assoc (line_of word (f 0)) (rows_of word (λ i. f (suc i)) n) (line_of word (f (suc n))))

-- a text that begins with a line of another word
pub record Apart (word text : List ℕ) : Type 0 where
  pub other : List ℕ
  pub cells : List Cell
  pub rest : List ℕ
  pub above : Above 33 other
  pub differs : other ≡ word → ⊥
  pub is : text ≡ line_of other cells ++ rest

-- a line of this word is no such text
not-apart : (word : List ℕ) (cs : List Cell) (t text : List ℕ) → Above 33 word → Apart word text → text ≡ line_of word cs ++ t → ⊥
not-apart word cs t text h a e = a.differs (line-then a.other word a.cells cs a.rest t a.above h (sym a.is ∙ e)).0

-- lines of one word, and a text that begins with another, are such a text for a third
pub apart-rows : (word other : List ℕ) (f : ℕ → List Cell) (n : ℕ) (text : List ℕ) → Above 33 other → (other ≡ word → ⊥) → Apart word text
    → Apart word (rows_of other f n ++ text)
apart-rows word other f zero text h d a = a
apart-rows word other f (suc n) text h d a =
    record {
      other = other;
      cells = f 0;
      rest = rows_of other (λ i. f (suc i)) n ++ text;
      above = h;
      differs = d;
      is = append_assoc (line_of other (f 0)) (rows_of other (λ i. f (suc i)) n) text;
    }

pub rows_tell : (word : List ℕ) → Above 33 word → (f g : ℕ → List Cell) (n k : ℕ) (r s : List ℕ) → Apart word r → Apart word s
    → rows_of word f n ++ r ≡ rows_of word g k ++ s → (n ≡ k) × ((i : ℕ) → i < n → f i ≡ g i) × (r ≡ s)
rows_tell word h f g zero zero r s a b e = (refl, λ i l. absurd (let z : ⊥ = omega arith in z), e)
rows_tell word h f g zero (suc k) r s a b e =
    absurd (not-apart word (g 0) _ r h a (e ∙ append_assoc (line_of word (g 0)) (rows_of word (λ i. g (suc i)) k) s))
rows_tell word h f g (suc n) zero r s a b e =
    absurd (not-apart word (f 0) _ s h b (sym e ∙ append_assoc (line_of word (f 0)) (rows_of word (λ i. f (suc i)) n) r))
rows_tell word h f g (suc n) (suc k) r s a b e =
    let x = line-then word word (f 0) (g 0) _ _ h h
    (sym (append_assoc (line_of word (f 0)) (rows_of word (λ i. f (suc i)) n) r) ∙ e
    ∙ append_assoc (line_of word (g 0)) (rows_of word (λ i. g (suc i)) k) s) in
    let y = rows_tell word h (λ i. f (suc i)) (λ i. g (suc i)) n k r s a b x.2 in
    (ap suc y.0, each x.1 y.1, y.2)
  where
    each : f 0 ≡ g 0 → ((i : ℕ) → i < n → f (suc i) ≡ g (suc i)) → (i : ℕ) → i < suc n → f i ≡ g i
    each first rest zero l = first
    each first rest (suc i) l = rest i (omega arith)

-- ---- the banks and the nodes as such lines

abbrev pub bank_cells : Bankdefs → List Lost → ℕ → List Cell
bank_cells banks padding i =
    number i ∷
    number (bank_record banks i).unit ∷
    signed (bank_record banks i).start ∷
    optional (bank_record banks i).size ∷
    optional (bank_record banks i).offset ∷
    optional (bank_record banks i).align ∷
    number (bit_of (bank_record banks i).fill) ∷
    number (bank_record banks i).fill_bit ∷
    number (get_or padding i no_lost).bits ∷
    number (get_or padding i no_lost).units ∷
    []

pub banks-rows : (banks : Bankdefs) (padding : List Lost) (n : ℕ) → banks_text banks padding n ≡ rows_of (ascii "bank") (bank_cells banks padding) n
unfolding banks_text
banks-rows banks padding zero = refl
banks-rows banks padding (suc n) =
    ap (λ (l : List ℕ). l ++ bank_line n (bank_record banks n) (get_or padding n no_lost)) (banks-rows banks padding n)
    ∙ sym (rows_last (ascii "bank") (bank_cells banks padding) n)

pub nodes-rows : (x : Printed) (n : ℕ)
    → nodes_text x.program x.row n ≡ rows_of (ascii "node") (λ i. cells_of x.program.banks (columns_of x i)) n
unfolding nodes_text
nodes-rows x zero = refl
nodes-rows x (suc n) =
    ap (λ (l : List ℕ). l ++ line_of (ascii "node") (cells_of x.program.banks (columns_of x n))) (nodes-rows x n)
    ∙ sym (rows_last (ascii "node") (λ i. cells_of x.program.banks (columns_of x i)) n)

-- ---- a bank by its cells

signed-told : (y z : ℤ) → signed y ≡ signed z → y ≡ z
signed-told (pos a) (pos b) e = let f : number a ≡ number b = sym (plain a) ∙ e ∙ plain b in ap pos cc
  where
    plain : (n : ℕ) → signed (pos n) ≡ number n
    plain n = rw (le-ltb n 0 (omega arith))
signed-told (pos a) (negsuc b) e =
    let f : number a ≡ minus (suc b) = sym (let p : signed (pos a) ≡ number a = rw (le-ltb a 0 (omega arith)) in p) ∙ e in
    unlike cc
signed-told (negsuc a) (pos b) e =
    let f : minus (suc a) ≡ number b = e ∙ (let p : signed (pos b) ≡ number b = rw (le-ltb b 0 (omega arith)) in p) in
    unlike cc
signed-told (negsuc a) (negsuc b) e = let f : suc a ≡ suc b = cc in ap negsuc (omega arith)

optional-told : (o p : Option ℕ) → optional o ≡ optional p → o ≡ p
optional-told None None e = refl
optional-told None (Some n) e = unlike cc
optional-told (Some m) None e = unlike cc
optional-told (Some m) (Some n) e = let f : m ≡ n = cc in ap Some f

bit-told : (a b : Bool) → bit_of a ≡ bit_of b → a ≡ b
bit-told true true e = refl
bit-told true false e = absurd (omega arith)
bit-told false true e = absurd (omega arith)
bit-told false false e = refl

made : {u u' : ℕ} {s s' : ℤ} {z z' o o' a a' : Option ℕ} {f f' : Bool} {b b' : ℕ} → u ≡ u' → s ≡ s' → z ≡ z' → o ≡ o' → a ≡ a' → f ≡ f' → b ≡ b'
    → ◌≡◌ {A = Bankdef} (record { unit = u; start = s; size = z; offset = o; align = a; fill = f; fill_bit = b })
    (record { unit = u'; start = s'; size = z'; offset = o'; align = a'; fill = f'; fill_bit = b' })
made e f g h i j k = rw (e, f, g, h, i, j, k)

pub bank-told : (banks other : Bankdefs) (padding lost : List Lost) (i : ℕ) → bank_cells banks padding i ≡ bank_cells other lost i
    → (bank_record banks i ≡ bank_record other i) × (get_or padding i no_lost ≡ get_or lost i no_lost)
bank-told banks other padding lost i e =
    let x = bank_record banks i in
    let y = bank_record other i in
    let unit : x.unit ≡ y.unit = cc in
    let start : signed x.start ≡ signed y.start = cc in
    let size : optional x.size ≡ optional y.size = cc in
    let offset : optional x.offset ≡ optional y.offset = cc in
    let align : optional x.align ≡ optional y.align = cc in
    let fill : bit_of x.fill ≡ bit_of y.fill = cc in
    let bit : x.fill_bit ≡ y.fill_bit = cc in
    let bits : (get_or padding i no_lost).bits ≡ (get_or lost i no_lost).bits = cc in
    let units : (get_or padding i no_lost).units ≡ (get_or lost i no_lost).units = cc in (
      made unit (signed-told x.start y.start start) (optional-told x.size y.size size) (optional-told x.offset y.offset offset)
          (optional-told x.align y.align align) (bit-told x.fill y.fill fill) bit,
      ap₂ (λ (m n : ℕ). record { bits = m; units = n }) bits units,
    )

-- ---- the node at fault and the verdict, which are the last lines

abbrev pub letters : List ℕ → Bool
letters [] = true
letters (c ∷ l) = leb 33 c && letters l

pub above-33 : (l : List ℕ) → letters l ≡ true → Above 33 l
above-33 [] e = tt
above-33 (c ∷ l) e = let x = both (leb 33 c) (letters l) e in (leb-true 33 c x.0, above-33 l x.1)

-- a verdict's line by its word and its cells
abbrev verdict_word : Verdict → List ℕ
verdict_word Accepted = ascii "accepted"
verdict_word (Err why) = ascii "refused"

abbrev verdict_cells : Verdict → List Cell
verdict_cells Accepted = []
verdict_cells (Err why) = number (number_of why) ∷ place_cells (place_of why)

verdict-above : (v : Verdict) → Above 33 (verdict_word v)
verdict-above Accepted = above-33 (ascii "accepted") refl
verdict-above (Err why) = above-33 (ascii "refused") refl

verdict-line : (v : Verdict) → verdict_text v ≡ line_of (verdict_word v) (verdict_cells v) ++ []
unfolding cells_from
verdict-line Accepted = refl
verdict-line (Err why) = sym (append-nil (refused_text why))

place-told : (p q : Place) → place_cells p ≡ place_cells q → p ≡ q
place-told (One a) (One b) e = let f : a ≡ b = cc in ap One f
place-told (One a) (Two b c) e = unlike cc
place-told (Two a c) (One b) e = unlike cc
place-told (Two a c) (Two b d) e = let f : a ≡ b = cc in let g : c ≡ d = cc in rw (f, g)

pub refusal-told : (why other : Refusal) → refused_text why ≡ refused_text other → why ≡ other
refusal-told why other e =
    let x = line-then (ascii "refused") (ascii "refused") (verdict_cells (Err why)) (verdict_cells (Err other)) [] []
    (verdict-above (Err why)) (verdict-above (Err other))
    (append-nil (refused_text why) ∙ e ∙ sym (append-nil (refused_text other))) in
    let cells = x.1 in
    let n : number_of why ≡ number_of other = cc in
    let p : place_cells (place_of why) ≡ place_cells (place_of other) = cc in
    refusal-by-figures why other n (place-told (place_of why) (place_of other) p)

verdict-told : (v w : Verdict) → verdict_text v ≡ verdict_text w → v ≡ w
verdict-told Accepted Accepted e = refl
verdict-told Accepted (Err why) e = absurd (omega (arith, same_head e))
verdict-told (Err why) Accepted e = absurd (omega (arith, same_head e))
verdict-told (Err why) (Err other) e = ap Err (refusal-told why other e)

-- the first characters of the words that may stand there: none of bank, node or file
pub apart-end : (word : List ℕ) (f : Option ℕ) (v : Verdict) → (ascii "fault" ≡ word → ⊥) → (ascii "accepted" ≡ word → ⊥) → (ascii "refused" ≡ word → ⊥)
    → Apart word (fault_text f ++ verdict_text v)
apart-end word None v a b c =
    record {
      other = verdict_word v;
      cells = verdict_cells v;
      rest = [];
      above = verdict-above v;
      differs = by v;
      is = verdict-line v;
    }
  where
    by : (v : Verdict) → verdict_word v ≡ word → ⊥
    by Accepted = b
    by (Err why) = c
apart-end word (Some n) v a b c =
    record { other = ascii "fault"; cells = number n ∷ []; rest = verdict_text v; above = above-33 (ascii "fault") refl; differs = a; is = refl }

not-fault : (v : Verdict) (n : ℕ) (t : List ℕ) → verdict_text v ≡ fault_text (Some n) ++ t → ⊥
not-fault v n t e =
    by v
    (line-then (verdict_word v) (ascii "fault") (verdict_cells v) (number n ∷ []) [] t (verdict-above v)
    (above-33 (ascii "fault") refl) (sym (verdict-line v) ∙ e)).0
  where
    by : (v : Verdict) → verdict_word v ≡ ascii "fault" → ⊥
    by Accepted f = omega (arith, same_head f)
    by (Err why) f = omega (arith, same_head f)

pub end-told : (f g : Option ℕ) (v w : Verdict) → fault_text f ++ verdict_text v ≡ fault_text g ++ verdict_text w → (f ≡ g) × (v ≡ w)
end-told None None v w e = (refl, verdict-told v w e)
end-told None (Some n) v w e = absurd (not-fault v n (verdict_text w) e)
end-told (Some m) None v w e = absurd (not-fault w m (verdict_text v) (sym e))
end-told (Some m) (Some n) v w e =
    let x = line-then (ascii "fault") (ascii "fault") (number m ∷ []) (number n ∷ []) (verdict_text v) (verdict_text w)
    (above-33 (ascii "fault") refl) (above-33 (ascii "fault") refl) e in
    let cells = x.1 in
    let same : m ≡ n = cc in
    (ap Some same, verdict-told v w x.2)
