-- Laws that Theorems/Said rests on.
use Rattle.std.specs.Prelude.{◌≡◌, ℕ, ◌+◌, ◌*◌, ◌/◌, ◌%◌, ◌^◌, ◌<◌, ◌≤◌, Bool, true, false, ◌⊎◌, List, [], ◌∷◌, ◌++◌, length, ◌==◌, refl}
use Rattle.std.proofs.Common.{sym, ap, ◌∙◌, append_assoc, inr, arith, eqb-true, take_all}
use Rattle.prelude.specs.Pick.{pick}
use Rattle.record_lines.specs.Items.{gives}
use Rattle.record_lines.specs.Pieces.{Piece}
use Rattle.record_lines.specs.Laws.Spelled.{bytes-none}
use Rattle.record_lines.specs.Telling.{Tells, closes, skips, tells, Sits, Rises}
use Rattle.record_lines.specs.Uppers.{Uppers, ended}
use Rattle.record_lines.specs.Laws.Uppers.{UpperLines}
use Rattle.record_ihex_line.specs.Format.{hex_item, record_text, hex_text}
use Rattle.record_ihex_line.specs.ReadBack.{line_of}
use Rattle.record_ihex_line.specs.Theorems.ReadBack.{record-is-line, written-record-upper, data-record-says, end-record-says, upper-record-says}
use Rattle.record_ihex_line.specs.Laws.ReadBack.{upper-bytes}
use Rattle.record_srec_line.specs.Srec.{line_text, data_digit, end_digit, srec_item}
use Rattle.record_srec_line.specs.ReadBack.{Width, two, four}
use Rattle.record_srec_line.specs.Theorems.ReadBack.{data-back, end_back, data-upper, end-upper}
use Rattle.record_write.specs.Text.{text_by, end_by, lines_from}

-- ---- Intel HEX

-- "a type 04 record when the upper half differs from that in force (0 at first), and an end record": the lines of pieces.
abbrev pub upper_line : ℕ → List ℕ
upper_line upper = line_of 4 0 (upper / 256 ∷ upper % 256 ∷ [])

abbrev pub data_line : Piece → List ℕ
data_line p = line_of 0 (p.address % 65536) p.bytes

abbrev pub end_line : List ℕ
end_line = line_of 1 0 []

unfoldable pub hex_lines : ℕ → List Piece → List (List ℕ)
hex_lines in_force [] = end_line ∷ []
hex_lines in_force (p ∷ l) =
    pick (p.address / 65536 == in_force) (data_line p ∷ hex_lines (p.address / 65536) l)
    (upper_line (p.address / 65536) ∷ data_line p ∷ hex_lines (p.address / 65536) l)

record-then : (type field : ℕ) (bytes rest : List ℕ) → record_text type field bytes ++ rest ≡ line_of type field bytes ++ (10 ∷ rest)
record-then type field bytes rest =
    ap (λ (l : List ℕ). l ++ rest) (record-is-line type field bytes) ∙ append_assoc (line_of type field bytes) (10 ∷ []) rest

piece-lines : (p : Piece) (rest : List (List ℕ)) (t : Bool)
    → pick t [] (record_text 4 0 (p.address / 65536 / 256 ∷ p.address / 65536 % 256 ∷ [])) ++ record_text 0 (p.address % 65536) p.bytes ++ ended rest
    ≡ ended (pick t (data_line p ∷ rest) (upper_line (p.address / 65536) ∷ data_line p ∷ rest))
unfolding ended
piece-lines p rest true = record-then 0 (p.address % 65536) p.bytes (ended rest)
piece-lines p rest false =
    let upper = p.address / 65536 / 256 ∷ p.address / 65536 % 256 ∷ [] in
    append_assoc (record_text 4 0 upper) (record_text 0 (p.address % 65536) p.bytes) (ended rest)
    ∙ record-then 4 0 upper (record_text 0 (p.address % 65536) p.bytes ++ ended rest)
    ∙ ap (λ (l : List ℕ). upper_line (p.address / 65536) ++ (10 ∷ l)) (record-then 0 (p.address % 65536) p.bytes (ended rest))

-- The text is these lines, "LF ends".
pub hex-text-lines : (state : ℕ) (l : List Piece) → lines_from 0 state l ++ end_by 0 ≡ ended (hex_lines state l)
unfolding lines_from hex_text hex_lines ended
hex-text-lines state [] = record-is-line 1 0 []
hex-text-lines state (p ∷ l) =
    append_assoc (hex_text state p) (lines_from 0 (p.address / 65536) l) (end_by 0)
    ∙ ap (λ (x : List ℕ). hex_text state p ++ x) (hex-text-lines (p.address / 65536) l)
    ∙ piece-lines p (hex_lines (p.address / 65536) l) (p.address / 65536 == state)

module _ (p : Piece) (from : ℕ) (s : Sits 4294967296 from p) where
  abbrev half : ℕ
  half = p.address / 65536

  low : p.address < 4294967296
  low = omega (arith, s.below, s.some)

  half-low : half < 65536
  half-low = let h = low in omega arith

  few : length p.bytes < 256
  few = omega (arith, s.few)

  data-says : hex_item half (data_line p) ≡ gives p.address p.bytes half
  data-says =
      let whole : 65536 * half + p.address % 65536 ≡ p.address = omega arith in
      data-record-says 0 (p.address % 65536) p.bytes (omega arith) (omega arith) s.bytes few half refl
      ∙ ap (λ (a : ℕ). gives a p.bytes half) whole

  piece-tells : (state : ℕ) (rest : List (List ℕ)) (l : List Piece) → Tells hex_item half rest l → (t : Bool) → (half == state) ≡ t → Tells hex_item state
      (pick t (data_line p ∷ rest) (upper_line half ∷ data_line p ∷ rest)) (p ∷ l)
  piece-tells state rest l r true e = tells (ap (λ (u : ℕ). hex_item u (data_line p)) (sym (eqb-true half state e)) ∙ data-says) r
  piece-tells state rest l r false e = skips (upper-record-says state half half-low) (tells data-says r)

  data-uppers : Uppers (data_line p)
  data-uppers = written-record-upper 0 (p.address % 65536) p.bytes (omega arith) (omega arith) s.bytes few

  piece-uppers : (rest : List (List ℕ)) → UpperLines rest → (t : Bool) → UpperLines (pick t (data_line p ∷ rest) (upper_line half ∷ data_line p ∷ rest))
  piece-uppers rest r true = (data-uppers, r)
  piece-uppers rest r false =
      (written-record-upper 4 0 (half / 256 ∷ half % 256 ∷ []) (omega arith) (omega arith) (upper-bytes half half-low) (omega arith), (data-uppers, r))

pub hex-lines-tell : (from state : ℕ) (l : List Piece) → Rises 4294967296 from l → Tells hex_item state (hex_lines state l) l
unfolding hex_lines
hex-lines-tell from state [] r = closes (end-record-says state)
hex-lines-tell from state (p ∷ l) r =
    piece-tells p from r.0 state (hex_lines (p.address / 65536) l) l
    (hex-lines-tell (p.address + length p.bytes) (p.address / 65536) l r.1)
    (p.address / 65536 == state) refl

-- "upper case"
pub hex-lines-upper : (from state : ℕ) (l : List Piece) → Rises 4294967296 from l → UpperLines (hex_lines state l)
unfolding hex_lines
hex-lines-upper from state [] r = (written-record-upper 1 0 [] (omega arith) (omega arith) bytes-none (omega arith), tt)
hex-lines-upper from state (p ∷ l) r =
    piece-uppers p from r.0 (hex_lines (p.address / 65536) l) (hex-lines-upper (p.address + length p.bytes) (p.address / 65536) l r.1)
    (p.address / 65536 == state)

-- ---- S-records, once over both widths

-- "S1 with S9, and S3 with S7 .. end address 0": no header, and no count of records.
unfoldable pub srec_lines : ℕ → List Piece → List (List ℕ)
srec_lines w [] = line_text (end_digit w) w 0 [] ∷ []
srec_lines w (p ∷ l) = line_text (data_digit w) w p.address p.bytes ∷ srec_lines w l

srec-piece : {w : ℕ} → Width w → (state : ℕ) (p : Piece) → length p.bytes ≤ 16 → text_by w state p
    ≡ line_text (data_digit w) w p.address p.bytes ++ (10 ∷ [])
srec-piece two state p few = ap (λ (b : List ℕ). line_text 49 2 p.address b ++ (10 ∷ [])) (take_all 250 p.bytes (omega arith))
srec-piece four state p few = ap (λ (b : List ℕ). line_text 51 4 p.address b ++ (10 ∷ [])) (take_all 250 p.bytes (omega arith))

srec-end : {w : ℕ} → Width w → end_by w ≡ line_text (end_digit w) w 0 [] ++ (10 ∷ [])
srec-end two = refl
srec-end four = refl

pub srec-text-lines : {w : ℕ} → Width w → (top from state : ℕ) (l : List Piece) → Rises top from l → lines_from w state l ++ end_by w ≡ ended (srec_lines w l)
unfolding lines_from srec_lines ended
srec-text-lines {w} v top from state [] r = srec-end v
srec-text-lines {w} v top from state (p ∷ l) r =
    let line = line_text (data_digit w) w p.address p.bytes in
    append_assoc (text_by w state p) (lines_from w (p.address / 65536) l) (end_by w)
    ∙ ap (λ (x : List ℕ). text_by w state p ++ x) (srec-text-lines v top (p.address + length p.bytes) (p.address / 65536) l r.1)
    ∙ ap (λ (x : List ℕ). x ++ ended (srec_lines w l)) (srec-piece v state p r.0.few)
    ∙ append_assoc line (10 ∷ []) (ended (srec_lines w l))

pub srec-lines-tell : {w : ℕ} → Width w → (from state : ℕ) → (state ≡ 0) ⊎ (state ≡ w) → (l : List Piece) → Rises (256 ^ w) from l → Tells srec_item state
    (srec_lines w l) l
unfolding srec_lines
srec-lines-tell {w} v from state s [] r = closes (end_back v s)
srec-lines-tell {w} v from state s (p ∷ l) r =
    let sits = r.0 in
    let some = sits.some in
    let few = sits.few in
    let below = sits.below in
    tells (data-back v s p.address p.bytes sits.bytes (omega arith) (omega arith) below)
    (srec-lines-tell v (p.address + length p.bytes) w (inr refl) l r.1)

pub srec-lines-upper : {w : ℕ} → Width w → (top from : ℕ) (l : List Piece) → Rises top from l → UpperLines (srec_lines w l)
unfolding srec_lines
srec-lines-upper v top from [] r = (end-upper v, tt)
srec-lines-upper v top from (p ∷ l) r =
    let few = r.0.few in
    (data-upper v p.address p.bytes r.0.bytes (omega arith), srec-lines-upper v top (p.address + length p.bytes) l r.1)
