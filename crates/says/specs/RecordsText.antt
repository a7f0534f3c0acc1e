-- What `prog_records`, the program behind tools/ihex and tools/srec, prints for the bytes of a layout file: what the library says of the file (Report), and of
-- the image that it leaves what `dk_write_hex` or `dk_write_srec` says (Write).
use Rattle.std.specs.Prelude.{◌≡◌, Bool, true, false, List, [], ◌∷◌, ◌++◌, map, ℕ, ◌+◌, ◌*◌, ◌/◌, ◌<◌, length, take, Option}
use Rattle.print_text.specs.Ascii.{ascii}
use Rattle.says.specs.Words.{Not}
use Rattle.says.specs.Blocks.{Block}
use Rattle.says.specs.Build.{Lent, Outcome}
use Rattle.says.specs.Write as write
use Rattle.says.specs.Write.{Given, HexSays, SrecSays}
use Rattle.says.specs.Lines.{Line}
use Rattle.says.specs.Report.{RefusalLine, BlocksOf, Lends, LayoutSays}

-- The blocks that are written: those of document 01's rule; or, where the whole image is asked for, one that has every byte of the image, none where the image
-- has no bit.
pub data Chosen (y : Outcome) : (whole : Bool) → List Block → Type 0 where
  blocks : {b : List Block} → BlocksOf y b → Chosen y false b
  empty : y.answer.length ≡ 0 → Chosen y true []
  image : 0 < y.answer.length → Chosen y true ((0, 8 * ((y.answer.length + 7) / 8)) ∷ [])

-- what the call that writes is given
abbrev pub given : ℕ → Outcome → List Block → Given
given load y b = record { image = y.lent.image; offsets = map (λ x. x.0) b; sizes = map (λ x. x.1) b; load = load }

-- format 0 is Intel HEX, every other the width of S-records
pub data CallSays (format : ℕ) (g : Given) (old : List ℕ) (z : write.Outcome) : Type 0 where
  hex : format ≡ 0 → HexSays g old z → CallSays format g old z
  s-records : Not (format ≡ 0) → SrecSays g old format z → CallSays format g old z

-- the file that the call wrote; or its refusal's line, and one that says that the layout was accepted and its records were not
pub data Tells (z : write.Outcome) : List ℕ → Type 0 where
  turned : {t : List ℕ} → 0 < z.answer.refusal → Line (ascii "refused") (z.answer.refusal ∷ z.answer.place ∷ []) t → Tells z (t ++ ascii "records\n")
  written : z.answer.refusal ≡ 0 → Tells z (take z.answer.count z.text)

-- The text of an outcome, in a room for its characters.
pub data Records (format load : ℕ) (whole : Bool) (room : List ℕ) (y : Outcome) : List ℕ → Type 0 where
  refused : {t : List ℕ} → RefusalLine y.answer t → Records format load whole room y t
  laid : {b : List Block} {z : write.Outcome} {t : List ℕ} → y.answer.refusal ≡ 0 → Chosen y whole b → CallSays format (given load y b) room z → Tells z t
      → Records format load whole room y t

-- The program with its arguments: room for the image and the spans as in `layout`, and for 131,072 characters, whatever it holds.
abbrev pub RecordsSay : (format load : ℕ) → Bool → List ℕ → ℕ → Option ℕ → List ℕ → Type 0
RecordsSay format load whole file fill page text =
    (old : Lent) → Lends old → (room : List ℕ) → length room ≡ 131072
    → (y : Outcome) × LayoutSays file fill page old y × Records format load whole room y text
