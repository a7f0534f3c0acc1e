-- What the program `layout` prints for the bytes of a file, from document 01, with a page size from document 02, Ticket 9: what `dk_form` or `dk_form_paged`
-- says of the file (Form, FormPaged), in text.
use Rattle.std.specs.Prelude.{◌≡◌, List, [], ◌∷◌, ◌++◌, ◌⊎◌, ℕ, ◌<◌, length, take, Option, None, Some}
use Rattle.print_text.specs.Ascii.{ascii}
use Rattle.c_answers.specs.declared.DkLayout.{DkLayout}
use Rattle.says.specs.Words.{Not}
use Rattle.says.specs.Blocks.{Block, ByOffset, Walks}
use Rattle.says.specs.Build.{Lent, Outcome}
use Rattle.says.specs.Form.{FormSays}
use Rattle.says.specs.FormPaged.{FormPagedSays}
use Rattle.says.specs.Hex.{Text}
use Rattle.says.specs.Lines.{Line}

-- Places of two numbers: "3 the first pair"; "12 the stored start and size"; 19 "rule and bank or node"
abbrev pub Two : ℕ → Type 0
Two number = (number ≡ 3) ⊎ ((number ≡ 12) ⊎ (number ≡ 19))

-- "A refusal prints `refused`, number and place": the numbers of its line
pub data Numbers (number place second : ℕ) : List ℕ → Type 0 where
  one : Not (Two number) → Numbers number place second (number ∷ place ∷ [])
  two : Two number → Numbers number place second (number ∷ place ∷ second ∷ [])

pub data RefusalLine (a : DkLayout) (t : List ℕ) : Type 0 where
  refuses : {ns : List ℕ} → 0 < a.refusal → Numbers a.refusal a.place a.second ns → Line (ascii "refused") ns t → RefusalLine a t

-- The blocks of an accepted outcome: those of `dk_blocks` (Blocks) over the spans that the build left, taken by offset.
pub data BlocksOf (y : Outcome) (b : List Block) : Type 0 where
  of-spans : {order : List ℕ} → ByOffset (take y.answer.spans y.lent.offsets) order
      → Walks (take y.answer.spans y.lent.offsets) (take y.answer.spans y.lent.sizes) 0 0 order b → BlocksOf y b

-- "block 0 10": a line for each block, its offset and its size
pub data BlockLines : List Block → List ℕ → Type 0 where
  none : BlockLines [] []
  next : {o n : ℕ} {b : List Block} {l t : List ℕ} → Line (ascii "block") (o ∷ n ∷ []) l → BlockLines b t → BlockLines ((o, n) ∷ b) (l ++ t)

-- "image ffc002a800"; "An empty image prints `image` alone." The digits are those of `dk_hex` (Hex).
pub data ImageLine (bytes : List ℕ) (bits : ℕ) : List ℕ → Type 0 where
  empty : bits ≡ 0 → ImageLine bytes bits (ascii "image\n")
  digits : {d : List ℕ} → 0 < bits → Text bytes bits d → ImageLine bytes bits (ascii "image " ++ d ++ ascii "\n")

-- The text of an outcome: the refusal with its place; or, where it is accepted, K ("The first line is K."), the blocks and the image.
pub data Reports (y : Outcome) : List ℕ → Type 0 where
  refused : {t : List ℕ} → RefusalLine y.answer t → Reports y t
  accepted : {k t i : List ℕ} {b : List Block} → y.answer.refusal ≡ 0 → Line (ascii "passes") (y.answer.k ∷ []) k → BlocksOf y b → BlockLines b t
      → ImageLine y.lent.image y.answer.length i → Reports y (k ++ t ++ i)

-- "lends 16,384 image bytes, 4,096 spans": lists of these lengths, whatever they hold
abbrev pub Lends : Lent → Type 0
Lends old = (length old.image ≡ 16384) × (length old.addresses ≡ 4096) × (length old.offsets ≡ 4096) × (length old.sizes ≡ 4096)

-- What the library says of the file with the fill's choice, and with a page size where there is one.
abbrev pub LayoutSays : List ℕ → ℕ → Option ℕ → Lent → Outcome → Type 0
LayoutSays file fill None = FormSays file fill
LayoutSays file fill (Some page) = FormPagedSays file fill page

-- The program with its arguments: whatever it lends holds, what it prints is the text of an outcome that the library says.
abbrev pub ReportSays : List ℕ → ℕ → Option ℕ → List ℕ → Type 0
ReportSays file fill page text = (old : Lent) → Lends old → (y : Outcome) × LayoutSays file fill page old y × Reports y text
