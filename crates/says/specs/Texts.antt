-- What the programs `prog_reason`, `prog_convert` and `prog_rehex` print for the bytes of a file, all of it: what the calls say of the file, in text.
use Rattle.std.specs.Prelude.{◌≡◌, List, [], ◌∷◌, ◌++◌, ◌⊎◌, ℕ, ◌≤◌, ◌<◌, length, get_or, take}
use Rattle.print_text.specs.Ascii.{ascii}
use Rattle.c_answers.specs.declared.DkCount.{DkCount}
use Rattle.c_answers.specs.declared.DkFault.{DkFault}
use Rattle.c_answers.specs.declared.DkReason.{DkReason}
use Rattle.says.specs.Words.{Not}
use Rattle.says.specs.Files.{Form, form-1, form-2}
use Rattle.says.specs.Convert as convert
use Rattle.says.specs.Convert.{ConvertSays}
use Rattle.says.specs.Reason.{DkReasonSays}
use Rattle.says.specs.Read as read
use Rattle.says.specs.Read.{Lent, ReadSays, FaultSays}
use Rattle.says.specs.Write as write
use Rattle.says.specs.Write.{Given, HexSays, SrecSays}
use Rattle.says.specs.Lines.{Line}

-- "A refusal prints `refused`, number and place, one space between."
abbrev pub Refused : ℕ → ℕ → List ℕ → Type 0
Refused number place = Line (ascii "refused") (number ∷ place ∷ [])

-- An answer and the bytes that it left: the refusal, or what was written, as it is
pub data Prints (a : DkCount) (out : List ℕ) : List ℕ → Type 0 where
  refused : {t : List ℕ} → 0 < a.refusal → Refused a.refusal a.place t → Prints a out t
  accepted : a.refusal ≡ 0 → Prints a out (take a.count out)

-- ---- `prog_reason`: `reason`, the reason, 0 for a good file, the line, from 0, and the reason's two numbers. The longest file has 3,276,800 bytes
pub data ReasonText (kind load : ℕ) (source t : List ℕ) : Type 0 where
  too_long : 3276800 < length source → Refused 4 0 t → ReasonText kind load source t
  told : {w : DkReason} → length source ≤ 3276800 → DkReasonSays kind load source [] (w, [])
      → Line (ascii "reason") (w.reason ∷ w.line ∷ w.first ∷ w.second ∷ []) t → ReasonText kind load source t

-- ---- `prog_convert`: form 1 is asked for, or else form 2, which says the form of the file; with room for the longest file and a byte more, whatever it holds
pub data ConvertText (asked : ℕ) (file t : List ℕ) : Type 0 where
  converts : {f : Form} → ((asked ≡ 1) × (f ≡ form-2)) ⊎ (Not (asked ≡ 1) × (f ≡ form-1))
      → ((old : List ℕ) → length old ≡ 65537 → (y : convert.Outcome) × ConvertSays f file old y × Prints y.answer y.out t)
      → ConvertText asked file t

-- ---- `prog_rehex`. The bytes and blocks that were read, from the same load address on
abbrev pub taken : ℕ → read.Outcome → Given
taken load y =
    record { image = y.lent.bytes; offsets = take y.answer.count y.lent.offsets; sizes = take y.answer.count y.lent.sizes; load = load }

-- "the first line at which no good file can go on, from 0", where the file is bad
pub data Fault (f : DkFault) : List ℕ → Type 0 where
  none : f.fault ≡ 0 → Fault f []
  at-line : {t : List ℕ} → f.fault ≡ 1 → Line (ascii "line") (f.line ∷ []) t → Fault f t

-- The refusal of the file and its line at fault; or what is said of its bytes when they are written: format 0 writes Intel HEX, every other S-records of that
-- width
pub data Turns (format load : ℕ) (f : DkFault) (out : List ℕ) (y : read.Outcome) : List ℕ → Type 0 where
  unread : {t u : List ℕ} → 0 < y.answer.refusal → Refused y.answer.refusal y.answer.place t → Fault f u → Turns format load f out y (t ++ u)
  written : {z : write.Outcome} {t : List ℕ} → y.answer.refusal ≡ 0
      → ((format ≡ 0) × HexSays (taken load y) out z) ⊎ (Not (format ≡ 0) × SrecSays (taken load y) out format z)
      → Prints z.answer z.text t → Turns format load f out y t

-- kind 0 reads Intel HEX, every other S-records; the room that is lent, whatever it holds, is 1,048,576 bytes, 4,096 blocks and 3,145,728 characters
pub data RehexText (kind format load : ℕ) (source t : List ℕ) : Type 0 where
  too_long : 3276800 < length source → Refused 4 0 t → RehexText kind format load source t
  turns : {k : ℕ} {f : DkFault} → length source ≤ 3276800 → ((kind ≡ 0) × (k ≡ 0)) ⊎ (Not (kind ≡ 0) × (k ≡ 1)) → FaultSays k load source [] (f, [])
      → ((old : Lent) (out : List ℕ) → (length old.bytes ≡ 1048576) × ((i : ℕ) → get_or old.bytes i 0 < 256)
      → (length old.offsets ≡ 4096) × (length old.sizes ≡ 4096) → length out ≡ 3145728
      → (y : read.Outcome) × ReadSays k load source old y × Turns format load f out y t)
      → RehexText kind format load source t
