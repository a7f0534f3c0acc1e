-- What `prog_overlay`, the program behind tools/bench, prints for the bytes of two Intel HEX files, the released image's and the overlay's, from document 02,
-- Ticket 4, and docs/DECISIONS.md ("On the bench"): what `dk_read_records` and `dk_record_fault` say of the files (Read), and of their images the runs and the
-- ranges that the calls of the bench tell (Overlay), in text.
use Rattle.std.specs.Prelude.{◌≡◌, Bool, true, false, List, [], ◌∷◌, ◌++◌, ℕ, ◌+◌, ◌*◌, ◌-◌, ◌/◌, ◌≤◌, ◌<◌, length, get_or, take, drop}
use Rattle.print_text.specs.Ascii.{ascii}
use Rattle.c_answers.specs.declared.DkFault.{DkFault}
use Rattle.says.specs.Words.{Not, First}
use Rattle.says.specs.Hex.{Text}
use Rattle.says.specs.Overlay.{AllCovered, NoneCovered, Runs}
use Rattle.says.specs.Read.{Lent, Outcome, ReadSays, FaultSays}
use Rattle.says.specs.Lines.{Spaced, Line}
use Rattle.says.specs.Texts.{Refused, Fault}

-- ---- a file that was read: its blocks, in bits counted from the load address, and its image, "from the load address to the end of its last block"
pub record File : Type 0 where
  pub image : List ℕ
  pub offsets : List ℕ
  pub sizes : List ℕ

abbrev pub file_in : List ℕ → List ℕ → List ℕ → File
file_in bytes os ss = record { image = take (get_or os (length os - 1) 0 / 8 + get_or ss (length os - 1) 0 / 8) bytes; offsets = os; sizes = ss }

abbrev pub file : Outcome → File
file y = file_in y.lent.bytes (take y.answer.count y.lent.offsets) (take y.answer.count y.lent.sizes)

-- it gives byte b, counted from the load address: the byte is in one of its blocks
abbrev pub Gives : File → ℕ → Type 0
Gives f b = (i : ℕ) × (i < length f.offsets) × (get_or f.offsets i 0 ≤ 8 * b) × (8 * b < get_or f.offsets i 0 + get_or f.sizes i 0)

-- `count` bytes of an image from byte `first` on, each by two digits in hex, behind a space
pub data Digits (image : List ℕ) (first count : ℕ) : List ℕ → Type 0 where
  digits : {d : List ℕ} → Text (take count (drop first image)) (8 * length (take count (drop first image))) d → Digits image first count (ascii " " ++ d)

module _ (load : ℕ) (released overlay : File) where
  -- ---- every run: its address, its count of bytes, and its bytes, those of the released image first
  pub data RunLines : (firsts counts : List ℕ) → List ℕ → Type 0 where
    none : RunLines [] [] []
    run : {f n : ℕ} {fs ns l a b t : List ℕ} → Spaced ((load + f) ∷ n ∷ []) l → Digits released.image f n a → Digits overlay.image f n b
        → RunLines fs ns t → RunLines (f ∷ fs) (n ∷ ns) (ascii "run" ++ l ++ a ++ b ++ ascii "\n" ++ t)

  -- "Of bytes that only the overlay gives the first is told (`alone ADDRESS`)."
  pub data Alone : List ℕ → Type 0 where
    none : ((b : ℕ) → Gives overlay b → Gives released b) → Alone []
    first : {b : ℕ} {t : List ℕ} → First (λ c. Gives overlay c × Not (Gives released c)) b → Line (ascii "alone") ((load + b) ∷ []) t → Alone t

  -- last how many runs there are; "14 for a short list", place 2, past 65,536 of them
  pub data ListText : List ℕ → Type 0 where
    short : {fs ns t : List ℕ} → Runs overlay.image released.image overlay.offsets overlay.sizes 0 fs ns → 65536 < length fs → Refused 14 2 t
        → ListText t
    listed : {fs ns t u v : List ℕ} → Runs overlay.image released.image overlay.offsets overlay.sizes 0 fs ns → length fs ≤ 65536
        → RunLines fs ns t → Alone u → Line (ascii "runs") (length fs ∷ []) v → ListText (t ++ u ++ v)

  -- ---- a range, `count` bytes from byte `first` on. "A refused range names the file and the first address that it does not give."
  module _ (first count : ℕ) where
    pub data Named (f : File) (name : List ℕ) (n : ℕ) : List ℕ → Type 0 where
      named : {b : ℕ} {t u : List ℕ} → First (λ c. (first ≤ c) × Not (Gives f c)) b → Refused n 0 t → Line name ((load + b) ∷ []) u → Named f name n (t ++ u)

    -- "every byte of the range is covered"; "no bit of it is"
    abbrev pub Whole : Type 0
    Whole = AllCovered overlay.image released.image overlay.offsets overlay.sizes first count

    abbrev pub Free : Type 0
    Free = NoneCovered overlay.image released.image overlay.offsets overlay.sizes first count

    -- in both images: "that part of the overlay"; "that part of the released image", which "is answered only where the released file gives all of the range,
    -- else 16"; "17 (new) for a range partly covered"
    pub data Tells : List ℕ → Type 0 where
      of-overlay : {t : List ℕ} → Whole → Digits overlay.image first count t → Tells (ascii "overlay" ++ t ++ ascii "\n")
      of-released : {t : List ℕ} → Free → ((b : ℕ) → first ≤ b → b < first + count → Gives released b) → Digits released.image first count t
          → Tells (ascii "released" ++ t ++ ascii "\n")
      gap : {b : ℕ} {t : List ℕ} → Free → first ≤ b → b < first + count → Not (Gives released b) → Named released (ascii "released") 16 t → Tells t
      partly : {t : List ℕ} → Not Whole → Not Free → Named overlay (ascii "overlay") 17 t → Tells t

    -- "16 for a range that is empty or outside either image"
    pub data Answers : List ℕ → Type 0 where
      past-released : {t : List ℕ} → length released.image < first + count → Named released (ascii "released") 16 t → Answers t
      past-overlay : {t : List ℕ} → first + count ≤ length released.image → length overlay.image < first + count
          → Named overlay (ascii "overlay") 16 t → Answers t
      inside : {t : List ℕ} → first + count ≤ length released.image → first + count ≤ length overlay.image → Tells t → Answers t

  -- by its address: an empty one names no file; the load address is the lowest at which a file may give a byte
  pub data RangeText (address count : ℕ) : List ℕ → Type 0 where
    empty : {t : List ℕ} → count ≡ 0 → Refused 16 0 t → RangeText address count t
    below : {t u : List ℕ} → 0 < count → address < load → Refused 16 0 t → Line (ascii "released") (address ∷ []) u → RangeText address count (t ++ u)
    range : {t : List ℕ} → 0 < count → load ≤ address → Answers (address - load) count t → RangeText address count t

-- ---- the two files, the longest of 1,048,576 bytes
module _ (load : ℕ) (source : List ℕ) (old : Lent) where
  pub data Reads (y : Outcome) : Type 0 where
    reads : length source ≤ 1048576 → ReadSays 0 load source old y → y.answer.refusal ≡ 0 → Reads y

  -- the refusal, which file it is, and its line at fault, where there is one
  pub data Unread (name : List ℕ) : List ℕ → Type 0 where
    too_long : {t : List ℕ} → 1048576 < length source → Refused 4 0 t → Unread name (t ++ name)
    turned : {y : Outcome} {f : DkFault} {t u : List ℕ} → length source ≤ 1048576 → ReadSays 0 load source old y → 0 < y.answer.refusal
        → FaultSays 0 load source [] (f, []) → Refused y.answer.refusal y.answer.place t → Fault f u → Unread name (t ++ name ++ u)

-- "A byte that a file does not give is not shown: the released file is read into a copy of the overlay's bytes, so that in its gaps the two agree"
abbrev pub copy : Outcome → Lent → Lent
copy y old = record { bytes = y.lent.bytes; offsets = old.offsets; sizes = old.sizes; scratch = old.scratch }

-- Every run is asked for, or else a range by its address and its count of bytes. "The overlay is read first, and named where both are bad."
module _ (load : ℕ) (all : Bool) (address n : ℕ) (released overlay : List ℕ) where
  pub data Bench (old : Lent) (t : List ℕ) : Type 0 where
    bad-overlay : Unread load overlay old (ascii "overlay\n") t → Bench old t
    bad-released : {y : Outcome} → Reads load overlay old y → Unread load released (copy y old) (ascii "released\n") t → Bench old t
    runs : {y z : Outcome} → Reads load overlay old y → Reads load released (copy y old) z → all ≡ true → ListText load (file z) (file y) t → Bench old t
    ranges : {y z : Outcome} → Reads load overlay old y → Reads load released (copy y old) z → all ≡ false → RangeText load (file z) (file y) address n t
        → Bench old t

  -- with room for 524,288 bytes and 4,096 blocks of a file, whatever it holds
  abbrev pub BenchSays : List ℕ → Type 0
  BenchSays t = (old : Lent) → length old.bytes ≡ 524288 → length old.offsets ≡ 4096 → length old.sizes ≡ 4096 → Bench old t
