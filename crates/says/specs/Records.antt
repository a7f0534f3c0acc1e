-- The words of the calls about records, from document 02, Tickets 1 and 12: lines, digits, an Intel HEX record, an S-record. Characters are their ASCII
-- codes: LF 10, CR 13, colon 58, S 83 and s 115, digits from 48 on, letters from 65 (A) and 97 (a) on.
use Rattle.std.specs.Prelude.{◌≡◌, List, [], ◌∷◌, ◌++◌, ◌⊎◌, ℕ, ◌+◌, ◌*◌, ◌-◌, ◌<◌, ◌%◌, length}
use Rattle.says.specs.Words.{Not}

-- A line ends at LF, CR LF or the end of the text, each line by itself (docs/DECISIONS.md). A CR with no LF behind it is a character of its line, and behind
-- the last LF no line begins.
pub data Lines : (text : List ℕ) (lines : List (List ℕ)) → Type 0 where
  none : Lines [] []
  lf : {c : ℕ} {t : List ℕ} {lines : List (List ℕ)} → c ≡ 10 → Lines t lines → Lines (c ∷ t) ([] ∷ lines)
  cr-lf : {c d : ℕ} {t : List ℕ} {lines : List (List ℕ)} → c ≡ 13 → d ≡ 10 → Lines t lines → Lines (c ∷ d ∷ t) ([] ∷ lines)
  last : {c : ℕ} → Not (c ≡ 10) → Lines (c ∷ []) ((c ∷ []) ∷ [])
  more : {c d : ℕ} {t l : List ℕ} {lines : List (List ℕ)} → Not (c ≡ 10) → Not ((c ≡ 13) × (d ≡ 10)) → Lines (d ∷ t) (l ∷ lines)
      → Lines (c ∷ d ∷ t) ((c ∷ l) ∷ lines)

-- "upper case" written; "Reading takes either letter case"
pub data Case : Type 0 where
  upper : Case
  either : Case

pub data Digit (k : Case) (c value : ℕ) : Type 0 where
  figure : value < 10 → c ≡ 48 + value → Digit k c value
  letter : {i : ℕ} → i < 6 → (c ≡ 65 + i) ⊎ ((k ≡ either) × (c ≡ 97 + i)) → value ≡ 10 + i → Digit k c value

-- Each byte by two digits, the higher first.
pub data Spells (k : Case) : (text bytes : List ℕ) → Type 0 where
  none : Spells k [] []
  byte : {c d h l b : ℕ} {t bytes : List ℕ} → Digit k c h → Digit k d l → b ≡ 16 * h + l → Spells k t bytes → Spells k (c ∷ d ∷ t) (b ∷ bytes)

-- Bytes added up.
unfoldable pub total : List ℕ → ℕ
total [] = 0
total (b ∷ bytes) = b + total bytes

-- An Intel HEX record: a colon, then count, address field, type, data and checksum. "Bytes of a record, checksum included, sum to zero and wrap at 256."
pub record Hex (k : Case) (line : List ℕ) (type field : ℕ) (bytes : List ℕ) : Type 0 where
  pub digits : List ℕ
  pub high : ℕ
  pub low : ℕ
  pub check : ℕ
  pub colon : line ≡ 58 ∷ digits
  pub spelled : Spells k digits (length bytes ∷ high ∷ low ∷ type ∷ bytes ++ check ∷ [])
  pub address : field ≡ 256 * high + low
  pub sum : total (length bytes ∷ high ∷ low ∷ type ∷ bytes ++ check ∷ []) % 256 ≡ 0

-- An address of two or four bytes, the highest first.
pub data Number (width : ℕ) : List ℕ → ℕ → Type 0 where
  two : {a b n : ℕ} → width ≡ 2 → n ≡ 256 * a + b → Number width (a ∷ b ∷ []) n
  four : {a b c d n : ℕ} → width ≡ 4 → n ≡ 16777216 * a + 65536 * b + 256 * c + d → Number width (a ∷ b ∷ c ∷ d ∷ []) n

-- An S-record: S and its kind's digit, then count (of what follows it), address, data and checksum. "The checksum is the ones' complement of the low byte of
-- the sum of count, address and data bytes."
pub record Srec (k : Case) (line : List ℕ) (kind width address : ℕ) (bytes : List ℕ) : Type 0 where
  pub s : ℕ
  pub digits : List ℕ
  pub count : ℕ
  pub field : List ℕ
  pub check : ℕ
  pub front : line ≡ s ∷ kind ∷ digits
  pub letter : (s ≡ 83) ⊎ ((k ≡ either) × (s ≡ 115))
  pub spelled : Spells k digits (count ∷ field ++ (bytes ++ check ∷ []))
  pub counts : count ≡ width + length bytes + 1
  pub number : Number width field address
  pub sum : check ≡ 255 - total (count ∷ field ++ bytes) % 256

-- "S1 with S9, and S3 with S7": the data record's digit, the end record's, the address's bytes, and the first address that doesn't fit.
pub data Width (data-digit end-digit width top : ℕ) : Type 0 where
  two : data-digit ≡ 49 → end-digit ≡ 57 → width ≡ 2 → top ≡ 65536 → Width data-digit end-digit width top
  four : data-digit ≡ 51 → end-digit ≡ 55 → width ≡ 4 → top ≡ 4294967296 → Width data-digit end-digit width top
