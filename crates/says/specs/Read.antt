-- What `dk_read_records` and `dk_record_fault` say, from document 02, Tickets 1 and 12.
use Rattle.std.specs.Prelude.{◌≡◌, List, [], ◌∷◌, ◌⊎◌, ℕ, suc, ◌+◌, ◌*◌, ◌-◌, ◌≤◌, ◌<◌, length, get_or, take}
use Rattle.record_lines.specs.Pieces.{Piece}
use Rattle.c_answers.specs.declared.DkCount.{DkCount}
use Rattle.c_answers.specs.declared.DkFault.{DkFault}
use Rattle.says.specs.Words.{Tries, At, Begins, Not}
use Rattle.says.specs.Records.{either, Lines, Hex, Srec, Width}

-- ---- what a file's lines say: pieces, each an address and the bytes from there on. "types 00, 01 and 04", over the upper half in force; the end
-- record is the last line, and there is no other
pub data HexLines : (in-force : ℕ) → List (List ℕ) → List Piece → Type 0 where
  end : {u : ℕ} {l : List ℕ} → Hex either l 1 0 [] → HexLines u (l ∷ []) []
  piece : {u field : ℕ} {l : List ℕ} {ls : List (List ℕ)} {p : Piece} {ps : List Piece} → Hex either l 0 field p.bytes
      → p.address ≡ 65536 * u + field → HexLines u ls ps → HexLines u (l ∷ ls) (p ∷ ps)
  upper-half : {u a b : ℕ} {l : List ℕ} {ls : List (List ℕ)} {ps : List Piece} → Hex either l 4 0 (a ∷ b ∷ []) → HexLines (256 * a + b) ls ps
      → HexLines u (l ∷ ls) ps

-- S-records of one width; the end record has any address. "A header record S0 is read and skipped."
pub data SrecLines (data-digit end-digit width : ℕ) : List (List ℕ) → List Piece → Type 0 where
  end : {address : ℕ} {l : List ℕ} → Srec either l end-digit width address [] → SrecLines data-digit end-digit width (l ∷ []) []
  piece : {l : List ℕ} {ls : List (List ℕ)} {p : Piece} {ps : List Piece} → Srec either l data-digit width p.address p.bytes
      → SrecLines data-digit end-digit width ls ps → SrecLines data-digit end-digit width (l ∷ ls) (p ∷ ps)
  header : {address : ℕ} {l bytes : List ℕ} {ls : List (List ℕ)} {ps : List Piece} → Srec either l 48 2 address bytes
      → SrecLines data-digit end-digit width ls ps → SrecLines data-digit end-digit width (l ∷ ls) ps

-- Piece number i gives byte b to address a.
pub data Gives (ps : List Piece) (i a b : ℕ) : Type 0 where
  gives : {p : Piece} {k : ℕ} → At ps i p → k < length p.bytes → a ≡ p.address + k → b ≡ get_or p.bytes k 0 → Gives ps i a b

abbrev pub GivenTo : List Piece → ℕ → Type 0
GivenTo ps a = (i : ℕ) × (b : ℕ) × Gives ps i a b

-- what is lent: before the call, and after it. The scratch is for its speed alone, and stays as it is
pub record Lent : Type 0 where
  pub bytes : List ℕ
  pub offsets : List ℕ
  pub sizes : List ℕ
  pub scratch : List ℕ

pub record Outcome : Type 0 where
  pub answer : DkCount
  pub lent : Lent

module _ (format load : ℕ) where
  -- Format 0 is Intel HEX, 1 is S-records, of either width; there is no other. `top`: the first address that doesn't fit
  pub data Says (text : List ℕ) : (top : ℕ) → List Piece → Type 0 where
    hex : {ls : List (List ℕ)} {ps : List Piece} → format ≡ 0 → Lines text ls → HexLines 0 ls ps → Says text 4294967296 ps
    s-records : {ls : List (List ℕ)} {ps : List Piece} {d e width top : ℕ} → format ≡ 1 → Width d e width top → Lines text ls → SrecLines d e width ls ps
        → Says text top ps

  -- "a byte given twice or below the load address is a bad file"; so is an address past the last that fits
  pub data Good (text : List ℕ) (ps : List Piece) : Type 0 where
    good : {top : ℕ} → Says text top ps → ((i a b : ℕ) → Gives ps i a b → (load ≤ a) × (a < top))
        → ((i j a b c : ℕ) → Gives ps i a b → Gives ps j a c → i ≡ j) → Good text ps

  module _ (text : List ℕ) where
    -- ---- the first line at which no good file can go on, from 0 (docs/DECISIONS.md): some good file has the same n first lines (where a text has
    -- ended, it has no line). In a format that is neither no file is good: the fault is at line 0
    pub data GoesOn (n : ℕ) : Type 0 where
      goes_on : {other : List ℕ} {ps : List Piece} {ls ms : List (List ℕ)} → Good other ps → Lines text ls → Lines other ms → take n ms ≡ take n ls → GoesOn n

    -- the answer, and beside it the lent scratch afterwards: the call "leaves it as it was" (include/denkumari.h)
    pub data FaultSays (scratch : List ℕ) : DkFault × List ℕ → Type 0 where
      none : {ps : List Piece} → Good text ps → FaultSays scratch (record { fault = 0; line = 0 }, scratch)
      at : {i : ℕ} → GoesOn i → Not (GoesOn (suc i)) → FaultSays scratch (record { fault = 1; line = i }, scratch)
      no-format : Not (format ≡ 0) → Not (format ≡ 1) → FaultSays scratch (record { fault = 1; line = 0 }, scratch)

    -- ---- blocks read: a run of given bytes that ends at both sides, in bits "counted from that address"
    pub data Block (ps : List Piece) (o s : ℕ) : Type 0 where
      block : {first count : ℕ} → 0 < count → ((k : ℕ) → k < count → GivenTo ps (first + k)) → Not (GivenTo ps (first + count))
          → ((a : ℕ) → suc a ≡ first → Not (GivenTo ps a)) → o ≡ 8 * (first - load) → s ≡ 8 * count → Block ps o s

    -- all of them, ascending
    pub record Blocks (ps : List Piece) (offsets sizes : List ℕ) : Type 0 where
      pub as_many : length offsets ≡ length sizes
      pub each : (i : ℕ) → i < length offsets → Block ps (get_or offsets i 0) (get_or sizes i 0)
      pub every : (o s : ℕ) → Block ps o s → (i : ℕ) × (i < length offsets) × (get_or offsets i 0 ≡ o)
      pub rising : (i j : ℕ) → i < j → j < length offsets → get_or offsets i 0 < get_or offsets j 0

    -- ---- with what is lent
    module _ (old : Lent) where
      abbrev pub refusal : ℕ → ℕ → Outcome
      refusal number place = record { answer = record { refusal = number; place = place; count = 0 }; lent = old }

      -- the byte at address a goes to place a - load; every other lent byte, gaps too, keeps its contents (docs/DECISIONS.md)
      pub record Filled (ps : List Piece) (bytes : List ℕ) : Type 0 where
        pub as_long : length bytes ≡ length old.bytes
        pub given : (i a b : ℕ) → Gives ps i a b → get_or bytes (a - load) 0 ≡ b
        pub kept : (x : ℕ) → Not (GivenTo ps (load + x)) → get_or bytes x 0 ≡ get_or old.bytes x 0

      pub data Accepts (ps : List Piece) (offsets sizes : List ℕ) : Outcome → Type 0 where
        accepts : {bytes os ss : List ℕ} → Filled ps bytes → Begins offsets old.offsets os → Begins sizes old.sizes ss
            → Accepts ps offsets sizes (record {
              answer = record { refusal = 0; place = 0; count = length offsets };
              lent = record { bytes = bytes; offsets = os; sizes = ss; scratch = old.scratch };
            })

      -- "4 for .. a bad file, then 14": bytes (place 0), then blocks (place 2)
      pub data ReadSays : Outcome → Type 0 where
        bad : ((ps : List Piece) → Not (Good text ps)) → ReadSays (refusal 4 0)
        read : {ps : List Piece} {offsets sizes : List ℕ} {y : Outcome} → Good text ps → Blocks ps offsets sizes
            → Tries (λ (a : ℕ). GivenTo ps a × (length old.bytes ≤ a - load)) (λ _. refusal 14 0)
            (Tries (λ (_ : Unit {0}). (length old.offsets < length offsets) ⊎ (length old.sizes < length offsets)) (λ _. refusal 14 2)
            (Accepts ps offsets sizes)) y → ReadSays y
