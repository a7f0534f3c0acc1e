-- What `dk_record_reason` says, from document 02, Tickets 1 and 12, in the words of `dk_record_fault`.
use Rattle.std.specs.Prelude.{◌≡◌, List, [], ◌∷◌, ◌++◌, ◌⊎◌, ℕ, suc, ◌+◌, ◌*◌, ◌-◌, ◌≤◌, ◌<◌, ◌%◌, length, get_or, take, drop}
use Rattle.record_lines.specs.Pieces.{Piece}
use Rattle.c_answers.specs.declared.DkReason.{DkReason}
use Rattle.says.specs.Words.{Tries, First, FirstPair, At, Not}
use Rattle.says.specs.Records.{either, Lines, Digit, Spells, total, Hex, Srec, Width}

-- Nothing is refused here: format 0 is Intel HEX, and every other number is taken for S-records (docs/DECISIONS.md)
module _ (format : ℕ) where
  -- ---- one line after the other. In force is the upper half of addresses; in S-records the width of those before, 0 where there are none. A data line: its
  -- piece, what is in force behind it, and the first address that doesn't fit
  pub data DataLine (s : ℕ) (l : List ℕ) : (after top : ℕ) → Piece → Type 0 where
    hex : {field : ℕ} {p : Piece} → format ≡ 0 → Hex either l 0 field p.bytes → p.address ≡ 65536 * s + field → DataLine s l s 4294967296 p
    s-record : {d e w m : ℕ} {p : Piece} → Not (format ≡ 0) → Width d e w m → (s ≡ 0) ⊎ (s ≡ w) → Srec either l d w p.address p.bytes → DataLine s l w m p

  -- A line that is bad gives none: an S-record whose last address doesn't fit its width is one, an Intel HEX record is not bad by that alone
  pub data LineGives (s : ℕ) (l : List ℕ) : (after : ℕ) → Piece → Type 0 where
    line_gives : {after top : ℕ} {p : Piece} → DataLine s l after top p → (format ≡ 0) ⊎ (p.address + length p.bytes ≤ top) → LineGives s l after p

  -- what is in force behind a line: bad ones leave the upper half or the width in force as it is, and so do all others
  pub data After (s : ℕ) (l : List ℕ) : ℕ → Type 0 where
    gave : {after : ℕ} {p : Piece} → LineGives s l after p → After s l after
    upper-half : {a b : ℕ} → format ≡ 0 → Hex either l 4 0 (a ∷ b ∷ []) → After s l (256 * a + b)
    neither : ((after : ℕ) (p : Piece) → Not (LineGives s l after p)) → ((a b : ℕ) → format ≡ 0 → Not (Hex either l 4 0 (a ∷ b ∷ []))) → After s l s

  -- line k of some, from 0, where s is in force at the first: what is in force there, and its characters
  pub data LineAt : (s : ℕ) (ls : List (List ℕ)) (k at : ℕ) (l : List ℕ) → Type 0 where
    here : {s : ℕ} {l : List ℕ} {ls : List (List ℕ)} → LineAt s (l ∷ ls) 0 s l
    later : {s t k at : ℕ} {m l : List ℕ} {ls : List (List ℕ)} → After s m t → LineAt t ls k at l → LineAt s (m ∷ ls) (suc k) at l

  -- Line k of a file gives a byte to address a.
  pub data GivesTo (ls : List (List ℕ)) (k a : ℕ) : Type 0 where
    gives_to : {s t : ℕ} {l : List ℕ} {p : Piece} → LineAt 0 ls k s l → LineGives s l t p → p.address ≤ a → a < p.address + length p.bytes → GivesTo ls k a

  -- ---- how a line is spelled. Its first character (a colon, or S in either letter case), the characters before the digits, those of a line whose count is 0,
  -- and the least count
  pub data Spelling : (capital small from bare least : ℕ) → Type 0 where
    hex : format ≡ 0 → Spelling 58 58 1 11 0
    s-records : Not (format ≡ 0) → Spelling 83 115 2 4 3

  -- "Bytes of a record, checksum included, sum to zero and wrap at 256"; "the ones' complement of the low byte of the sum"
  pub data Checksum (bytes : List ℕ) (c : ℕ) : Type 0 where
    hex : format ≡ 0 → c < 256 → (total bytes + c) % 256 ≡ 0 → Checksum bytes c
    s-record : Not (format ≡ 0) → c ≡ 255 - total bytes % 256 → Checksum bytes c

  module _ (l : List ℕ) where
    pub data EndRecord : Type 0 where
      hex : format ≡ 0 → Hex either l 1 0 [] → EndRecord
      s-record : {d e w top address : ℕ} → Not (format ≡ 0) → Width d e w top → Srec either l e w address [] → EndRecord

    module _ (from : ℕ) where
      abbrev pub Count : ℕ → Type 0
      Count c = Spells either (take 2 (drop from l)) (c ∷ [])

      -- the characters "that its count asks for; the shortest record's where it has no count"
      pub data Long (bare least m : ℕ) : Type 0 where
        counted : {c : ℕ} → Count c → m ≡ bare + 2 * c → Long bare least m
        shortest : length l < from + 2 → m ≡ bare + 2 * least → Long bare least m

    -- ---- what its type asks for: "types 00, 01 and 04", "S0, S1, S3, S7 and S9"; in S-records the type is the second character
    pub data OtherType (t : ℕ) : Type 0 where
      hex : {f : ℕ} {b : List ℕ} → format ≡ 0 → Hex either l t f b → Not (t ≡ 0) → Not (t ≡ 1) → Not (t ≡ 4) → OtherType t
      s-record : Not (format ≡ 0) → At l 1 t → Not (t ≡ 48) → Not (t ≡ 49) → Not (t ≡ 51) → Not (t ≡ 55) → Not (t ≡ 57) → OtherType t

    -- there is one width in a file, and the end record has the same
    pub data OtherWidth (s w : ℕ) : Type 0 where
      other_width : {d e top t : ℕ} → Not (format ≡ 0) → Width d e w top → At l 1 t → (t ≡ d) ⊎ (t ≡ e) → Not (s ≡ 0) → Not (s ≡ w) → OtherWidth s w

    -- the count, and what it should be (one below 3 in S-records is told before): "0 in type 01, 2 in type 04"; "3 in S9, 5 in S7, at least 5 in S3"
    pub data OtherCount (c m : ℕ) : Type 0 where
      hex : {t f : ℕ} {b : List ℕ} → format ≡ 0 → Hex either l t f b → ((t ≡ 1) × (m ≡ 0)) ⊎ ((t ≡ 4) × (m ≡ 2)) → c ≡ length b → Not (c ≡ m) → OtherCount c m
      s-record : {d e w top : ℕ} → Not (format ≡ 0) → Width d e w top → Count 2 c → m ≡ w + 1 → (At l 1 d × (c < m)) ⊎ (At l 1 e × Not (c ≡ m)) → OtherCount c m

    -- ---- its bytes: the address of the last, and the last that there is
    pub data Past (s : ℕ) : (last greatest : ℕ) → Type 0 where
      past : {t top : ℕ} {p : Piece} → DataLine s l t top p → top < p.address + length p.bytes → Past s (p.address + length p.bytes - 1) (top - 1)

    -- "the address of the line's first byte, and the lowest that a line of the file gives a byte at"
    pub data Below (load : ℕ) (ls : List (List ℕ)) (s : ℕ) : (first lowest : ℕ) → Type 0 where
      below : {after lowest : ℕ} {p : Piece} → LineGives s l after p → 0 < length p.bytes → p.address < load
          → First (λ (a : ℕ). (k : ℕ) × GivesTo ls k a) lowest → Below load ls s p.address lowest

  -- ---- a line by its number, from 0, and the first reason in this order
  module _ (load : ℕ) (ls : List (List ℕ)) (n : ℕ) where
    abbrev pub why : ℕ → ℕ → ℕ → DkReason
    why reason first second = record { reason = reason; line = n; first = first; second = second }

    -- "the first line that gives one of this line's, from 0, and the lowest address that both give"
    pub data Twice : DkReason → Type 0 where
      twice : {i a : ℕ} → FirstPair (λ (k x : ℕ). (k < n) × GivesTo ls k x × GivesTo ls n x) i a → Twice (why 11 i a)

    -- the line before is an end record
    abbrev pub Ended : Type 0
    Ended = (m : ℕ) × (l : List ℕ) × (n ≡ suc m) × At ls m l × EndRecord l

    -- "a line behind the end record"; "the text ends without an end record: `line` is the number of its lines"; and the reasons of a line by itself, in this
    -- order: its first character, a character that should be a digit, length, a count below 3 in S-records, "the checksum: what it is, and what it should be",
    -- type, width, count, address field (0000 in types 01 and 04), past the last address, below the load address, given twice
    pub data FaultLine : DkReason → Type 0 where
      behind : n < length ls → Ended → FaultLine (why 12 0 0)
      no_end : n ≡ length ls → Not Ended → FaultLine (why 13 0 0)
      line : {s capital small from bare least : ℕ} {l : List ℕ} {y : DkReason} → Not Ended → LineAt 0 ls n s l → Spelling capital small from bare least
          → Tries (λ (_ : Unit {0}). Not (At l 0 capital ⊎ At l 0 small)) (λ _. why 1 0 0)
          (Tries (First (λ (k : ℕ). (from ≤ k) × (k < length l) × ((v : ℕ) → Not (Digit either (get_or l k 0) v)))) (λ k. why 2 k (get_or l k 0))
          (Tries (λ (m : ℕ). Long l from bare least m × Not (length l ≡ m)) (λ m. why 3 (length l) m)
          (Tries (λ (c : ℕ). Count l from c × (c < least)) (λ c. why 4 c least)
          (Tries (λ (x : ℕ × ℕ). (b : List ℕ) × Spells either (drop from l) (b ++ x.0 ∷ []) × Checksum b x.1 × Not (x.0 ≡ x.1)) (λ x. why 5 x.0 x.1)
          (Tries (OtherType l) (λ t. why 6 t 0)
          (Tries (OtherWidth l s) (λ w. why 7 w s)
          (Tries (λ (x : ℕ × ℕ). OtherCount l x.0 x.1) (λ x. why 4 x.0 x.1)
          (Tries (λ (f : ℕ). (t : ℕ) × (b : List ℕ) × (format ≡ 0) × Hex either l t f b × ((t ≡ 1) ⊎ (t ≡ 4)) × Not (f ≡ 0)) (λ f. why 8 f 0)
          (Tries (λ (x : ℕ × ℕ). Past l s x.0 x.1) (λ x. why 9 x.0 x.1)
          (Tries (λ (x : ℕ × ℕ). Below l load ls s x.0 x.1) (λ x. why 10 x.0 x.1)
          Twice)))))))))) y → FaultLine y

  module _ (load : ℕ) (text scratch : List ℕ) where
    -- the first line that has a reason is told; beside the answer stands the lent scratch afterwards: the call "leaves it as it was" (include/denkumari.h)
    pub data DkReasonSays : DkReason × List ℕ → Type 0 where
      none : {ls : List (List ℕ)} → Lines text ls → ((n : ℕ) (y : DkReason) → Not (FaultLine load ls n y)) → DkReasonSays (why load ls 0 0 0 0, scratch)
      first : {n : ℕ} {ls : List (List ℕ)} {y : DkReason} → Lines text ls → First (λ (k : ℕ). (z : DkReason) × FaultLine load ls k z) n → FaultLine load ls n y
          → DkReasonSays (y, scratch)
