-- What `dk_write_hex` and `dk_write_srec` say, from document 02, Tickets 1 and 12.
use Rattle.std.specs.Prelude.{◌≡◌, List, [], ◌∷◌, ◌++◌, ◌⊎◌, ℕ, suc, ◌+◌, ◌*◌, ◌≤◌, ◌<◌, ◌/◌, ◌%◌, length, get_or, take, drop}
use Rattle.record_lines.specs.Pieces.{Piece}
use Rattle.c_answers.specs.declared.DkCount.{DkCount}
use Rattle.says.specs.Words.{Tries, Begins, Not}
use Rattle.says.specs.Records.{upper, Hex, Srec, Width}

pub record Given : Type 0 where
  pub image : List ℕ
  pub offsets : List ℕ
  pub sizes : List ℕ
  pub load : ℕ

pub record Outcome : Type 0 where
  pub answer : DkCount
  pub text : List ℕ

-- ---- Intel HEX: "a type 04 record when the upper half differs from that in force (0 at first), and an end record; upper case, LF ends". The text of some
-- pieces while an upper half is in force.
pub data HexText : (in-force : ℕ) → List Piece → (text : List ℕ) → Type 0 where
  end : {u : ℕ} {l : List ℕ} → Hex upper l 1 0 [] → HexText u [] (l ++ (10 ∷ []))
  same : {u field : ℕ} {l t : List ℕ} {p : Piece} {ps : List Piece} → p.address ≡ 65536 * u + field → Hex upper l 0 field p.bytes
      → HexText u ps t → HexText u (p ∷ ps) (l ++ (10 ∷ t))
  differs : {u v a b field : ℕ} {l m t : List ℕ} {p : Piece} {ps : List Piece} → p.address ≡ 65536 * v + field → Not (v ≡ u)
      → v ≡ 256 * a + b → Hex upper l 4 0 (a ∷ b ∷ []) → Hex upper m 0 field p.bytes
      → HexText v ps t → HexText u (p ∷ ps) (l ++ (10 ∷ m ++ (10 ∷ t)))

-- ---- S-records: "from the same blocks, cut as in Ticket 1, end address 0"
pub data SrecText (data-digit end-digit width : ℕ) : List Piece → (text : List ℕ) → Type 0 where
  end : {l : List ℕ} → Srec upper l end-digit width 0 [] → SrecText data-digit end-digit width [] (l ++ (10 ∷ []))
  next : {l t : List ℕ} {p : Piece} {ps : List Piece} → Srec upper l data-digit width p.address p.bytes → SrecText data-digit end-digit width ps t
      → SrecText data-digit end-digit width (p ∷ ps) (l ++ (10 ∷ t))

module _ (g : Given) where
  -- block i: its first bit and how many
  abbrev pub BlockAt : ℕ → ℕ → ℕ → Type 0
  BlockAt i o s = (i < length g.offsets) × (i < length g.sizes) × (o ≡ get_or g.offsets i 0) × (s ≡ get_or g.sizes i 0)

  -- "16 for a block by document 01's rule": empty, not on byte edges, outside the image
  pub data BadPart : Type 0 where
    unfit : {i o s : ℕ} → BlockAt i o s → (s ≡ 0) ⊎ Not (o % 8 ≡ 0) ⊎ Not (s % 8 ≡ 0) ⊎ (8 * length g.image < o + s) → BadPart

  -- "4 for blocks not ascending or sharing a bit, an address past 2^32 - 1"; lists of different lengths are 4 too. `top`: the first address that doesn't fit
  pub data BadPlace (top : ℕ) : Type 0 where
    lengths : Not (length g.offsets ≡ length g.sizes) → BadPlace top
    order : {i o s p n : ℕ} → BlockAt i o s → BlockAt (suc i) p n → p < o + s → BadPlace top
    past : {i o s : ℕ} → BlockAt i o s → top < g.load + (o + s) / 8 → BadPlace top

  -- The cut of a block, here of the image's bytes from `at` to `stop`: each record "as long as 16 bytes, its block and its 64 KiB line allow". "The
  -- first byte of a block goes to a load address from the caller plus offset / 8."
  abbrev pub Allowed : ℕ → ℕ → ℕ → Type 0
  Allowed at stop n = (n ≤ 16) × (at + n ≤ stop) × ((g.load + at) % 65536 + n ≤ 65536)

  pub data Cut : (at stop : ℕ) → List Piece → Type 0 where
    done : {at stop : ℕ} → at ≡ stop → Cut at stop []
    next : {at stop n : ℕ} {p : Piece} {ps : List Piece} → at < stop → Allowed at stop n → ((m : ℕ) → Allowed at stop m → m ≤ n) → p.address ≡ g.load + at
        → p.bytes ≡ take n (drop at g.image) → Cut (at + n) stop ps → Cut at stop (p ∷ ps)

  pub data Cuts : (offsets sizes : List ℕ) → List Piece → Type 0 where
    none : Cuts [] [] []
    block : {o s : ℕ} {os ss : List ℕ} {ps qs : List Piece} → Cut (o / 8) ((o + s) / 8) ps → Cuts os ss qs → Cuts (o ∷ os) (s ∷ ss) (ps ++ qs)

  -- ---- with the text lent
  module _ (old : List ℕ) where
    -- "Each refusal returns its number and a place and changes nothing lent."
    abbrev pub refusal : ℕ → ℕ → Outcome
    refusal number place = record { answer = record { refusal = number; place = place; count = 0 }; text = old }

    pub data Accepts (t : List ℕ) : Outcome → Type 0 where
      accepts : {new : List ℕ} → Begins t old new → Accepts t (record { answer = record { refusal = 0; place = 0; count = length t }; text = new })

    -- the pieces' text; "then 14", with place 3, where it doesn't fit
    pub data Written (Text : List Piece → List ℕ → Type 0) (y : Outcome) : Type 0 where
      written : {ps : List Piece} {t : List ℕ} → Cuts g.offsets g.sizes ps → Text ps t
          → Tries (λ (_ : Unit {0}). length old < length t) (λ _. refusal 14 3) (Accepts t) y → Written Text y

    abbrev pub HexSays : Outcome → Type 0
    HexSays =
        Tries (λ (_ : Unit {0}). BadPart) (λ _. refusal 16 0)
        (Tries (λ (_ : Unit {0}). BadPlace 4294967296) (λ _. refusal 4 0)
        (Written (HexText 0)))

    -- "4 also for an address that doesn't fit the width", and before that for a width that is neither 2 nor 4
    pub data SrecPlaced (width : ℕ) (y : Outcome) : Type 0 where
      placed : {d e top : ℕ} → Width d e width top
          → Tries (λ (_ : Unit {0}). BadPlace top) (λ _. refusal 4 0) (Written (SrecText d e width)) y → SrecPlaced width y

    abbrev pub SrecSays : ℕ → Outcome → Type 0
    SrecSays width =
        Tries (λ (_ : Unit {0}). BadPart) (λ _. refusal 16 0)
        (Tries (λ (_ : Unit {0}). Not (width ≡ 2) × Not (width ≡ 4)) (λ _. refusal 4 0)
        (SrecPlaced width))
