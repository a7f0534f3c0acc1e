-- What `dk_overlay_range` and `dk_overlay_runs` say, and what `overlay::pick` hands back, from document 02, Ticket 4, as docs/DECISIONS.md reads it.
use Rattle.std.specs.Prelude.{◌≡◌, List, [], ◌∷◌, ◌⊎◌, ℕ, ◌+◌, ◌*◌, ◌≤◌, ◌<◌, length, get_or}
use Rattle.c_answers.specs.declared.DkCount.{DkCount}
use Rattle.c_answers.specs.declared.DkOverlay.{DkOverlay}
use Rattle.says.specs.Words.{Tries, Begins}

-- "the released image and a small overlay of curves under trial, both at the same offsets"; the overlay's blocks are lent as offsets and sizes in bits
module _ (overlay released offsets sizes : List ℕ) where
  -- Bit k is one of the bits of block i. An end past 64 bits is reckoned without wrapping (docs/DECISIONS.md).
  abbrev pub OfBlock : ℕ → ℕ → Type 0
  OfBlock i k = (i < length offsets) × (get_or offsets i 0 ≤ k) × (k < get_or offsets i 0 + get_or sizes i 0)

  -- "covered by overlay blocks, touching blocks counting together"
  abbrev pub Covered : ℕ → Type 0
  Covered k = (i : ℕ) × OfBlock i k

  -- "A byte counts as covered only when all eight bits are."
  abbrev pub CoveredByte : ℕ → Type 0
  CoveredByte b = (k : ℕ) → 8 * b ≤ k → k < 8 * b + 8 → Covered k

  -- "4 for overlay blocks empty, not ascending or sharing a bit"; lists of offsets and sizes of different lengths are 4 (docs/DECISIONS.md)
  pub data BadBlocks : Type 0 where
    unpaired : (length offsets ≡ length sizes → ⊥) → BadBlocks
    empty : {i : ℕ} → i < length offsets → get_or sizes i 0 ≡ 0 → BadBlocks
    falling : {i j : ℕ} → i < j → j < length offsets → get_or offsets j 0 ≤ get_or offsets i 0 → BadBlocks
    sharing : {i j k : ℕ} → i < j → OfBlock i k → OfBlock j k → BadBlocks

  -- ---- a range: `count` bytes from byte `first` on
  module _ (first count : ℕ) where
    -- "16 for a range that is empty or outside either image"
    pub data BadRange : Type 0 where
      empty : count ≡ 0 → BadRange
      past-overlay : length overlay < first + count → BadRange
      past-released : length released < first + count → BadRange

    abbrev pub InRange : ℕ → Type 0
    InRange k = (8 * first ≤ k) × (k < 8 * (first + count))

    -- "17 (new) for a range partly covered": some bit of it is covered, and some bit is not
    abbrev pub Partly : Type 0
    Partly = ((k : ℕ) × InRange k × Covered k) × ((l : ℕ) × InRange l × (Covered l → ⊥))

    -- "If every byte of the range is covered"; "if no bit of it is"
    abbrev pub AllCovered : Type 0
    AllCovered = (b : ℕ) → first ≤ b → b < first + count → CoveredByte b

    abbrev pub NoneCovered : Type 0
    NoneCovered = (k : ℕ) → InRange k → Covered k → ⊥

    -- "which of the two": 1 the overlay, 2 the released image; "that part" of it, by its first byte and its bytes
    pub data Answers : DkOverlay → Type 0 where
      from-overlay : AllCovered → Answers (record { refusal = 0; image = 1; start = first; length = count })
      from-released : NoneCovered → Answers (record { refusal = 0; image = 2; start = first; length = count })

    -- "why none (an empty part)"
    abbrev pub refusal : ℕ → DkOverlay
    refusal number = record { refusal = number; image = 0; start = 0; length = 0 }

    -- "Refusals, in order: 4 .., 16 .., 17"
    abbrev pub RangeSays : DkOverlay → Type 0
    RangeSays =
        Tries (λ (_ : Unit {0}). BadBlocks) (λ _. refusal 4)
        (Tries (λ (_ : Unit {0}). BadRange) (λ _. refusal 16)
        (Tries (λ (_ : Unit {0}). Partly) (λ _. refusal 17)
        Answers))

    -- the bytes handed back: "They are the caller's own bytes"
    abbrev pub PartOf : List ℕ → List ℕ → Type 0
    PartOf image part = (length part ≡ count) × ((k : ℕ) → k < count → get_or part k 0 ≡ get_or image (first + k) 0)

    pub data Hands (part : List ℕ) : Type 0 where
      from-overlay : AllCovered → PartOf overlay part → Hands part
      from-released : NoneCovered → PartOf released part → Hands part

    abbrev pub BytesSay : List ℕ → Type 0
    BytesSay =
        Tries (λ (_ : Unit {0}). BadBlocks) (λ _. [])
        (Tries (λ (_ : Unit {0}). BadRange) (λ _. [])
        (Tries (λ (_ : Unit {0}). Partly) (λ _. [])
        Hands))

  -- ---- the list: "each maximal run of covered bytes, inside both images, that differ between the two"
  pub record Listed (b : ℕ) : Type 0 where
    pub in-overlay : b < length overlay
    pub in-released : b < length released
    pub covered : CoveredByte b
    pub different : get_or overlay b 0 ≡ get_or released b 0 → ⊥

  -- "ascending": from byte `at` on, each run begins at the first byte that is listed and ends before the first that is not; first bytes and counts
  pub data Runs : (at : ℕ) (firsts counts : List ℕ) → Type 0 where
    none : {at : ℕ} → ((b : ℕ) → at ≤ b → Listed b → ⊥) → Runs at [] []
    run : {at f n : ℕ} {fs ns : List ℕ} → at ≤ f → 0 < n → ((b : ℕ) → at ≤ b → b < f → Listed b → ⊥) → ((b : ℕ) → f ≤ b → b < f + n → Listed b)
        → (Listed (f + n) → ⊥) → Runs (f + n) fs ns → Runs at (f ∷ fs) (n ∷ ns)

  -- with what is lent for it
  pub record Outcome : Type 0 where
    pub answer : DkCount
    pub firsts : List ℕ
    pub counts : List ℕ

  module _ (firsts₀ counts₀ : List ℕ) where
    -- "Each refusal returns its number and a place and changes nothing lent."
    abbrev pub turned : ℕ → ℕ → Outcome
    turned number place = record { answer = record { refusal = number; place = place; count = 0 }; firsts = firsts₀; counts = counts₀ }

    -- how many runs, and each written at the front; what stands past them stays
    pub data Accepts (fs ns : List ℕ) : Outcome → Type 0 where
      accepts : {firsts₁ counts₁ : List ℕ} → Begins fs firsts₀ firsts₁ → Begins ns counts₀ counts₁
          → Accepts fs ns (record { answer = record { refusal = 0; place = 0; count = length fs }; firsts = firsts₁; counts = counts₁ })

    -- "14 for a short list", place 2
    abbrev pub TooShort : List ℕ → List ℕ → Type 0
    TooShort fs ns = (length firsts₀ < length fs) ⊎ (length counts₀ < length ns)

    pub data Lists (y : Outcome) : Type 0 where
      lists : {fs ns : List ℕ} → Runs 0 fs ns → Tries (λ (_ : Unit {0}). TooShort fs ns) (λ _. turned 14 2) (Accepts fs ns) y → Lists y

    abbrev pub RunsSay : Outcome → Type 0
    RunsSay = Tries (λ (_ : Unit {0}). BadBlocks) (λ _. turned 4 0) Lists
