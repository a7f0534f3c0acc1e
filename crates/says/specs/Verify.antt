-- What `dk_verify` says: what was flashed, read back and held against the image, as docs/DECISIONS.md has it.
use Rattle.std.specs.Prelude.{◌≡◌, List, [], ◌∷◌, ◌⊎◌, ℕ, ◌+◌, ◌*◌, ◌≤◌, ◌<◌, length, get_or}
use Rattle.c_answers.specs.declared.DkCount.{DkCount}
use Rattle.says.specs.Words.{Tries, Begins}
use Rattle.says.specs.Overlay as bench
use Rattle.says.specs.Part as part

-- the image with its blocks, and what was read back with its own; both are counted from the same address, blocks are lent as offsets and sizes in bits
module _ (image offsets sizes bytes given_offsets given_sizes : List ℕ) where
  -- 4, as for the bench: blocks of either list unpaired, empty, not ascending or sharing a bit
  pub data BadBlocks : Type 0 where
    of_image : bench.BadBlocks image bytes offsets sizes → BadBlocks
    of-given : bench.BadBlocks image bytes given_offsets given_sizes → BadBlocks

  -- 16, as for a part: a block of either list that is "outside it, or not on byte edges"
  pub data BadPart : Type 0 where
    of_image : {i : ℕ} → i < length offsets → part.Unfit image (get_or offsets i 0) (get_or sizes i 0) → BadPart
    of-given : {i : ℕ} → i < length given_offsets → part.Unfit bytes (get_or given_offsets i 0) (get_or given_sizes i 0) → BadPart

  -- A byte is asked for where a block of the image has it, all eight bits; it is given where a block of what was read back has it.
  abbrev pub Asked : ℕ → Type 0
  Asked b = (i : ℕ) × (i < length offsets) × (get_or offsets i 0 ≤ 8 * b) × (8 * b + 8 ≤ get_or offsets i 0 + get_or sizes i 0)

  abbrev pub Given : ℕ → Type 0
  Given b = (i : ℕ) × (i < length given_offsets) × (get_or given_offsets i 0 ≤ 8 * b) × (8 * b + 8 ≤ get_or given_offsets i 0 + get_or given_sizes i 0)

  -- It is listed where it is asked for and not given, and where it is given with another value.
  pub record Missing (b : ℕ) : Type 0 where
    pub inside : b < length image
    pub asked : Asked b
    pub absent : Given b → ⊥

  pub record Different (b : ℕ) : Type 0 where
    pub inside : b < length image
    pub asked : Asked b
    pub given : Given b
    pub other : get_or image b 0 ≡ get_or bytes b 0 → ⊥

  abbrev pub Listed : ℕ → Type 0
  Listed b = Missing b ⊎ Different b

  -- its kind: 1 not given, 2 another value
  pub data Of (b : ℕ) : ℕ → Type 0 where
    one : Missing b → Of b 1
    two : Different b → Of b 2

  -- Ascending, each maximal run of bytes of one kind: from byte `at` on, each run begins at the first byte that is listed and ends before the first that is
  -- not of its kind; first bytes, counts and kinds.
  pub data Runs : (at : ℕ) (firsts counts kinds : List ℕ) → Type 0 where
    none : {at : ℕ} → ((b : ℕ) → at ≤ b → Listed b → ⊥) → Runs at [] [] []
    run : {at f n k : ℕ} {fs ns ks : List ℕ} → at ≤ f → 0 < n → ((b : ℕ) → at ≤ b → b < f → Listed b → ⊥) → ((b : ℕ) → f ≤ b → b < f + n → Of b k)
        → (Of (f + n) k → ⊥) → Runs (f + n) fs ns ks → Runs at (f ∷ fs) (n ∷ ns) (k ∷ ks)

  -- with what is lent for it
  pub record Outcome : Type 0 where
    pub answer : DkCount
    pub firsts : List ℕ
    pub counts : List ℕ
    pub kinds : List ℕ

  module _ (firsts₀ counts₀ kinds₀ : List ℕ) where
    -- "Each refusal returns its number and a place and changes nothing lent."
    abbrev pub turned : ℕ → ℕ → Outcome
    turned number place =
        record { answer = record { refusal = number; place = place; count = 0 }; firsts = firsts₀; counts = counts₀; kinds = kinds₀ }

    -- how many runs, and each written at the front; what stands past them stays. No run: every byte that is asked for is given with its value.
    pub data Accepts (fs ns ks : List ℕ) : Outcome → Type 0 where
      accepts : {firsts₁ counts₁ kinds₁ : List ℕ} → Begins fs firsts₀ firsts₁ → Begins ns counts₀ counts₁ → Begins ks kinds₀ kinds₁
          → Accepts fs ns ks (record {
            answer = record { refusal = 0; place = 0; count = length fs };
            firsts = firsts₁;
            counts = counts₁;
            kinds = kinds₁;
          })

    -- 14 for a list that is too short, place 2
    abbrev pub TooShort : List ℕ → List ℕ → List ℕ → Type 0
    TooShort fs ns ks = (length firsts₀ < length fs) ⊎ ((length counts₀ < length ns) ⊎ (length kinds₀ < length ks))

    pub data Lists (y : Outcome) : Type 0 where
      lists : {fs ns ks : List ℕ} → Runs 0 fs ns ks → Tries (λ (_ : Unit {0}). TooShort fs ns ks) (λ _. turned 14 2) (Accepts fs ns ks) y → Lists y

    abbrev pub VerifySays : Outcome → Type 0
    VerifySays =
        Tries (λ (_ : Unit {0}). BadBlocks) (λ _. turned 4 0)
        (Tries (λ (_ : Unit {0}). BadPart) (λ _. turned 16 0)
        Lists)
