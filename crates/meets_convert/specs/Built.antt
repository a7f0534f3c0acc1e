-- "The converted file gives the same image and blocks; node numbers in places rise by one" (document 02, Ticket 13): what the builds of a one-bank file and of
-- the form 2 file that it becomes have in common, and what becomes of a refusal's number and place, in numerals.
use Rattle.std.specs.Prelude.{◌≡◌, List, ◌∷◌, ◌⊎◌, ℕ, suc, ◌/◌, ◌%◌, ◌≤◌, ◌<◌, get_or, take, replicate}
use Rattle.iter.specs.declared.Lost.{Lost}
use Rattle.c_answers.specs.declared.DkLayout.{DkLayout}
use Rattle.says.specs.Files.{two, four, eight}
use Rattle.says.specs.Build.{Outcome}
use Rattle.says.specs.Convert as convert
use Rattle.says.specs.Blocks as blocks
use Rattle.says.specs.Blocks.{DkBlocksSay}

-- the file that a conversion has made
abbrev pub made : convert.Outcome → List ℕ
made v = take v.answer.count v.out

-- ---- places

-- The start of a bank's payload, "signed start 8" from its third byte on, is beyond 1,099,511,627,776 either way: in two's complement a number and what it
-- lacks to 18,446,744,073,709,551,616.
abbrev pub StartPast : List ℕ → Type 0
StartPast bank = (1099511627776 < eight bank 2) × (eight bank 2 < 18446742974197923840)

-- What becomes of a refusal's number and place, of a file with this payload of its bank, so many rows and this choice of the fill. No other refusal comes.
pub data Risen (bank : List ℕ) (rows fill : ℕ) : (number place second place' second' : ℕ) → Type 0 where
  -- 2: a bad unit or start stays bank 0's, whose record keeps both
  bank-0 : (two bank 0 ≡ 0) ⊎ StartPast bank → Risen bank rows fill 2 0 0 0 0
  -- 2: for "a filled bank has size 0" it becomes bank 1's; flags: "size 1, offset 2, label alignment 4, fill 8"
  bank-1 : (two bank 0 ≡ 0 → ⊥) → (StartPast bank → ⊥) → get_or bank 22 0 / 8 % 2 ≡ 1 → get_or bank 22 0 % 2 ≡ 1 → four bank 10 ≡ 0
      → Risen bank rows fill 2 0 0 1 0
  -- 4: the field of the row count and that of the choice stay
  row_count : (rows ≡ 0) ⊎ (16 < rows) → Risen bank rows fill 4 1 0 1 0
  choice : 1 < fill → Risen bank rows fill 4 3 0 3 0
  -- "node numbers in places rise by one"
  node-4 : 1 ≤ rows → rows ≤ 16 → fill ≤ 1 → (i : ℕ) → Risen bank rows fill 4 i 0 (suc i) 0
  node-5 : (i : ℕ) → Risen bank rows fill 5 i 0 (suc i) 0
  node-7 : (i : ℕ) → Risen bank rows fill 7 i 0 (suc i) 0
  node-10 : (i : ℕ) → Risen bank rows fill 10 i 0 (suc i) 0
  node-11 : (i : ℕ) → Risen bank rows fill 11 i 0 (suc i) 0
  node-13 : (i : ℕ) → Risen bank rows fill 13 i 0 (suc i) 0
  -- 8, 12 and 14 name no node: their places stay
  stays-8 : Risen bank rows fill 8 0 0 0 0
  stays-12 : (start size : ℕ) → Risen bank rows fill 12 start size start size
  stays-14 : (buffer : ℕ) → Risen bank rows fill 14 buffer 0 buffer 0

-- With a page size: as without one, and 19 with its rule and its bank or node.
pub data PagedRisen (bank : List ℕ) (rows fill : ℕ) : (number place second place' second' : ℕ) → Type 0 where
  ordinary : {number place second place' second' : ℕ} → Risen bank rows fill number place second place' second'
      → PagedRisen bank rows fill number place second place' second'
  -- "page size (place 0)"
  page-size : PagedRisen bank rows fill 19 1 0 1 0
  -- alignments: bank 0's becomes bank 1's, a node rises by one
  alignment : (at : ℕ) → PagedRisen bank rows fill 19 2 at 2 (suc at)
  -- of the rules on banks the unit's stays bank 0's, whose record keeps it; offset and size become bank 1's
  offset : PagedRisen bank rows fill 19 3 0 3 1
  size : PagedRisen bank rows fill 19 4 0 4 1
  unit : PagedRisen bank rows fill 19 5 0 5 0
  addr : (i : ℕ) → PagedRisen bank rows fill 19 6 i 6 (suc i)

-- ---- two builds: the answer of the one-bank file and of the file with a bank 1, and what each leaves of what is lent

-- a bank that has lost nothing
abbrev pub unpadded : Lost
unpadded = record { bits = 0; units = 0 }

module _ (Rise : (number place second place' second' : ℕ) → Type 0) where
  pub data Answers : DkLayout → DkLayout → Type 0 where
    -- the same K, passes, length of the image and number of spans; bank 1 has the padding that bank 0 had, bank 0 none
    accepted : {n k bits spans : ℕ} {sums : List Lost}
        → Answers (record { refusal = 0; place = 0; second = 0; passes = n; k = k; length = bits; spans = spans; padding = sums })
        (record {
          refusal = 0;
          place = 0;
          second = 0;
          passes = n;
          k = k;
          length = bits;
          spans = spans;
          padding = unpadded ∷ get_or sums 0 unpadded ∷ replicate 14 unpadded;
        })
    refused : {n number p q p' q' : ℕ} → Rise number p q p' q'
        → Answers (record { refusal = number; place = p; second = q; passes = n; k = 0; length = 0; spans = 0; padding = replicate 16 unpadded })
        (record { refusal = number; place = p'; second = q'; passes = n; k = 0; length = 0; spans = 0; padding = replicate 16 unpadded })

  -- "the same image and blocks": of the spans that each build tells, `dk_blocks` answers and leaves the same, whatever is lent for the blocks
  pub record SameBuild (x y : Outcome) : Type 0 where
    pub answers : Answers x.answer y.answer
    pub image : y.lent.image ≡ x.lent.image
    pub blocks : (starts sizes : List ℕ) (p q : blocks.Outcome)
        → DkBlocksSay (take x.answer.spans x.lent.offsets) (take x.answer.spans x.lent.sizes) starts sizes p
        → DkBlocksSay (take y.answer.spans y.lent.offsets) (take y.answer.spans y.lent.sizes) starts sizes q → p ≡ q
    pub all-lent : y.lent ≡ x.lent
