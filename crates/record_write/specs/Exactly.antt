-- What the tests before writing say, block by block and in document 02's words, and which answer comes exactly when.
use Rattle.std.specs.Prelude.{◌≡◌, ℕ, ◌+◌, ◌/◌, ◌<◌, ◌≤◌, Bool, List, length, slice_index}
use Rattle.prelude.specs.Pick.{pick}
use Rattle.prelude.specs.Told.{Told, gives, refuses}
use Rattle.prelude.specs.declared.Place.TheVariants.{One}
use Rattle.bitvec.specs.Part.{IsPart}

-- ---- the tests, block by block

-- "16 for a block by document 01's rule": no block is "empty, outside it, or not on byte edges".
abbrev pub AllParts : ℕ → List ℕ → List ℕ → Type 0
AllParts len offsets sizes = (k : ℕ) → k < length offsets → k < length sizes → IsPart len (slice_index offsets k) (slice_index sizes k)

-- The address behind a block's last byte.
abbrev pub behind_last : ℕ → List ℕ → List ℕ → ℕ → ℕ
behind_last load offsets sizes k = load + slice_index offsets k / 8 + slice_index sizes k / 8

-- "an address that doesn't fit the width", of 16 bits: the last byte of each block has one that does.
abbrev pub AllShort : ℕ → List ℕ → List ℕ → Type 0
AllShort load offsets sizes = (k : ℕ) → k < length offsets → k < length sizes → behind_last load offsets sizes k ≤ 65536

-- "S1 with S9, and S3 with S7": a width of 2 or 4, and no "address that doesn't fit the width". (One that has 32 bits is asked for at any width.)
pub data FitsWidth (width load : ℕ) (offsets sizes : List ℕ) : Type 0 where
  wide : width ≡ 4 → FitsWidth width load offsets sizes
  narrow : width ≡ 2 → AllShort load offsets sizes → FitsWidth width load offsets sizes

-- No "blocks not ascending or sharing a bit": each ends before every later one starts. No "address past 2^32 - 1". There is a size for each offset.
pub record WellPlaced (load : ℕ) (offsets sizes : List ℕ) : Type 0 where
  pub paired : length offsets ≡ length sizes
  pub apart : (i j : ℕ) → i < j → j < length offsets → slice_index offsets i + slice_index sizes i ≤ slice_index offsets j
  pub low : (k : ℕ) → k < length offsets → behind_last load offsets sizes k ≤ 4294967296

-- ---- the answers of a call, by its three tests

abbrev pub answers : Bool → Bool → Bool → ℕ → Told ℕ
answers a b c n = pick a (pick b (pick c (gives n) (refuses 14 (One 3))) (refuses 4 (One 0))) (refuses 16 (One 0))
