-- What the private steps of reading owe each other.
use Rattle.std.specs.Prelude.{◌≡◌, Bool, true, false, ◌&&◌, ◌||◌, List, [], map, ℕ, ◌+◌, ◌-◌, ◌*◌, ◌≤◌, ◌<◌, leb, ltb, eqb, length}
use Rattle.prelude.specs.Pick.{pick}
use Rattle.bitvec.specs.Bits.{bit_at}
use Rattle.bitvec.specs.Clear.{cleared}
use Rattle.blocks.specs.declared.Block.{Block}
use Rattle.blocks.specs.Put.{Put}
use Rattle.blocks.specs.Walk.{block, kept}
use Rattle.record_scan.specs.Steps.{highest}
use Rattle.record_scan.specs.Trail.{trail}
use Rattle.record_scan.specs.Once.{Once}
use Rattle.record_read.specs.RunLaws.{Clear, Holds, AreRuns}
use Rattle.record_read.specs.Runs.{reach, in_bits}
use Rattle.record_read.specs.declared.Run.{Run}
use Rattle.record_read.specs.declared.Walk.{Walk}

abbrev pub run : ℕ → ℕ → Run
run first end = record { first = first; end = end }

abbrev pub in_run : Run → ℕ → Bool
in_run r x = leb r.first x && ltb x r.end

-- The bytes of a line, counted from the load address.
abbrev pub extent_of : ℕ → ℕ → ℕ → Run
extent_of address count load = run (address - load) (address + count - load)

-- A run is kept unless it is empty.
abbrev pub kept_run : Run → List Block
kept_run r = kept (block r.first (r.end - r.first))

-- A run that comes next closes the one before it unless it touches that; and the run that goes on behind it.
abbrev pub closed_by : Run → Run → List Block
closed_by r next = pick (ltb next.first next.end) (pick (eqb next.first r.end) [] (kept_run r)) []

abbrev pub joined_by : Run → Run → Run
joined_by r next = pick (ltb next.first next.end) (pick (eqb next.first r.end) (run r.first next.end) next) r

-- Every end, counted in bytes, is far below what a number holds.
abbrev pub Small : Run → Type 0
Small r = r.end ≤ 8589934592

-- The lowest stretch from a byte on: what a test holds for, with nothing before it.
pub record Lowest (test : ℕ → Bool) (from : ℕ) (r : Run) : Type 0 where
  pub behind : r.first < r.end → from ≤ r.first
  pub inside : (x : ℕ) → r.first ≤ x → x < r.end → test x ≡ true
  pub clear : (x : ℕ) → from ≤ x → (r.first < r.end → x < r.first) → test x ≡ false

-- A step of looking for it: whatever the test was for which it was the lowest, with another run's bytes.
pub record Betters (from : ℕ) (best next r : Run) : Type 0 where
  pub goes : (test : ℕ → Bool) → Lowest test from best → Lowest (λ x. test x || in_run next x) from r
  pub small : Small best → Small next → Small r

-- What is known of a sound file's lines: where their bytes end, counted from the load address, and that none is given twice.
pub record Ready (format : ℕ) (text : List ℕ) (n load end : ℕ) : Type 0 where
  pub ends : end ≡ reach load (trail format text n).given
  pub low : highest (trail format text n).given ≤ 4294967296
  pub once : Once format text n

-- ---- runs that are found one behind the other

-- Closed runs before one that goes on, with nothing between that one's end and `from`.
pub record Walked (test : ℕ → Bool) (done : List Block) (r : Run) (from : ℕ) : Type 0 where
  pub order : r.first ≤ r.end
  pub reached : r.end ≤ from
  pub few : length done ≤ r.first
  pub closed : AreRuns test 0 r.first done
  pub inside : Holds test r.first r.end
  pub clear : Clear test r.end from
  pub none : r.first ≡ r.end → (done ≡ []) × (r.first ≡ 0)

-- The blocks of closed runs stand in what is lent.
pub record Listed (test : ℕ → Bool) (os₀ ss₀ : List ℕ) (r : Run) (from count : ℕ) (os ss : List ℕ) : Type 0 where
  pub done : List Block
  pub walked : Walked test done r from
  pub put : Put (map in_bits done) 0 os₀ ss₀ count os ss
  pub small : Small r

-- ---- scratch

-- Scratch that may be used: some, no more bits than there are addresses, and all of it zeros.
pub record Usable (scratch : List ℕ) : Type 0 where
  pub some : 0 < length scratch
  pub few : length scratch ≤ 536870912
  pub zeros : scratch ≡ cleared scratch

-- The first bit from one on that is `want`, or how many bits there are.
pub record FirstBit (scratch : List ℕ) (want from r : ℕ) : Type 0 where
  pub onward : from ≤ r
  pub within : r ≤ 8 * length scratch
  pub others : (x : ℕ) → from ≤ x → x < r → bit_at scratch x ≡ 1 - want
  pub found : r < 8 * length scratch → bit_at scratch r ≡ want

-- A mark for each byte from `from` on: 1 where a test holds.
abbrev pub MarkedBy : (ℕ → Bool) → ℕ → List ℕ → Type 0
MarkedBy test from scratch = (j : ℕ) → j < 8 * length scratch → test (from + j) ≡ eqb (bit_at scratch j) 1

-- Some walk has come to `from`, and goes on over scratch; whatever walk it was has then come behind it.
pub record Underway (scratch : List ℕ) (from : ℕ) (w : Walk) (os ss : List ℕ) : Type 0 where
  pub test : ℕ → Bool
  pub first : List ℕ
  pub second : List ℕ
  pub listed : Listed test first second w.run from w.count os ss
  pub marked : MarkedBy test from scratch

abbrev pub Passes : List ℕ → ℕ → Walk → List ℕ → List ℕ → Walk → ℕ → List ℕ → List ℕ → Type 0
Passes scratch from w os ss r to os' ss' =
    (test : ℕ → Bool) (os₀ ss₀ : List ℕ) → MarkedBy test from scratch → Listed test os₀ ss₀ w.run from w.count os ss
    → Listed test os₀ ss₀ r.run to r.count os' ss'
