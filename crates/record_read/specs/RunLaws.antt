-- Maximal runs: what makes a list of runs that of a test, and that there is one such list.
use Rattle.std.specs.Prelude.{◌≡◌, Bool, true, false, List, [], ◌∷◌, ℕ, ◌≤◌, ◌<◌}
use Rattle.blocks.specs.declared.Block.{Block}
use Rattle.blocks.specs.Walk.{end_of}

-- A test fails from `lo` on and before `hi`; it holds there.
abbrev pub Clear : (ℕ → Bool) → ℕ → ℕ → Type 0
Clear test lo hi = (x : ℕ) → lo ≤ x → x < hi → test x ≡ false

abbrev pub Holds : (ℕ → Bool) → ℕ → ℕ → Type 0
Holds test lo hi = (x : ℕ) → lo ≤ x → x < hi → test x ≡ true

-- A run is the first from `lo` on, and ends before `hi`: it is not empty, the test holds all over it, and fails before and right behind it.
pub record IsFirst (test : ℕ → Bool) (lo hi : ℕ) (b : Block) : Type 0 where
  pub from : lo ≤ b.origin
  pub some : 0 < b.size
  pub ends : end_of b < hi
  pub before : Clear test lo b.origin
  pub inside : Holds test b.origin (end_of b)
  pub after : test (end_of b) ≡ false

-- Runs, one behind the other, with none between them and none behind the last.
abbrev pub AreRuns : (ℕ → Bool) → ℕ → ℕ → List Block → Type 0
AreRuns test lo hi [] = Clear test lo hi
AreRuns test lo hi (b ∷ l) = IsFirst test lo hi b × AreRuns test (end_of b) hi l
