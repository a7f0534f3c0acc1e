-- What stands at a place of a file, and what is read there.
use Rattle.std.specs.Prelude.{List, ◌++◌, ◌≡◌, ℕ, drop}

-- `part` stands in the file from `at` on.
pub record Has (file : List ℕ) (at : ℕ) (part : List ℕ) : Type 0 where
  pub rest : List ℕ
  pub is : drop at file ≡ part ++ rest
