-- Theorems about what FillFacts defines.
use Rattle.std.specs.Prelude.{◌≡◌, refl, List, [], ◌∷◌, ◌++◌, ℕ}
use Rattle.bankdef.specs.declared.Bankdef.{Bankdef}
use Rattle.bankdef.specs.Fill.{fill_from}
use Rattle.bankdef.specs.FillFacts.{Filled, after_bank}
use Rattle.bankdef.specs.Laws.FillFacts.{filled-cases}

-- Which banks count: those with fill, size and offset, and no other.
pub filled-by : (b : Bankdef) (n : ℕ) → Filled b n (after_bank b n)
filled-by b n = filled-cases b n b.fill b.size b.offset refl refl refl

-- "Fill takes every bank in order": the banks of one list and then those of another, from where the first left it.
pub fill-in-order : (n : ℕ) (l m : List Bankdef) → fill_from n (l ++ m) ≡ fill_from (fill_from n l) m
unfolding fill_from
fill-in-order n [] m = refl
fill-in-order n (b ∷ l) m = fill-in-order (after_bank b n) l m
