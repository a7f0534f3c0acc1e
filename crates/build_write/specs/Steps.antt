-- What the functions that lay the blank image promise one another. A reader of the public contracts needs none of it.
use Rattle.std.specs.Prelude.{◌≡◌, true, ℕ, ◌≤◌, ◌<◌}
use Rattle.bankdef.specs.FillBits.{ones_at}
use Rattle.bankdef.specs.declared.Bankdef.{Bankdef}

-- The bits from `from` to before `end` are those of a bank's range, inside an image of so many bits, that take a one.
pub record OnesOf (b : Bankdef) (bits from end : ℕ) : Type 0 where
  pub inside : (k : ℕ) → from ≤ k → k < end → (k < bits) × (ones_at b k ≡ true)
  pub outside : (k : ℕ) → k < bits → ones_at b k ≡ true → (from ≤ k) × (k < end)
