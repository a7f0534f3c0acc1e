-- A number in decimal digits, as document 01's outputs print it: most significant digit first, no leading zeros, ASCII.
use Rattle.std.specs.Prelude.{List, [], ◌∷◌, ◌++◌, ℕ, zero, suc, ◌+◌, ◌-◌, ◌*◌, ◌/◌, ◌%◌, ltb}
use Rattle.prelude.specs.Pick.{pick}

-- The ASCII digit of a number below 10.
abbrev pub digit : ℕ → ℕ
digit d = 48 + d

-- The digits of a number below 10 are its digit; those of any other number are those of its tenth and then its last digit. Each
-- step takes one from a count, and a number above the number itself is enough of it.
unfoldable pub digits_in : ℕ → ℕ → List ℕ
digits_in zero n = []
digits_in (suc steps) n =
    let more : List ℕ = digits_in steps (n / 10) ++ (digit (n % 10) ∷ []) in
    pick (ltb n 10) (digit n ∷ []) more

unfoldable pub decimal : ℕ → List ℕ
unfolding digits_in
decimal n = digits_in (suc n) n

-- ---- what the digits say

-- The number that digits stand for, read from the left, `n` being the value of those before.
unfoldable pub value_from : ℕ → List ℕ → ℕ
value_from n [] = n
value_from n (d ∷ ds) = value_from (n * 10 + (d - 48)) ds
