-- Rows as parts of the lent lists: where a row lies, and the part that is lent.
use Rattle.std.specs.Prelude.{ℕ, suc, ◌+◌, ◌*◌, ◌-◌, ◌<◌, ◌≤◌, ◌≡◌, List, take, drop}
use Rattle.std.proofs.Common.{mul-le-mul_right, suc-mul, arith}

-- row r ends within the rows
pub row_ends : (r rows n : ℕ) → r < rows → r * n + n ≤ rows * n
row_ends r rows n h = rw suc-mul at (mul-le-mul_right {m = suc r} {n = rows} n h)

-- the first row is the first part
pub first_part : (n : ℕ) (xs : List ℕ) → take (n - 0) (drop 0 xs) ≡ take n (drop (0 * n) xs)
first_part n xs = let e : n - 0 ≡ n = omega arith in let z : 0 * n ≡ 0 = omega arith in rw (e, z)

-- row r is the part that starts at r * n and has n elements
pub row-part : (r n : ℕ) (xs : List ℕ) → take (r * n + n - r * n) (drop (r * n) xs) ≡ take n (drop (r * n) xs)
row-part r n xs = let e : r * n + n - r * n ≡ n = omega arith in rw e
