-- A table of what each character stands for, and what a loop over it comes to.
use Rattle.std.specs.Prelude.{◌≡◌, ℕ, ◌+◌, ◌*◌, ◌%◌, ◌<◌, List, length, drop, ◌==◌, slice_index}
use Rattle.prelude.specs.Pick.{pick}
use Rattle.record_lines.specs.Digits.{value_of, all_digits, bytes_at}
use Rattle.record_lines.specs.Sums.{sum_of}

abbrev pub Spells : List ℕ → Type 0
Spells t = (c : ℕ) → c < 256 → slice_index t c ≡ value_of c

-- The low byte of the sum of the n bytes that the digits from a place to the line's end spell; 256 where one of them is no digit, or there are not 2 n.
abbrev pub checked_sum : List ℕ → ℕ → ℕ → ℕ
checked_sum line from n =
    pick (length line == from + 2 * n) (pick (all_digits (drop from line)) (sum_of (bytes_at line from n) % 256) 256) 256
