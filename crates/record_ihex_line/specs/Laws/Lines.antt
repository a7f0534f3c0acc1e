-- What a good line and a bad one are.
use Rattle.std.specs.Prelude.{◌≡◌, true, false, ◌&&◌, List, ℕ, ◌+◌, ◌*◌, ◌%◌, length, drop, get_or}
use Rattle.std.proofs.Math.Bool.{and-eq-true_iff}
use borrow.Author.Tests.{eqb-true}
use Rattle.std.proofs.Math.Dec.{eqb}
use Rattle.record_lines.specs.Digits.{all_digits, bytes_at}
use Rattle.record_lines.specs.Items.{bad}
use Rattle.record_lines.specs.Sums.{sum_of}
use Rattle.record_ihex_line.specs.Format.{count_of, good_line, hex_item}

module _ (line : List ℕ) where
  -- a good line is as long as its count says
  pub good-long : good_line line ≡ true → length line ≡ 11 + 2 * count_of line
  unfolding good_line
  good-long g =
      let a = eqb (get_or line 0 0) 58 in
      let b = eqb (length line) (11 + 2 * count_of line) in
      let d = all_digits (drop 1 line) in
      let four = (and-eq-true_iff (a && b && d) (eqb (sum_of (bytes_at line 1 (5 + count_of line)) % 256) 0)).0 g in
      let three = (and-eq-true_iff (a && b) d).0 four.0 in
      eqb-true (length line) (11 + 2 * count_of line) ((and-eq-true_iff a b).0 three.0).1

  pub bad-line : (upper : ℕ) → good_line line ≡ false → hex_item upper line ≡ bad
  unfolding hex_item
  bad-line upper g = rw g
