-- What a sound line is, and which lines are bad.
use Rattle.std.specs.Prelude.{◌≡◌, true, false, ◌&&◌, List, ℕ, ◌+◌, ◌*◌, ◌%◌, leb, eqb, length, get_or, drop}
use Rattle.std.proofs.Common.{ne_eqb, eqb-true}
use Rattle.prelude.specs.Laws.Bools.{both}
use Rattle.record_lines.specs.Digits.{all_digits, bytes_at}
use Rattle.record_lines.specs.Items.{bad}
use Rattle.record_lines.specs.Sums.{sum_of}
use Rattle.record_srec_line.specs.Srec.{is_s, is_sound, count_of, typed, srec_item}

-- A sound line is as long as its count says.
pub sound-long : (l : List ℕ) → is_sound l ≡ true → length l ≡ 4 + 2 * count_of l
unfolding is_sound
sound-long l h =
    let three = leb 4 (length l) && is_s (get_or l 0 0) && all_digits (drop 2 l) in
    let four = three && eqb (length l) (4 + 2 * count_of l) in
    let two = both four (eqb (sum_of (bytes_at l 2 (count_of l + 1)) % 256) 255) h in
    eqb-true (length l) (4 + 2 * count_of l) (both three (eqb (length l) (4 + 2 * count_of l)) two.0).1

pub typed-bad : (t state : ℕ) (l : List ℕ) → (t ≡ 48 → ⊥) → (t ≡ 49 → ⊥) → (t ≡ 51 → ⊥) → (t ≡ 55 → ⊥) → (t ≡ 57 → ⊥) → typed t state l ≡ bad
unfolding typed
typed-bad t state l a b c d e = rw (ne_eqb t 48 a, ne_eqb t 49 b, ne_eqb t 51 c, ne_eqb t 55 d, ne_eqb t 57 e)

pub item-bad : (state : ℕ) (l : List ℕ) → is_sound l ≡ false → srec_item state l ≡ bad
unfolding srec_item
item-bad state l h = rw h

pub item-sound : (state : ℕ) (l : List ℕ) → is_sound l ≡ true → srec_item state l ≡ typed (get_or l 1 0) state l
unfolding srec_item
item-sound state l h = rw h
