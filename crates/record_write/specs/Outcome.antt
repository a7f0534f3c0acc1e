-- A call that writes: its answer, and the lent text afterwards.
use Rattle.std.specs.Prelude.{◌≡◌, ℕ, Bool, ◌&&◌, List, ◌++◌, length, drop, ◌==◌, nat_le, Result, Ok, Err}
use Rattle.prelude.specs.Pick.{pick}
use Rattle.prelude.specs.Told.{Told, gives, told_refusal}
use Rattle.prelude.specs.declared.Refusal.TheVariants.{Malformed, TooShort, BadPart}
use Rattle.prelude.specs.declared.Refusal.{Refusal}
use Rattle.record_lines.specs.Puts.{Puts}
use Rattle.record_write.specs.Cut.{blocks_in}
use Rattle.record_write.specs.Text.{known, text_of}
use Rattle.record_write.specs.Checks.{all_parts, all_placed, fits_width}

-- What is given to a call, and what is lent and not changed.
pub record Input : Type 0 where
  pub format : ℕ
  pub image : List ℕ
  pub offsets : List ℕ
  pub sizes : List ℕ
  pub load : ℕ

abbrev pub input : ℕ → List ℕ → List ℕ → List ℕ → ℕ → Input
input format image offsets sizes load = record { format = format; image = image; offsets = offsets; sizes = sizes; load = load }

-- 16: "a part of an image is empty, outside it, or not on byte edges".
abbrev pub parts_ok : List ℕ → List ℕ → List ℕ → Bool
parts_ok image offsets sizes = all_parts (length image) (blocks_in offsets sizes)

-- 4 is not given: the format is known, the addresses fit its width, the lists are as long as each other, the blocks are in order, and their addresses have
-- 32 bits.
abbrev pub sound : Input → Bool
sound i =
    known i.format && fits_width i.format i.load (blocks_in i.offsets i.sizes) && length i.offsets == length i.sizes
    && all_placed i.load (blocks_in i.offsets i.sizes)

abbrev pub text : Input → List ℕ
text i = text_of i.format i.load i.image (blocks_in i.offsets i.sizes)

-- What a step promises that writes all of it, as far as there is room, and tells its length.
abbrev pub PutsText : Input → List ℕ → ℕ → List ℕ → Type 0
PutsText i old count new = Puts (text i) old count new

-- 16, then 4, then 14, whose place is 3 for text.
abbrev pub answer_of : Input → List ℕ → Result ℕ Refusal
answer_of i old =
    pick (parts_ok i.image i.offsets i.sizes)
    (pick (sound i) (pick (nat_le (length (text i)) (length old)) (Ok (length (text i))) (Err (TooShort 3))) (Err (Malformed 0)))
    (Err BadPart)

-- Accepted, the text stands at the front and what is behind it stays; refused, all stays.
abbrev pub text_after : Input → List ℕ → List ℕ
text_after i old =
    pick (parts_ok i.image i.offsets i.sizes && sound i && nat_le (length (text i)) (length old)) (text i ++ drop (length (text i)) old) old

-- In document 01's figures.
abbrev pub told_written : Result ℕ Refusal → Told ℕ
told_written (Ok n) = gives n
told_written (Err r) = told_refusal r

pub record Writes (i : Input) (old : List ℕ) (r : Result ℕ Refusal) (new : List ℕ) : Type 0 where
  pub answer : r ≡ answer_of i old
  pub lent : new ≡ text_after i old
