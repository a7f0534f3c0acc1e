-- Writing S-records, and what a caller is told in document 01's figures. Document 02, Ticket 12: "Write and read S1 with S9, and S3 with S7, from the
-- same blocks, cut as in Ticket 1"; "Refusals: as in Ticket 1; 4 also for an address that doesn't fit the width or a bad line."
use Rattle.std.specs.Prelude.{◌≡◌, ℕ, Bool, ◌&&◌, ◌||◌, List, ◌++◌, length, drop, ◌==◌, nat_le, Result, Ok, Err}
use Rattle.prelude.specs.Pick.{pick}
use Rattle.prelude.specs.Told.{Told}
use Rattle.prelude.specs.declared.Refusal.TheVariants.{Malformed, TooShort, BadPart}
use Rattle.prelude.specs.declared.Refusal.{Refusal}
use Rattle.blocks.specs.declared.Block.{Block}
use Rattle.record_write.specs.Checks.{all_short}
use Rattle.record_write.specs.Cut.{blocks_in}
use Rattle.record_write.specs.Exactly.{answers}
use Rattle.record_write.specs.Hex as hex
use Rattle.record_write.specs.Outcome.{input, parts_ok, told_written, text}

-- The width is 4, or it is 2 and no address is past it.
abbrev pub width_ok : ℕ → ℕ → List Block → Bool
width_ok width load blocks = width == 4 || (width == 2 && all_short load blocks)

-- The format by which a file is written: the width's number; 1, which is none, for 0, which is that of Intel HEX.
abbrev pub format_for : ℕ → ℕ
format_for width = pick (width == 0) 1 width

-- The text of an image's blocks from a load address on.
abbrev pub srec_of : List ℕ → List ℕ → List ℕ → ℕ → ℕ → List ℕ
srec_of image offsets sizes load width = text (input width image offsets sizes load)

-- 4: a width or "an address that doesn't fit the width"; and "as in Ticket 1".
abbrev pub places_ok : List ℕ → List ℕ → ℕ → ℕ → Bool
places_ok offsets sizes load width = width_ok width load (blocks_in offsets sizes) && hex.places_ok offsets sizes load

-- What is lent, and what is given to a call.
module _ (image offsets sizes : List ℕ) (load width : ℕ) (old : List ℕ) where
  abbrev pub fits_in : Bool
  fits_in = nat_le (length (srec_of image offsets sizes load width)) (length old)

  -- "Refusals: 16 .., 4 .., then 14", whose place is 3 for text.
  abbrev pub answer_srec : Result ℕ Refusal
  answer_srec =
      pick (parts_ok image offsets sizes)
      (pick (places_ok offsets sizes load width) (pick fits_in (Ok (length (srec_of image offsets sizes load width))) (Err (TooShort 3)))
      (Err (Malformed 0)))
      (Err BadPart)

  abbrev pub told_srec : Told ℕ
  told_srec = answers (parts_ok image offsets sizes) (places_ok offsets sizes load width) fits_in (length (srec_of image offsets sizes load width))

  -- Accepted, the text stands at the front and what is behind it stays; refused, all stays.
  abbrev pub lent_srec : List ℕ
  lent_srec =
      pick (parts_ok image offsets sizes && places_ok offsets sizes load width && fits_in)
      (srec_of image offsets sizes load width ++ drop (length (srec_of image offsets sizes load width)) old) old

  -- What `write_srec` promises: its answer, in the paper's figures too, and every character of the lent text.
  pub record WritesSrec (r : Result ℕ Refusal) (new : List ℕ) : Type 0 where
    pub answer : r ≡ answer_srec
    pub told : told_written r ≡ told_srec
    pub lent : new ≡ lent_srec
