-- A call that reads: its answer, and everything lent afterwards. Document 02, Ticket 1: "Refusals: .. 4 for .. a bad file, then 14." "Places of 14: .. bytes
-- read 0, then blocks read 2. Of 4 ..: 0." "All that is 4 is found over the whole file before 14 is tried."
use Rattle.std.specs.Prelude.{◌≡◌, Bool, ◌&&◌, List, ℕ, leb, length, Result, Ok, Err}
use Rattle.prelude.specs.Pick.{pick}
use Rattle.prelude.specs.Told.{Told, gives, refuses}
use Rattle.prelude.specs.declared.Place.TheVariants.{One}
use Rattle.prelude.specs.declared.Refusal.TheVariants.{Malformed, TooShort}
use Rattle.prelude.specs.declared.Refusal.{Refusal}
use Rattle.blocks.specs.Outcome.{origins, sizes, over, room_for, ToldBy}
use Rattle.record_lines.specs.Pieces.{Piece}
use Rattle.record_scan.specs.Reading.{Read, sound, faulty}
use Rattle.record_read.specs.Given.{filled}
use Rattle.record_read.specs.Runs.{reach, blocks_given}

-- What is lent to a call; the scratch for nothing but its speed.
pub record Lent : Type 0 where
  pub bytes : List ℕ
  pub offsets : List ℕ
  pub sizes : List ℕ
  pub scratch : List ℕ

abbrev pub lent : List ℕ → List ℕ → List ℕ → List ℕ → Lent
lent bytes offsets sizes scratch = record { bytes = bytes; offsets = offsets; sizes = sizes; scratch = scratch }

-- Room for the bytes up to the highest end, and for the blocks: in both lists.
abbrev pub bytes_fit : ℕ → List Piece → Lent → Bool
bytes_fit load pieces l = leb (reach load pieces) (length l.bytes)

abbrev pub blocks_fit : ℕ → List Piece → Lent → Bool
blocks_fit load pieces l = room_for (blocks_given load pieces) l.offsets l.sizes

abbrev pub answer_of : ℕ → Lent → Read → Result ℕ Refusal
answer_of load l (sound pieces) =
    pick (bytes_fit load pieces l)
    (pick (blocks_fit load pieces l) (Ok (length (blocks_given load pieces))) (Err (TooShort 2)))
    (Err (TooShort 0))
answer_of load l (faulty line) = Err (Malformed 0)

-- The same in document 01's figures.
abbrev pub told_of : ℕ → Lent → Read → Told ℕ
told_of load l (sound pieces) =
    pick (bytes_fit load pieces l) (pick (blocks_fit load pieces l) (gives (length (blocks_given load pieces))) (refuses 14 (One 2))) (refuses 14 (One 0))
told_of load l (faulty line) = refuses 4 (One 0)

-- What is lent afterwards: accepted, the bytes that the file gives and its blocks stand there, and everything else, the scratch too, is as it was; refused,
-- everything.
abbrev pub all_fit : ℕ → List Piece → Lent → Bool
all_fit load pieces l = bytes_fit load pieces l && blocks_fit load pieces l

abbrev pub taken : ℕ → List Piece → Lent → Lent
taken load pieces l =
    let blocks = blocks_given load pieces in
    lent (filled load pieces l.bytes) (over (origins blocks) l.offsets) (over (sizes blocks) l.sizes) l.scratch

abbrev pub lent_after : ℕ → Lent → Read → Lent
lent_after load l (sound pieces) = pick (all_fit load pieces l) (taken load pieces l) l
lent_after load l (faulty line) = l

pub record Reads (load : ℕ) (read : Read) (old : Lent) (r : Result ℕ Refusal) (new : Lent) : Type 0 where
  pub answer : r ≡ answer_of load old read
  pub figures : ToldBy r ≡ told_of load old read
  pub after : new ≡ lent_after load old read
