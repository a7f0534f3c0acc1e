-- A file of the bench: what it gives, where its image ends, and which bytes it does not give.
use Rattle.std.specs.Prelude.{◌&&◌, List, [], ◌∷◌, ◌++◌, ℕ, ◌+◌, ◌-◌, ◌/◌, leb, ltb, length, take, get_or}
use Rattle.prelude.specs.Pick.{pick}
use Rattle.prelude.specs.declared.Refusal.{Refusal}
use Rattle.prelude.specs.declared.Refusal.TheVariants.{Malformed, TooShort}
use Rattle.blocks.specs.Outcome.{origins, sizes}
use Rattle.print_text.specs.Ascii.{ascii}
use Rattle.print_text.specs.Lines.{line, refusal_text}
use Rattle.record_scan.specs.Reading.{Read, sound, faulty, read_text}
use Rattle.record_read.specs.Given.{filled}
use Rattle.record_read.specs.Runs.{reach, blocks_given}

-- How long a file may be, how many bytes from the load address on it may give, and in how many blocks.
abbrev pub longest : ℕ
longest = 1048576

abbrev pub bytes_room : ℕ
bytes_room = 524288

abbrev pub blocks_room : ℕ
blocks_room = 4096

-- What a file gives: its bytes from the load address on, in what stood in the room for them, and its blocks in bits, counted from that address; or why it is
-- refused.
pub data File : Type 0 where
  given : List ℕ → List ℕ → List ℕ → File
  unread : Refusal → File

module _ (load : ℕ) (old : List ℕ) where
  abbrev pub read_file : Read → File
  read_file (faulty n) = unread (Malformed 0)
  read_file (sound pieces) =
      pick (leb (reach load pieces) bytes_room)
      (pick (leb (length (blocks_given load pieces)) blocks_room)
      (given (filled load pieces old) (origins (blocks_given load pieces)) (sizes (blocks_given load pieces)))
      (unread (TooShort 2)))
      (unread (TooShort 0))

  unfoldable pub file_of : List ℕ → File
  file_of source = pick (leb (length source) longest) (read_file (read_text 0 load source)) (unread (Malformed 0))

-- Behind the refusal of a file: which one it is, and the line at which no good file goes on, from 0, where there is one.
abbrev pub fault_text : Read → List ℕ
fault_text (sound pieces) = []
fault_text (faulty n) = line (ascii "line") (n ∷ [])

unfoldable pub fault_in : ℕ → List ℕ → List ℕ
fault_in load source = pick (leb (length source) longest) (fault_text (read_text 0 load source)) []

abbrev pub unread_text : List ℕ → Refusal → List ℕ → List ℕ
unread_text name why behind = refusal_text why ++ name ++ behind

-- An image ends where the last block does.
abbrev pub extent_of : List ℕ → List ℕ → ℕ
extent_of offsets sizes = get_or offsets (length offsets - 1) 0 / 8 + get_or sizes (length offsets - 1) 0 / 8

abbrev pub image_of : List ℕ → List ℕ → List ℕ → List ℕ
image_of bytes offsets sizes = take (extent_of offsets sizes) bytes

-- The first byte from `at` on that no block holds, the blocks ascending: a block that holds the byte is gone past.
abbrev pub beyond_of : ℕ → ℕ → ℕ → ℕ
beyond_of offset size at = pick (leb (offset / 8) at && ltb at (offset / 8 + size / 8)) (offset / 8 + size / 8) at

unfoldable pub free_from : List ℕ → List ℕ → ℕ → ℕ
free_from [] sizes at = at
free_from (o ∷ offsets) [] at = at
free_from (o ∷ offsets) (s ∷ sizes) at = free_from offsets sizes (beyond_of o s at)

-- The first byte that the second of two files gives and the first does not, or `end`: block by block.
module _ (offsets₁ sizes₁ : List ℕ) where
  unfoldable pub alone_in : List ℕ → List ℕ → ℕ → ℕ
  alone_in [] sizes end = end
  alone_in (o ∷ offsets) [] end = end
  alone_in (o ∷ offsets) (s ∷ sizes) end =
      let free : ℕ = free_from offsets₁ sizes₁ (o / 8) in
      pick (ltb free (o / 8 + s / 8)) free (alone_in offsets sizes end)
