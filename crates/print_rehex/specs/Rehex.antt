-- What is printed for the bytes of a file of records: the same bytes at the same addresses as records of the kind that is asked
-- for, or why not.
use Rattle.std.specs.Prelude.{List, [], ◌∷◌, ◌++◌, ℕ, leb, length}
use Rattle.prelude.specs.Pick.{pick}
use Rattle.prelude.specs.declared.Refusal.TheVariants.{Malformed, TooShort}
use Rattle.print_text.specs.Ascii.{ascii}
use Rattle.print_text.specs.Lines.{line, refusal_text}
use Rattle.record_scan.specs.Reading.{Read, sound, faulty, read_text}
use Rattle.record_read.specs.Given.{filled}
use Rattle.record_read.specs.Runs.{reach, blocks_given}
use Rattle.record_write.specs.Text.{text_of}
use Rattle.thm_record_room.specs.Records.{format_ok}

-- How long a file may be, how many bytes from the load address on it may give, and in how many blocks.
abbrev pub longest : ℕ
longest = 3276800

abbrev pub bytes_room : ℕ
bytes_room = 1048576

abbrev pub blocks_room : ℕ
blocks_room = 4096

-- Behind a refusal, the line at which no good file goes on, from 0, where there is one.
abbrev pub fault_text : Read → List ℕ
fault_text (sound pieces) = []
fault_text (faulty n) = line (ascii "line") (n ∷ [])

-- What was read, written in a format: `old` is what stood in the room for the bytes, of which nothing is written.
module _ (format load : ℕ) (old : List ℕ) where
  abbrev pub turned : Read → List ℕ
  turned (faulty n) = refusal_text (Malformed 0) ++ fault_text (faulty n)
  turned (sound pieces) =
      pick (leb (reach load pieces) bytes_room)
      (pick (leb (length (blocks_given load pieces)) blocks_room)
      (pick (format_ok format load (blocks_given load pieces)) (text_of format load (filled load pieces old) (blocks_given load pieces))
      (refusal_text (Malformed 0)))
      (refusal_text (TooShort 2)))
      (refusal_text (TooShort 0))

-- The whole output for a file, read as Intel HEX where the kind is 0, else as S-records.
unfoldable pub turned_text : ℕ → ℕ → ℕ → List ℕ → List ℕ → List ℕ
turned_text kind format load old source =
    pick (leb (length source) longest) (turned format load old (read_text kind load source)) (refusal_text (Malformed 0))
