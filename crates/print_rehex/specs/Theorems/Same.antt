-- What the program prints, said of its definition: the same bytes at the same addresses.
use Rattle.std.specs.Prelude.{◌≡◌, refl, true, List, ◌++◌, ◌↔◌, ℕ, ◌≤◌, length}
use Rattle.std.proofs.Common.{ap, ◌∙◌, le-leb}
use Rattle.prelude.specs.Laws.Pick.{pick_true}
use Rattle.prelude.specs.declared.Refusal.TheVariants.{Malformed}
use Rattle.print_text.specs.Lines.{refusal_text}
use Rattle.record_scan.specs.Reading.{sound, faulty, read_text}
use Rattle.record_lines.specs.Pieces.{Piece, GivesAt}
use Rattle.record_read.specs.Given.{filled}
use Rattle.record_read.specs.Runs.{reach, blocks_given}
use Rattle.record_read.specs.Theorems.GivenLaws.{filled-long}
use Rattle.record_write.specs.Cut.{pieces_of}
use Rattle.record_write.specs.Text.{text_of}
use Rattle.thm_records.specs.Theorems.Copied.{copied}
use Rattle.print_rehex.specs.Laws.Turned.{not-long}
use Rattle.thm_record_room.specs.Records.{format_ok}
use Rattle.print_rehex.specs.Rehex.{longest, bytes_room, blocks_room, fault_text, turned, turned_text}

module _ (kind format load : ℕ) (old source : List ℕ) (short : length source ≤ longest) where
  -- A file that is at fault is refused with 4, and its line is named.
  pub fault-prints-its-line : (n : ℕ) → read_text kind load source ≡ faulty n
      → turned_text kind format load old source ≡ refusal_text (Malformed 0) ++ fault_text (faulty n)
  fault-prints-its-line n e = not-long kind format load old source short ∙ ap (turned format load old) e

  module _ (pieces : List Piece) (reads : read_text kind load source ≡ sound pieces) where
    -- A good file within the limits is written,
    pub good-is-written : reach load pieces ≤ bytes_room → length (blocks_given load pieces) ≤ blocks_room → format_ok format load (blocks_given load pieces) ≡ true
        → turned_text kind format load old source ≡ text_of format load (filled load pieces old) (blocks_given load pieces)
    good-is-written near few fits =
        not-long kind format load old source short ∙ ap (turned format load old) reads
        ∙ pick_true _ _ (le-leb (reach load pieces) bytes_room near) ∙ pick_true _ _ (le-leb (length (blocks_given load pieces)) blocks_room few)
        ∙ pick_true _ _ fits

    -- and "gives the same bytes at the same addresses", whatever stood in the room for the bytes.
    pub written-gives-the-same : reach load pieces ≤ length old → (a b : ℕ)
        → GivesAt (pieces_of load (filled load pieces old) (blocks_given load pieces)) a b ↔ GivesAt pieces a b
    written-gives-the-same near = copied kind load source pieces reads old (filled load pieces old) refl near (filled-long load pieces old)
