-- The text of the bytes of a layout file as records: the image, or why not.
use Rattle.std.specs.Prelude.{Bool, List, [], ◌∷◌, ◌++◌, ℕ, ◌+◌, ◌*◌, ◌/◌, eqb, Option, Result}
use Rattle.prelude.specs.Pick.{pick}
use Rattle.prelude.specs.declared.Refusal.{Refusal}
use Rattle.bankdef.specs.declared.Bankdefs.{Bankdefs}
use Rattle.blocks.specs.Spans.{spans_of}
use Rattle.blocks.specs.Walk.{block, blocks_of}
use Rattle.blocks.specs.declared.Block.{Block}
use Rattle.build_visits.specs.declared.Visit.{Visit}
use Rattle.output.specs.declared.Output.{Output}
use Rattle.output.specs.declared.Built.{Built}
use Rattle.form_build.specs.Filed.{file_output}
use Rattle.print_text.specs.Ascii.{ascii}
use Rattle.print_text.specs.Lines.{refusal_text}
use Rattle.print_report.specs.Report.{lent_room, answer_by, built_by}
use Rattle.thm_record_room.specs.Records.{records_or}
use Rattle.print_records.specs.declared.Wanted.{Wanted}

-- Blocks of a layout that was accepted, refused: the refusal's line, and one that says so.
abbrev pub refused_text : Refusal → List ℕ
refused_text why = refusal_text why ++ ascii "records\n"

-- The records of blocks, in a room in which every file fits, or those lines.
abbrev pub records_of : ℕ → ℕ → List ℕ → List Block → List ℕ
records_of = records_or refused_text

-- The whole image as one block of whole bytes; an image without bits has none.
abbrev pub whole_blocks : ℕ → List Block
whole_blocks bits = pick (eqb bits 0) [] (block 0 (8 * ((bits + 7) / 8)) ∷ [])

-- Which blocks are written: those of the spans, by document 01's rule, or the whole image.
abbrev pub blocks_by : Bool → ℕ → List ℕ → List ℕ → List Block
blocks_by whole bits offsets sized = pick whole (whole_blocks bits) (blocks_of (spans_of offsets sized))

abbrev pub done_text : Wanted → ℕ → List ℕ → List ℕ → List ℕ → List ℕ
done_text w bits offsets sized image = records_of w.format w.load image (blocks_by w.whole bits offsets sized)

-- of a build over the visits of its last pass, and of a file's
abbrev pub answer_text : Wanted → Bankdefs → List Visit → List ℕ → Result Built Refusal → List ℕ
answer_text w = answer_by (λ k. done_text w)

abbrev pub built_text : Wanted → List ℕ → Output → List ℕ
built_text w = built_by (λ k. done_text w)

-- The whole text for a file, what is wanted of it, a fill and a page size, if there is one.
unfoldable pub records_text : Wanted → List ℕ → ℕ → Option ℕ → List ℕ
records_text w file fill page = built_text w file (file_output file fill page lent_room)
