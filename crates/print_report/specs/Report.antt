-- What the program prints for a file's bytes (document 01: "The program `layout` reads form 1 .. and lends 16,384 image bytes, 4,096 spans and
-- 4,096 blocks"; document 02: "The program reads either").
use Rattle.std.specs.Prelude.{List, ℕ, Option, Err, Ok, Result}
use Rattle.bankdef.specs.Check.{banks_of}
use Rattle.bankdef.specs.declared.Bankdefs.{Bankdefs}
use Rattle.build_write.specs.Blank.{blank_of}
use Rattle.build_visits.specs.Items.{items_of, image_of}
use Rattle.build_visits.specs.Spans.{spans_of as spans_in, words, sizes as span_sizes}
use Rattle.output.specs.Output.{Room}
use Rattle.build_visits.specs.declared.Visit.{Visit}
use Rattle.output.specs.declared.Output.{Output}
use Rattle.output.specs.declared.Built.{Built}
use Rattle.form_fields.specs.Banks.{table_of}
use Rattle.form_build.specs.Filed.{lists_in, file_output, file_visits}
use Rattle.print_text.specs.Lines.{refusal_text}
use Rattle.print_answer.specs.Answer.{image_room, done_text}
use Rattle.prelude.specs.declared.Refusal.{Refusal}

-- "4,096 spans"
abbrev pub span_room : ℕ
span_room = 4096

abbrev pub lent_room : Room
lent_room = record { image = image_room; spans = span_room }

-- The text of a build over the visits of its last pass, where `done` is that of an accepted one. "A refusal prints `refused`, number and place, one space
-- between."
abbrev pub answer_by : (ℕ → ℕ → List ℕ → List ℕ → List ℕ → List ℕ) → Bankdefs → List Visit → List ℕ → Result Built Refusal → List ℕ
answer_by done banks vs values (Err why) = refusal_text why
answer_by done banks vs values (Ok ended) =
    done ended.k ended.length (words (spans_in vs)) (span_sizes (spans_in vs)) (image_of values (blank_of (banks_of banks) ended.length image_room) (items_of vs))

abbrev pub answer_text : Bankdefs → List Visit → List ℕ → Result Built Refusal → List ℕ
answer_text = answer_by done_text

-- The program's whole output for a file, a fill and a page size, if there is one: of its build, in the room that the program lends.
abbrev pub built_by : (ℕ → ℕ → List ℕ → List ℕ → List ℕ → List ℕ) → List ℕ → Output → List ℕ
built_by done file answer = answer_by done (table_of file) (file_visits file answer.passes) (lists_in file).values answer.build

abbrev pub built_text : List ℕ → Output → List ℕ
built_text = built_by done_text

unfoldable pub report_text : List ℕ → ℕ → Option ℕ → List ℕ
report_text file fill page = built_text file (file_output file fill page lent_room)
