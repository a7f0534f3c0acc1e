-- What the report of a file is made of: the blocks of document 01's rule over the build's spans, and the build's image.
use Rattle.std.specs.Prelude.{List, ℕ}
use Rattle.bankdef.specs.Check.{banks_of}
use Rattle.blocks.specs.Spans.{spans_of}
use Rattle.blocks.specs.Walk.{blocks_of}
use Rattle.blocks.specs.declared.Block.{Block}
use Rattle.build_visits.specs.Items.{items_of, image_of}
use Rattle.build_visits.specs.Spans.{spans_of as spans_in, words, sizes as span_sizes}
use Rattle.build_write.specs.Blank.{blank_of}
use Rattle.form_fields.specs.Banks.{table_of}
use Rattle.form_build.specs.Filed.{lists_in, file_visits}
use Rattle.print_answer.specs.Answer.{image_room}

-- the blocks of the spans of a file's nodes, in the row of the last of so many passes
abbrev pub blocks_built : List ℕ → ℕ → List Block
blocks_built file passes = blocks_of (spans_of (words (spans_in (file_visits file passes))) (span_sizes (spans_in (file_visits file passes))))

-- the image of so many bits, in the room that the program lends
abbrev pub image_built : List ℕ → ℕ → ℕ → List ℕ
image_built file passes bits = image_of (lists_in file).values (blank_of (banks_of (table_of file)) bits image_room) (items_of (file_visits file passes))
