-- What the map's program prints of a layout file, one record a line:
--
--     file FORM LIMIT ROWS PASSES NODES
--     bank I UNIT START SIZE OFFSET ALIGN FILL BIT PADDING UNITS     every bank of the table, with the bits and the whole units that it has lost
--     node I KIND BANK POSITION ADDRESS OUTPUT SIZE                  every node that has an entry
--     fault N                                                        where there is one
--     accepted, or refused NUMBER PLACE
--
-- A file whose form is broken is a refusal's line alone.
use Rattle.std.specs.Prelude.{List, [], ◌∷◌, ◌++◌, ℕ, zero, suc, min, eqb, get_or, replicate, Result, ℤ, Ok, Err, Option, None, Some}
use Rattle.prelude.specs.Limits.{max_banks}
use Rattle.prelude.specs.Pick.{pick}
use Rattle.prelude.specs.Refusals.{number_of, place_of}
use Rattle.prelude.specs.declared.Place.{Place}
use Rattle.prelude.specs.declared.Place.TheVariants.{One, Two}
use Rattle.prelude.specs.declared.Refusal.{Refusal}
use Rattle.prelude.specs.Verdict.{Verdict, Accepted}
use Rattle.bankdef.specs.declared.Bankdef.{Bankdef}
use Rattle.bankdef.specs.declared.Bankdefs.{Bankdefs}
use Rattle.blocks.specs.Offsets.{no_offset}
use Rattle.iter.specs.Address.{address_of}
use Rattle.iter.specs.Step.{no_lost}
use Rattle.iter.specs.declared.Lost.{Lost}
use Rattle.nodes.specs.Lists.{Row}
use Rattle.resolver.specs.Once.{Program, bank_record}
use Rattle.resolver.specs.Passes.{program, row_of_pass}
use Rattle.output.specs.Output.{Input, input}
use Rattle.form_fields.specs.Banks.{table_of}
use Rattle.form_fields.specs.Shape.{form_of}
use Rattle.form_fields.specs.declared.Shape.{Shape}
use Rattle.form_build.specs.Filed.{lists_in, choices_of}
use Rattle.build_paged.specs.InProfile.{said_of}
use Rattle.build_map.specs.Map.{map_of, bank_shown, position_shown, output_shown, size_shown}
use Rattle.build_map.specs.declared.Map.{Map}
use Rattle.print_text.specs.Ascii.{ascii}
use Rattle.print_map.specs.Cells.{Cell, number, none, line_of, signed, optional}
use Rattle.print_map.specs.Marks.{bit_of}

-- ---- a bank

abbrev pub bank_line : ℕ → Bankdef → Lost → List ℕ
bank_line i def padding =
    line_of (ascii "bank")
    (number i ∷
    number def.unit ∷
    signed def.start ∷
    optional def.size ∷
    optional def.offset ∷
    optional def.align ∷
    number (bit_of def.fill) ∷
    number def.fill_bit ∷
    number padding.bits ∷
    number padding.units ∷
    [])

-- the first n banks of a table, with what each has lost
unfoldable pub banks_text : Bankdefs → List Lost → ℕ → List ℕ
banks_text banks padding zero = []
banks_text banks padding (suc i) = banks_text banks padding i ++ bank_line i (bank_record banks i) (get_or padding i no_lost)

-- ---- a node

-- an address, which a bank of a sound table always has
abbrev pub address_cell : Result ℤ Refusal → Cell
address_cell (Ok z) = signed z
address_cell (Err why) = none

-- a place in the output, or the word for none
abbrev pub word_cell : ℕ → Cell
word_cell word = pick (eqb word no_offset) none (number word)

-- a node by its kind, the bank that it stands in, its position, place in the output and size
abbrev pub node_line : Bankdefs → ℕ → ℕ → ℕ → ℕ → ℕ → ℕ → List ℕ
node_line banks i kind bank position word size =
    line_of (ascii "node")
    (number i ∷
    number kind ∷
    number bank ∷
    number position ∷
    address_cell (address_of (bank_record banks bank) position i) ∷
    word_cell word ∷
    number size ∷
    [])

-- the first n nodes of a row
unfoldable pub nodes_text : Program → Row → ℕ → List ℕ
nodes_text p row zero = []
nodes_text p row (suc i) =
    nodes_text p row i
    ++ node_line p.banks i (get_or p.kinds i 0) (bank_shown p row i) (position_shown p row i) (output_shown p row i) (size_shown p row i)

-- ---- the node at fault, and the verdict

abbrev pub fault_text : Option ℕ → List ℕ
fault_text None = []
fault_text (Some n) = line_of (ascii "fault") (number n ∷ [])

abbrev pub place_cells : Place → List Cell
place_cells (One p) = number p ∷ []
place_cells (Two p q) = number p ∷ number q ∷ []

-- "A refusal prints `refused`, number and place, one space between."
abbrev pub refused_text : Refusal → List ℕ
refused_text why = line_of (ascii "refused") (number (number_of why) ∷ place_cells (place_of why))

abbrev pub verdict_text : Verdict → List ℕ
verdict_text Accepted = ascii "accepted\n"
verdict_text (Err why) = refused_text why

-- ---- the file

abbrev pub file_line : Shape → ℕ → List ℕ
file_line s passes =
    line_of (ascii "file")
    (number s.form ∷ number s.limit ∷ number s.rows ∷ number passes ∷ number s.nodes ∷ [])

abbrev pub mapped_text : Shape → Bankdefs → Program → Row → Map → List ℕ
mapped_text s banks p row m =
    file_line s m.passes
    ++ banks_text banks m.padding (min banks.len max_banks)
    ++ nodes_text p row m.nodes
    ++ fault_text m.fault
    ++ verdict_text m.verdict

abbrev pub layout_text : Shape → Input → Map → List ℕ
layout_text s b m = mapped_text s b.banks (program b.banks b.lists) (row_of_pass b.lists m.passes) m

abbrev pub input_of : List ℕ → Shape → ℕ → Input
input_of file s fill = input (table_of file) (lists_in file) (choices_of s fill)

-- What the profile of a device with pages says of a layout, where there is a page size. "A build in the profile is the ordinary build after a yes.
-- Refusals: 19 (new), after 4 and before the first pass" (document 02, Ticket 9): no pass is run then, and no node has an entry.
abbrev pub said_in : Option ℕ → Input → Verdict
said_in None b = Accepted
said_in (Some bits) b = said_of bits b

abbrev pub map_after : Verdict → Map → Map
map_after Accepted m = m
map_after (Err why) m = record { verdict = Err why; passes = 0; nodes = 0; fault = None; padding = replicate max_banks no_lost }

abbrev pub map_in : Option ℕ → Input → Map
map_in page b = map_after (said_in page b) (map_of b)

abbrev pub text_by : List ℕ → ℕ → Option ℕ → Result Shape Refusal → List ℕ
text_by file fill page (Err why) = refused_text why
text_by file fill page (Ok s) = layout_text s (input_of file s fill) (map_in page (input_of file s fill))

-- The map's text of a file's bytes, a fill's choice and a page size, if there is one.
unfoldable pub map_text : List ℕ → ℕ → Option ℕ → List ℕ
map_text file fill page = text_by file fill page (form_of file)

-- room for any of them: 160 bytes for each of 4,096 nodes, and 8,192 for the rest
abbrev pub map_room : ℕ
map_room = 663552
