-- What `layout` prints for two files, computed from their bytes by the definitions that its contract cites: the file is sound, its layout is accepted or
-- refused, and the text follows.
use Rattle.std.specs.Prelude.{◌≡◌, refl, List, ◌++◌, ℕ, None}
use Rattle.std.proofs.Common.{ap, ◌∙◌, arith}
use Rattle.bankdef.specs.Check.{banks_of, first_pair}
use Rattle.bankdef.specs.Search.{first_where}
use Rattle.bankdef.specs.Fill.{fill_from}
use Rattle.bankdef.specs.FillBits.{ones_in}
use Rattle.iter.specs.Address.{address_of}
use Rattle.iter.specs.Distance.{distance_of}
use Rattle.iter.specs.Step.{start_of, seen_of, moved_on, advanced_of, seen_skips, advance_skips, step_of}
use Rattle.nodes.specs.Lists.{any_row_fault, nodes_to, lists_of}
use Rattle.resolver.specs.Layout.{layout_of}
use Rattle.resolver.specs.Once.{walk_to, pass_to}
use Rattle.resolver.specs.Passes.{first, settled_by}
use Rattle.overlap_checker.specs.Interval.{shares_bit, strictly_inside, clashes}
use Rattle.overlap_checker.specs.Folds.{state_after}
use Rattle.overlap_checker.specs.Marks.{count_below, crosses_any, lowest_inside}
use Rattle.overlap_checker.specs.Offers.{place_for, clashes_any, named, lacks_room}
use Rattle.overlap_checker.specs.State.{meets, tries, named_in, keeping, after}
use Rattle.sort.specs.Sorted.{insert_by, sorted_by}
use Rattle.bitvec.specs.Bits.{bit_at, of_bits}
use Rattle.bitvec.specs.HexDigits.{hex_of, padded_bit, digit_value, digit_at}
use Rattle.bitvec.specs.Lists.{list_of}
use Rattle.bitvec.specs.Numeral.{numeral}
use Rattle.bitvec.specs.Within.{covers}
use Rattle.bitvec.specs.Written.{written_bit, written}
use Rattle.blocks.specs.Spans.{spans_of}
use Rattle.blocks.specs.Walk.{blocks_from}
use Rattle.build_visits.specs.Items.{items_of, length_of, image_of}
use Rattle.build_visits.specs.Visits.{visits_to, each}
use Rattle.build_plan.specs.Placing.{checked, placed_from}
use Rattle.build_write.specs.Blank.{blank_of}
use Rattle.output.specs.Output.{build_of}
use Rattle.form_fields.specs.Banks.{bank_at, table_of}
use Rattle.form_fields.specs.Columns.{column}
use Rattle.form_fields.specs.Example.{example_file}
use Rattle.form_fields.specs.Fields.{field_at, sound_at, run_in, run}
use Rattle.form_fields.specs.Kind.{begins2, kind_of}
use Rattle.form_fields.specs.Lists.{cells}
use Rattle.form_fields.specs.Shape.{bank_count_in, nodes_start_in, node_count_in, rows_start_in, row_count_in, values_start_in, values_size_in, limit_start_in}
use Rattle.form_fields.specs.Shape.{fields_before_in, shape_in, form_in}
use Rattle.form_fields.specs.Words.{word16, word32, word64}
use Rattle.form_build.specs.Filed.{lists_in, file_visits}
use Rattle.print_text.specs.Ascii.{ascii}
use Rattle.print_text.specs.Decimal.{digits_in, decimal}
use Rattle.print_text.specs.Lines.{spaced, blocks_text, image_text}
use Rattle.print_report.specs.Report.{report_text}
use Rattle.thm_worked.specs.Laws.Room.{any-room}
use Rattle.thm_worked.specs.March.{march_file}

-- In March a reservation of zero bits on the first word let the second table be written into the first: it is refused, and the table is named.
pub march-refused : report_text march_file 0 None ≡ ascii "refused 12 0 128\n"
unfolding march_file report_text begins2 kind_of form_in shape_in bank_count_in nodes_start_in node_count_in rows_start_in row_count_in values_start_in values_size_in
    limit_start_in fields_before_in run run_in sound_at field_at word16 word32 word64 bank_at column cells build_of layout_of lists_of nodes_to any_row_fault
    first_where first_pair fill_from settled_by first pass_to walk_to start_of step_of seen_of moved_on advanced_of seen_skips advance_skips distance_of address_of
    visits_to each checked placed_from state_after after keeping tries meets named_in count_below crosses_any lowest_inside place_for clashes_any named lacks_room clashes
    shares_bit strictly_inside spaced decimal digits_in
march-refused = refl

-- ---- document 01's example

-- its image, in so many bytes
abbrev image : ℕ → List ℕ
image room = image_of (lists_in example_file).values (blank_of (banks_of (table_of example_file)) 40 room) (items_of (file_visits example_file 2))

-- the lines before the image's digits, which are those of 40 bits
up-to-image : report_text example_file 0 None ≡ ascii "passes 1\nblock 0 10\nblock 20 10\n" ++ image_text (hex_of (image 16384) 40)
unfolding example_file report_text begins2 kind_of form_in shape_in bank_count_in nodes_start_in node_count_in rows_start_in row_count_in values_start_in values_size_in
    limit_start_in fields_before_in run run_in sound_at field_at word16 word32 word64 bank_at column cells build_of layout_of lists_of nodes_to any_row_fault
    first_where first_pair fill_from settled_by first pass_to walk_to start_of step_of seen_of moved_on advanced_of seen_skips advance_skips distance_of address_of
    visits_to each checked placed_from state_after after keeping tries meets named_in count_below crosses_any lowest_inside place_for clashes_any named
    lacks_room clashes shares_bit strictly_inside spaced decimal digits_in blocks_text insert_by sorted_by spans_of blocks_from length_of
up-to-image = refl

-- and those digits, in the image's own five bytes
digits : image_text (hex_of (image 5) 40) ≡ ascii "image ffc002a800\n"
unfolding example_file begins2 kind_of form_in shape_in bank_count_in nodes_start_in node_count_in rows_start_in row_count_in values_start_in values_size_in limit_start_in
    fields_before_in run run_in sound_at field_at word16 word32 word64 bank_at column cells walk_to start_of step_of seen_of moved_on advanced_of seen_skips
    advance_skips distance_of address_of visits_to each image_text image_of blank_of ones_in of_bits list_of numeral bit_at written_bit written covers digit_at
    digit_value padded_bit
digits = refl

-- "Input: bank 0 unit 8, rest zero; .. Output: passes 1, block 0 10, block 20 10, image ffc002a800"
pub worked-printed : report_text example_file 0 None ≡ ascii "passes 1\nblock 0 10\nblock 20 10\nimage ffc002a800\n"
worked-printed =
    up-to-image
    ∙ ap (λ (hex : List ℕ). ascii "passes 1\nblock 0 10\nblock 20 10\n" ++ image_text hex)
    (any-room (lists_in example_file).values (banks_of (table_of example_file)) (items_of (file_visits example_file 2)) 40 16384 5 (omega arith) (omega arith))
    ∙ ap (λ (text : List ℕ). ascii "passes 1\nblock 0 10\nblock 20 10\n" ++ text) digits
