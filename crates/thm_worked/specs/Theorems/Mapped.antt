-- What `prog_map` prints for the same two files, computed from their bytes by the definition that its contract cites: where each node stands, and in March's
-- file which one is at fault.
use Rattle.std.specs.Prelude.{◌≡◌, refl, ◌++◌, None}
use Rattle.bankdef.specs.Check.{first_pair}
use Rattle.bankdef.specs.Search.{first_where}
use Rattle.iter.specs.Address.{address_of}
use Rattle.iter.specs.Distance.{distance_of}
use Rattle.iter.specs.Step.{start_of, seen_of, moved_on, advanced_of, seen_skips, advance_skips, step_of}
use Rattle.nodes.specs.Lists.{any_row_fault, nodes_to, lists_of}
use Rattle.resolver.specs.Layout.{layout_of}
use Rattle.resolver.specs.Once.{walk_to, pass_to}
use Rattle.resolver.specs.Padding.{sum_in}
use Rattle.resolver.specs.Passes.{first, settled_by}
use Rattle.overlap_checker.specs.Folds.{state_after}
use Rattle.overlap_checker.specs.Interval.{shares_bit, strictly_inside, clashes}
use Rattle.overlap_checker.specs.Marks.{count_below, crosses_any, lowest_inside}
use Rattle.overlap_checker.specs.Offers.{place_for, clashes_any, named, lacks_room}
use Rattle.overlap_checker.specs.State.{meets, tries, named_in, keeping, after}
use Rattle.bitvec.specs.Lists.{list_of}
use Rattle.build_visits.specs.Visits.{visits_to}
use Rattle.build_plan.specs.Placing.{checked, placed_from, walked_from}
use Rattle.build_map.specs.Map.{map_of}
use Rattle.form_fields.specs.Banks.{bank_at}
use Rattle.form_fields.specs.Columns.{column}
use Rattle.form_fields.specs.Example.{example_file}
use Rattle.form_fields.specs.Fields.{field_at, sound_at, run_in, run}
use Rattle.form_fields.specs.Kind.{begins2, kind_of}
use Rattle.form_fields.specs.Lists.{cells}
use Rattle.form_fields.specs.Shape.{bank_count_in, nodes_start_in, node_count_in, rows_start_in, row_count_in, values_start_in, values_size_in, limit_start_in}
use Rattle.form_fields.specs.Shape.{fields_before_in, shape_in, form_in}
use Rattle.form_fields.specs.Words.{word16, word32, word64}
use Rattle.print_text.specs.Ascii.{ascii}
use Rattle.print_text.specs.Decimal.{digits_in, decimal}
use Rattle.print_map.specs.Cells.{cells_from}
use Rattle.print_map.specs.Text.{banks_text, nodes_text, map_text}
use Rattle.thm_worked.specs.March.{march_file}

-- March's file: node 7, the second table, would have been written 64 bits into the first, which node 2 wrote.
pub march-mapped : map_text march_file 0 None
    ≡ ascii "file 1 10 1 2 8\n"
    ++ ascii "bank 0 8 0 - - - 0 0 0 0\n"
    ++ ascii "bank 1 8 32768 512 0 - 0 0 0 0\n"
    ++ ascii "node 0 1 1 0 32768 0 0\n"
    ++ ascii "node 1 2 1 0 32768 0 0\n"
    ++ ascii "node 2 5 1 0 32768 0 128\n"
    ++ ascii "node 3 9 1 128 32784 128 0\n"
    ++ ascii "node 4 7 1 0 32768 0 0\n"
    ++ ascii "node 5 9 1 0 32768 0 0\n"
    ++ ascii "node 6 2 1 64 32776 64 0\n"
    ++ ascii "node 7 5 1 64 32776 64 32\n"
    ++ ascii "fault 7\n"
    ++ ascii "refused 12 0 128\n"
unfolding march_file map_text banks_text nodes_text cells_from map_of walked_from sum_in list_of begins2 kind_of form_in shape_in bank_count_in nodes_start_in node_count_in
    rows_start_in row_count_in values_start_in values_size_in limit_start_in fields_before_in run run_in sound_at field_at word16 word32 word64 bank_at column cells layout_of
    lists_of nodes_to any_row_fault first_where first_pair settled_by first pass_to walk_to start_of step_of seen_of moved_on advanced_of seen_skips advance_skips
    distance_of address_of visits_to checked placed_from state_after after keeping tries meets named_in count_below crosses_any lowest_inside place_for clashes_any
    named lacks_room clashes shares_bit strictly_inside decimal digits_in
march-mapped = refl

-- document 01's example
pub worked-mapped : map_text example_file 0 None
    ≡ ascii "file 1 10 1 2 5\n"
    ++ ascii "bank 0 8 0 - - - 0 0 0 0\n"
    ++ ascii "bank 1 10 64 40 0 - 1 0 0 0\n"
    ++ ascii "node 0 1 1 0 64 0 0\n"
    ++ ascii "node 1 2 1 0 64 0 0\n"
    ++ ascii "node 2 5 1 0 64 0 10\n"
    ++ ascii "node 3 7 1 10 65 10 10\n"
    ++ ascii "node 4 4 1 20 66 20 10\n"
    ++ ascii "accepted\n"
unfolding example_file map_text banks_text nodes_text cells_from map_of walked_from sum_in list_of begins2 kind_of form_in shape_in bank_count_in nodes_start_in node_count_in
    rows_start_in row_count_in values_start_in values_size_in limit_start_in fields_before_in run run_in sound_at field_at word16 word32 word64 bank_at column cells layout_of
    lists_of nodes_to any_row_fault first_where first_pair settled_by first pass_to walk_to start_of step_of seen_of moved_on advanced_of seen_skips advance_skips
    distance_of address_of visits_to checked placed_from state_after after keeping tries meets named_in count_below crosses_any lowest_inside place_for clashes_any
    named lacks_room clashes shares_bit strictly_inside decimal digits_in
worked-mapped = refl
