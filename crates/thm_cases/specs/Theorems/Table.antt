-- Theorems about what Table defines.
use Rattle.std.specs.Prelude.{◌≡◌, refl, map}
use Rattle.bankdef.specs.Check.{first_pair}
use Rattle.bankdef.specs.Search.{first_where}
use Rattle.bankdef.specs.Fill.{fill_from}
use Rattle.iter.specs.Distance.{distance_of}
use Rattle.iter.specs.Theorems.Cases.{distance_cases}
use Rattle.overlap_checker.specs.Interval.{clashes, shares_bit, strictly_inside}
use Rattle.overlap_checker.specs.Offers.{place_for, clashes_any, named, lacks_room}
use Rattle.overlap_checker.specs.Marks.{count_below, crosses_any, lowest_inside}
use Rattle.overlap_checker.specs.State.{meets, tries, named_in, keeping, after}
use Rattle.overlap_checker.specs.Folds.{state_after}
use Rattle.resolver.specs.Layout.{layout_of}
use Rattle.nodes.specs.Lists.{lists_of, nodes_to}
use Rattle.resolver.specs.Once.{pass_to}
use Rattle.resolver.specs.Passes.{first, settled_by}
use Rattle.bitvec.specs.Bits.{bit_at}
use Rattle.bitvec.specs.Lists.{list_of}
use Rattle.bitvec.specs.Numeral.{numeral}
use Rattle.bitvec.specs.HexDigits.{digit_at, digit_value, padded_bit}
use Rattle.sort.specs.Sorted.{insert_by, sorted_by}
use Rattle.blocks.specs.Spans.{spans_of}
use Rattle.blocks.specs.Walk.{blocks_from}
use Rattle.build_plan.specs.Placing.{checked}
use Rattle.thm_cases.specs.Table.{Case, Cases, table}

pub cases : Cases
unfolding distance_of first_where first_pair fill_from state_after after keeping tries meets named_in count_below crosses_any lowest_inside place_for
    clashes_any named lacks_room clashes shares_bit strictly_inside checked insert_by sorted_by spans_of blocks_from layout_of lists_of nodes_to settled_by
    first pass_to list_of numeral bit_at digit_at digit_value padded_bit
cases = record { any = distance_cases.none; rows = every-row }
  where
    every-row : map (λ (c : Case). c.got) table ≡ map (λ (c : Case). c.said) table
    every-row = refl
