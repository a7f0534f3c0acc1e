-- Theorems about what Places defines.
use Rattle.std.specs.Prelude.{ℕ, ◌-◌, ◌≤◌, min, length, get_or, Result, Err, Ok}
use Rattle.prelude.specs.Limits.{max_position}
use Rattle.prelude.specs.declared.Refusal.{Refusal}
use Rattle.resolver.specs.Passes.{program, row_of_pass}
use Rattle.build_visits.specs.Items.{items_of, length_of}
use Rattle.output.specs.Output.{Input, Room, settled_build, build_of, visits_of, closed_of, fill_of, passes_of, settled_of}
use Rattle.build_plan.specs.Placing.{placed_all}
use Rattle.build_visits.specs.Spans.{spans_of}
use Rattle.build_paged.specs.InProfile.{said_of}
use Rattle.print_report.specs.Blocks.{farthest}
use Rattle.print_report.specs.Laws.Fitting.{row_small}
use Rattle.print_report.specs.Steps.{OffsetsFit}
use Rattle.print_report.specs.Laws.Places.{layout-near, placed-near, room-near, said-near, settled_sum}
use Rattle.print_report.specs.Places.{Near, build_sum}

-- A build whose numbers are within document 01's table.
module _ (b : Input) (banks : OffsetsFit b.banks) (numbers : (i : ℕ) → get_or b.lists.numbers i 0 ≤ max_position)
    (few-banks : b.banks.len ≤ max_position) (few-nodes : length b.lists.kinds ≤ max_position) where
  settled-near : (room : Room) (passes : ℕ) (s : Result ℕ Refusal) → settled_sum s ≤ farthest → build_sum (settled_build b room passes s) ≤ farthest
  settled-near room passes (Err why) h = h
  settled-near room passes (Ok k) h =
      let vs = visits_of b passes in
      room-near room k (length_of (fill_of b) (items_of vs)) (length (spans_of vs)) (placed_all (closed_of b) vs)
      (placed-near (program b.banks b.lists) (row_of_pass b.lists passes) (closed_of b) banks (row_small b banks numbers 0)
      (row_small b banks numbers (min passes b.lists.rows - 1)) (length b.lists.kinds) few-nodes)

  pub build-near : (room : Room) → build_sum (build_of b room).build ≤ farthest
  unfolding build_of
  build-near room = settled-near room (passes_of b) (settled_of b) (layout-near b.banks b.lists few-banks few-nodes b.choices)

  pub profile-near : (page : ℕ) → Near (said_of page b)
  profile-near page = said-near b.banks b.lists few-banks few-nodes b.choices.fill page
