-- `trace` meets its contract: the first walk's verdict, and how many nodes it met.
use mathlib.Core.List.{List}
use native.Mathlib.Omega.{arith}
use Rattle.build_visits.specs.Visits.{visits}
use Rattle.build_visits.specs.declared.Visit.{Visit}
use Rattle.build_map.specs.Steps.{program_of, row_of}
use Rattle.build_map.specs.Laws.TracedLaws.{some-walked}
use Rattle.build_map.proofs.rows.LastRow.trace.Goals as goal

pub stopped-requires : goal.stopped-requires
stopped-requires c =
    let seen : List Visit =
    let a = c.args in
    visits (program_of a.self) (row_of a.self) in
    omega (
      arith,
      c.meet_row-met.ensures.nodes_value,
      some-walked c.args.closed seen _ _ _ _ c.meet_row-met.ensures.verdict_value c.in-Err.why
          c.in-Err.is,
    )
