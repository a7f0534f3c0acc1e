-- `build_row` meets its contract: one law of BuildLaws for each return.
use mathlib.Core.Path.{◌≡◌, ap, ◌∙◌}
use mathlib.Core.Bool.{Bool}
use Prim.Native.Nat.{ℕ, min}
use lib.ListN.{length}
use Rattle.bankdef.specs.Check.{banks_of}
use Rattle.bankdef.specs.Fill.{fill_by}
use Rattle.nodes.specs.Lists.{Row, row_with}
use Rattle.resolver.specs.Once.{Program, program_with}
use Rattle.build_plan.specs.Placing.{closes_default}
use Rattle.build_plan.specs.Laws.Plan.{Planned, plan-parts}
use Rattle.build_plan.specs.Plan.{plan_of}
use Rattle.output.specs.Output.{Lent, lent, room_of}
use Rattle.output.specs.Steps.{room_verdict}
use Rattle.output.proofs.BuildLaws.{has_room}
use Rattle.output.proofs.builds.build_row.Goals as goal
use Rattle.prelude.specs.Verdict.{Accepted}

pub write_row-requires-clause-has_room : goal.write_row-requires-clause-has_room
write_row-requires-clause-has_room c =
    let given : Program =
    program_with c.args.banks c.args.kinds.now c.args.operands.now c.args.first.now in
    let row : Row =
    row_with c.args.numbers.now c.args.states.now in
    let old : Lent =
    lent c.args.image.now c.args.addresses.now c.args.offsets.now c.args.sizes.now in
    let fill : ℕ =
    fill_by c.args.choices.fill (banks_of c.args.banks) in
    let closed : Bool =
    closes_default c.args.banks.len c.args.choices.closed in
    -- what the first walk found, from the fill's own length
    let planned : Planned (given) (row) (closed) (fill) c.plan_row-plan.result =
    plan-parts (given) (row) (closed) (fill) c.plan_row-plan.result
    (c.plan_row-plan.ensures.value
    ∙ ap (λ (b : Bool). plan_of (given) (row) b c.fill_length-fill.result) c.closes_default-closed.ensures
    ∙ ap (plan_of (given) (row) (closed)) c.fill_length-fill.ensures.0) in
    -- the verdict on the room is the definition's
    let room-told : c.room_for.result ≡ room_verdict (length c.args.image.now) (room_of (old)).spans c.plan_row-plan.result.length c.plan_row-plan.result.spans =
    c.room_for.ensures
    ∙ ap (λ (n : ℕ). room_verdict (length c.args.image.now) n c.plan_row-plan.result.length c.plan_row-plan.result.spans)
    (c.min-places.ensures ∙ ap (min (length c.args.addresses.now)) c.min.ensures) in
    -- no node is refused
    let passes-nodes : c.plan_row-plan.result.verdict ≡ Accepted =
    c.in_default.is in
    has_room (given) (row) (closed) (fill) c.args.k c.args.passes c.args.values.now (old) c.plan_row-plan.result (planned)
    (passes-nodes) (room-told) c.in_default-room_for.is c.requires.in_values
