-- `build_output` meets its contract: what the passes settled gives the row, and the row's build the answer.
use Prim.Native.Nat.{◌*◌, ◌≤◌}
use native.Mathlib.Nat.{mul-le-mul_right}
use native.Mathlib.Omega.{arith}
use lib.ListN.{length}
use Rattle.prelude.specs.Limits.{max_nodes}
use Rattle.nodes.specs.Lists.{Lists, Rows, lists}
use Rattle.output.specs.Output.{lent}
use Rattle.output.proofs.SettledLaws.{settled-rows, settled-few, settled-switches, part-values, finished, refused}
use Rattle.output.proofs.builds.build_output.Goals.{In-Ok}
use Rattle.output.proofs.builds.build_output.Goals as goal

abbrev given : In-Ok → Lists
given c = lists c.args.kinds.now c.args.operands.now c.args.numbers.now c.args.states.now c.args.rows c.args.values.now

-- whole rows, few nodes, and so few numbers
rows : (c : In-Ok) → Rows (length c.args.kinds.now) c.args.rows c.args.numbers.now c.args.states.now
rows c =
    settled-rows c.args.banks (given c) c.args.choices c.resolve-resolution.result c.resolve-resolution.ensures.value c.in-Ok.k c.in-Ok.is

few : (c : In-Ok) → length c.args.kinds.now ≤ max_nodes
few c = settled-few c.args.banks (given c) c.args.choices c.resolve-resolution.result c.resolve-resolution.ensures.value c.in-Ok.k c.in-Ok.is

cells : (c : In-Ok) → c.args.rows * length c.args.kinds.now ≤ 65536
cells c = omega (arith, mul-le-mul_right (length c.args.kinds.now) (rows c).few, few c)

pub row_start-a-requires : goal.row_start-a-requires
row_start-a-requires c = let at = (goal.at.row_start-a-requires c).In-Ok in ((rows at).some, (rows at).few, few at)

pub overflow_add-e : goal.overflow_add-e
overflow_add-e c = record { fits = omega (arith, cells (goal.at.overflow_add-e c).In-Ok, c.row_start-a.ensures.n_bound) }

pub slice_bounds-build_row-end : goal.slice_bounds-build_row-end
slice_bounds-build_row-end c = omega (arith, (rows (goal.at.slice_bounds-build_row-end c).In-Ok).numbered, c.row_start-a.ensures.n_bound)

pub offset_bounds-numbers-a : goal.offset_bounds-numbers-a
offset_bounds-numbers-a c = record { fits = omega (arith, cells (goal.at.offset_bounds-numbers-a c).In-Ok, c.row_start-a.ensures.n_bound) }

pub slice_bounds-build_row-end-in-Ok : goal.slice_bounds-build_row-end-in-Ok
slice_bounds-build_row-end-in-Ok c =
    omega (arith, (rows (goal.at.slice_bounds-build_row-end-in-Ok c).In-Ok).numbered, c.row_start-a.ensures.n_bound)

pub slice_bounds-build_row-end-in-Ok-2 : goal.slice_bounds-build_row-end-in-Ok-2
slice_bounds-build_row-end-in-Ok-2 c =
    omega (arith, (rows (goal.at.slice_bounds-build_row-end-in-Ok-2 c).In-Ok).stated, c.row_start-a.ensures.n_bound)

pub build_row-requires-clause-kinds_len_bound : goal.build_row-requires-clause-kinds_len_bound
build_row-requires-clause-kinds_len_bound c = few (goal.at.build_row-requires-clause-kinds_len_bound c).In-Ok

pub build_row-requires-clause-switches : goal.build_row-requires-clause-switches
build_row-requires-clause-switches c =
    settled-switches c.args.banks (given (goal.at.build_row-requires-clause-switches c).In-Ok) c.args.choices c.resolve-resolution.result
    c.resolve-resolution.ensures.value c.in-Ok.k c.in-Ok.is

pub build_row-requires-clause-in_values : goal.build_row-requires-clause-in_values
build_row-requires-clause-in_values c =
    part-values c.args.banks (given (goal.at.build_row-requires-clause-in_values c).In-Ok) c.args.choices c.resolve-resolution.result
    c.resolve-resolution.ensures.value c.in-Ok.k c.in-Ok.is c.row_start-a.result c.row_start-a.ensures.value

pub returns-in-Err : goal.returns-in-Err
returns-in-Err c =
    refused c.args.banks (lists c.args.kinds.now c.args.operands.now c.args.numbers.now c.args.states.now c.args.rows c.args.values.now) c.args.choices c.resolve-resolution.result
    c.resolve-resolution.ensures.value c.in-Err.why c.in-Err.is
    (lent c.args.image.now c.args.addresses.now c.args.offsets.now c.args.sizes.now) c.refused.result c.refused.ensures

pub returns-in-Ok : goal.returns-in-Ok
returns-in-Ok c =
    finished c.args.banks (given (goal.at.returns-in-Ok c).In-Ok) c.args.choices c.resolve-resolution.result
    c.resolve-resolution.ensures.value c.in-Ok.k c.in-Ok.is c.row_start-a.result c.row_start-a.ensures.value
    (lent c.args.image.now c.args.addresses.now c.args.offsets.now c.args.sizes.now) _ c.build_row.result c.build_row.ensures
