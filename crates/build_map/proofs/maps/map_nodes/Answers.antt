-- `map_nodes` meets its contract: no pass was run, or the last row is mapped.
use Prim.Native.Nat.{◌*◌, ◌≤◌}
use native.Mathlib.Nat.{mul-le-mul_right}
use native.Mathlib.Omega.{arith}
use lib.ListN.{length}
use Rattle.prelude.specs.Limits.{max_nodes}
use Rattle.nodes.specs.Lists.{Lists, Rows, lists}
use Rattle.build_map.specs.Map.{lent}
use Rattle.build_map.proofs.MapLaws.{unrun, ran-rows, ran-few, ran-switches, ran-listed, reach_few, finished}
use Rattle.build_map.proofs.maps.map_nodes.Goals.{Else-passes-eq0}
use Rattle.build_map.proofs.maps.map_nodes.Goals as goal

abbrev given : Else-passes-eq0 → Lists
given c = lists c.args.kinds.now c.args.operands.now c.args.numbers.now c.args.states.now c.args.rows c.args.values.now

-- where a pass was run: whole rows, few nodes, and so few numbers
rows : (c : Else-passes-eq0) → Rows (length c.args.kinds.now) c.args.rows c.args.numbers.now c.args.states.now
rows c = ran-rows c.args.banks (given c) c.args.choices c.resolve-resolution.result c.resolve-resolution.ensures.value c.if-passes-eq0.false

few : (c : Else-passes-eq0) → length c.args.kinds.now ≤ max_nodes
few c = ran-few c.args.banks (given c) c.args.choices c.resolve-resolution.result c.resolve-resolution.ensures.value c.if-passes-eq0.false

cells : (c : Else-passes-eq0) → c.args.rows * length c.args.kinds.now ≤ 65536
cells c = omega (arith, mul-le-mul_right (length c.args.kinds.now) (rows c).few, few c)

pub returns-then-passes-eq0 : goal.returns-then-passes-eq0
returns-then-passes-eq0 c =
    let a = c.args in
    unrun a.banks (lists a.kinds.now a.operands.now a.numbers.now a.states.now a.rows a.values.now) a.choices c.resolve-resolution.result
    c.resolve-resolution.ensures.value c.if-passes-eq0.true (lent a.banks_of.now a.positions.now a.outputs.now a.sizes.now) _ c.unmapped.ensures

pub row_start-a-requires : goal.row_start-a-requires
row_start-a-requires c = let at = (goal.at.row_start-a-requires c).Else-passes-eq0 in ((rows at).some, (rows at).few, few at)

pub overflow_add-e : goal.overflow_add-e
overflow_add-e c = record { fits = omega (arith, cells (goal.at.overflow_add-e c).Else-passes-eq0, c.row_start-a.ensures.n_bound) }

pub slice_bounds-row-end : goal.slice_bounds-row-end
slice_bounds-row-end c =
    omega (arith, (rows (goal.at.slice_bounds-row-end c).Else-passes-eq0).numbered, c.row_start-a.ensures.n_bound)

pub offset_bounds-numbers-a : goal.offset_bounds-numbers-a
offset_bounds-numbers-a c =
    record { fits = omega (arith, cells (goal.at.offset_bounds-numbers-a c).Else-passes-eq0, c.row_start-a.ensures.n_bound) }

pub slice_bounds-row-end-2 : goal.slice_bounds-row-end-2
slice_bounds-row-end-2 c =
    omega (arith, (rows (goal.at.slice_bounds-row-end-2 c).Else-passes-eq0).numbered, c.row_start-a.ensures.n_bound)

pub slice_bounds-row-end-3 : goal.slice_bounds-row-end-3
slice_bounds-row-end-3 c =
    omega (arith, (rows (goal.at.slice_bounds-row-end-3 c).Else-passes-eq0).stated, c.row_start-a.ensures.n_bound)

pub map-requires-clause-kinds_len_bound : goal.map-requires-clause-kinds_len_bound
map-requires-clause-kinds_len_bound c =
    let at = (goal.at.map-requires-clause-kinds_len_bound c).Else-passes-eq0 in
    (few at, ran-switches at.args.banks (given at) at.args.choices at.resolve-resolution.result at.resolve-resolution.ensures.value at.if-passes-eq0.false)

pub map-requires-clause-few : goal.map-requires-clause-few
map-requires-clause-few c =
    ran-listed c.args.banks (given (goal.at.map-requires-clause-few c).Else-passes-eq0) c.args.choices c.resolve-resolution.result
    c.resolve-resolution.ensures.value c.if-passes-eq0.false

pub map-requires-clause-settled_bound : goal.map-requires-clause-settled_bound
map-requires-clause-settled_bound c =
    reach_few c.args.banks (given (goal.at.map-requires-clause-settled_bound c).Else-passes-eq0) c.args.choices c.resolve-resolution.result
    c.resolve-resolution.ensures.value c.if-passes-eq0.false c.row_start-a.result c.row_start-a.ensures.value c.closes_default-closed.result
    c.closes_default-closed.ensures

pub returns : goal.returns
returns c =
    let a = c.args in
    finished a.banks (given (goal.at.returns c).Else-passes-eq0) a.choices c.resolve-resolution.result c.resolve-resolution.ensures.value
    c.if-passes-eq0.false c.row_start-a.result c.row_start-a.ensures.value c.closes_default-closed.result c.closes_default-closed.ensures
    (lent a.banks_of.now a.positions.now a.outputs.now a.sizes.now) _ c.map.result c.map.ensures
