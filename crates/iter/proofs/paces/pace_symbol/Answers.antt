-- A symbol: by whether it is of depth 0, and by cases of the label alignment.
use Prim.Native.Nat.{◌<◌}
use mathlib.Core.Path.{◌≡◌}
use mathlib.Core.Bool.{true}
use native.Mathlib.Omega.{arith}
use borrow.Author.Rules.{rules}
use Rattle.iter.specs.Distance.{tellable}
use Rattle.iter.specs.Step.{outermost_symbol}
use Rattle.iter.proofs.PaceLaws.{outermost, deeper, paces-plain, paces-unaligned, paces-symbol, paces-symbol-untold}
use Rattle.iter.proofs.paces.pace_symbol.Goals as goal

pub returns-then-node-ne0 : goal.returns-then-node-ne0
returns-then-node-ne0 c =
    let few : c.args.node.kind < 4 =
    omega (arith, c.requires.le_kind.1) in
    paces-plain _ _ _ c.requires.node_value (deeper c.args.node c.if-node-ne0.true) (few) c.stood.ensures

pub returns-then-not-is_tellable : goal.returns-then-not-is_tellable
returns-then-not-is_tellable c =
    let few : c.args.node.kind < 4 =
    omega (arith, c.requires.le_kind.1) in
    -- past the first test, and past the second
    let symbol : outermost_symbol c.args.node ≡ true =
    outermost c.args.node c.requires.le_kind c.if-node-ne0.false in
    paces-symbol-untold _ _ _ c.requires.node_value _ (symbol) c.in-Some.is (few) (search rules)
    c.halted.ensures

pub returns-in-None : goal.returns-in-None
returns-in-None c =
    let few : c.args.node.kind < 4 =
    omega (arith, c.requires.le_kind.1) in
    paces-unaligned _ _ _ c.requires.node_value c.in-None.is (few) c.stood-in-None.ensures

pub returns-else-not-is_tellable : goal.returns-else-not-is_tellable
returns-else-not-is_tellable c =
    let few : c.args.node.kind < 4 =
    omega (arith, c.requires.le_kind.1) in
    -- past the first test, and past the second
    let symbol : outermost_symbol c.args.node ≡ true =
    outermost c.args.node c.requires.le_kind c.if-node-ne0.false in
    let tells : tellable c.args.def ≡ true =
    search rules in
    paces-symbol _ _ _ c.requires.node_value _ (symbol) c.in-Some.is (few) c.distance_in_bits.result (tells) c.distance_in_bits.ensures
    c.in_units.ensures c.aligned_first.ensures
