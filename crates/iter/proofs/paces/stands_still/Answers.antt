-- Each kind that stands still is a law of PaceLaws.
use mathlib.Core.Path.{◌≡◌, refl, ◌∙◌, sym}
use mathlib.Core.Bool.{false}
use native.Mathlib.Omega.{arith}
use Rattle.iter.specs.Step.{bad_state}
use Rattle.iter.proofs.PaceLaws.{early-plain, deeper, paces-plain, paces-unaligned, paces-assert}
use Rattle.iter.proofs.paces.stands_still.Goals as goal

pub returns-in-0-to-1 : goal.returns-in-0-to-1
returns-in-0-to-1 c e at =
    -- past the test of the state
    let sound : bad_state c.args.node ≡ false =
    sym c.is_bad_state.ensures ∙ c.if-is_bad_state.false in
    paces-assert _ at _ (sound) (omega arith) refl

pub returns-in-0-to-1-2 : goal.returns-in-0-to-1-2
returns-in-0-to-1-2 c e at =
    -- past the test of the state
    let sound : bad_state c.args.node ≡ false =
    sym c.is_bad_state.ensures ∙ c.if-is_bad_state.false in
    paces-plain _ at _ (sound) (early-plain c.args.node (omega arith)) (omega arith) refl

pub returns-then-node-ne0 : goal.returns-then-node-ne0
returns-then-node-ne0 c e at =
    -- past the test of the state
    let sound : bad_state c.args.node ≡ false =
    sym c.is_bad_state.ensures ∙ c.if-is_bad_state.false in
    paces-plain _ at _ (sound) (deeper c.args.node c.if-node-ne0.true) (omega arith) refl

pub returns-else-node-ne0 : goal.returns-else-node-ne0
returns-else-node-ne0 c e at =
    -- past the test of the state
    let sound : bad_state c.args.node ≡ false =
    sym c.is_bad_state.ensures ∙ c.if-is_bad_state.false in
    paces-unaligned _ at _ (sound) (c.aligns_no_label.ensures e) (omega arith) refl
