-- The step in numbers: each arm is a law of PaceLaws.
use mathlib.Core.Path.{◌≡◌, ◌∙◌, sym}
use mathlib.Core.Bool.{false}
use mathlib.Core.Logic.{⊎_elim}
use Rattle.nodes.specs.declared.kinds.Doing.TheVariants.{Stays, Switches}
use Rattle.nodes.specs.Laws.Kinds.{numbers}
use Rattle.iter.specs.Step.{bad_state}
use Rattle.iter.proofs.PaceLaws.{stay-told, switch-told, add-told, set_told, other-told}
use Rattle.iter.proofs.PaceLaws.{paces-bad, paces-stay, paces-switch, paces-addr, paces-item, paces-other}
use Rattle.iter.proofs.paces.pace_by_kind.Goals as goal

pub returns-then-is_bad_state : goal.returns-then-is_bad_state
returns-then-is_bad_state c =
    paces-bad _ _ _ (sym c.is_bad_state.ensures ∙ c.if-is_bad_state.true) c.halted.ensures

pub returns-in-Stays : goal.returns-in-Stays
returns-in-Stays c =
    -- past the test of the state
    let sound : bad_state c.args.node ≡ false =
    sym c.is_bad_state.ensures ∙ c.if-is_bad_state.false in
    ⊎_elim
    (λ (e : c.does.result ≡ Stays). paces-stay _ _ _ (sound) (stay-told (numbers _ c.does.ensures e)) c.stood.ensures)
    (λ (e : c.does.result ≡ Switches). paces-switch _ _ _ (sound) (switch-told (numbers _ c.does.ensures e)) c.stood.ensures)
    c.in-Stays.is

pub returns-in-Adds : goal.returns-in-Adds
returns-in-Adds c =
    -- past the test of the state
    let sound : bad_state c.args.node ≡ false =
    sym c.is_bad_state.ensures ∙ c.if-is_bad_state.false in
    let n = add-told (numbers _ c.does.ensures c.in-Adds.is) in
    paces-item _ _ _ (sound) n.0 n.1 (rw c.stays_known.ensures at c.added.ensures)

pub returns-in-Sets : goal.returns-in-Sets
returns-in-Sets c =
    -- past the test of the state
    let sound : bad_state c.args.node ≡ false =
    sym c.is_bad_state.ensures ∙ c.if-is_bad_state.false in
    paces-addr _ _ _ (sound) (set_told (numbers _ c.does.ensures c.in-Sets.is)) c.made.ensures

pub returns-in-Unknown : goal.returns-in-Unknown
returns-in-Unknown c =
    -- past the test of the state
    let sound : bad_state c.args.node ≡ false =
    sym c.is_bad_state.ensures ∙ c.if-is_bad_state.false in
    paces-other _ _ _ (sound) (other-told (numbers _ c.does.ensures c.in-Unknown.is)) c.halted-in-Unknown.ensures
