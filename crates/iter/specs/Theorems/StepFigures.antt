-- Theorems about what StepFigures defines.
use Rattle.std.specs.Prelude.{◌<◌, ◌≡◌, refl, true, false, eqb, ltb, leb, Ok, Result, Err}
use Rattle.std.proofs.Common.{sym, subst, leb-true, leb-false, ltb-true, eqb-true}
use Rattle.std.proofs.lemmas.Bool.{eqb-false}
use Rattle.prelude.specs.Laws.Bools.{either, both, neither}
use Rattle.prelude.specs.Limits.{max_banks}
use Rattle.prelude.specs.declared.Refusal.{Refusal}
use Rattle.bankdef.specs.declared.Bankdef.{Bankdef}
use Rattle.iter.specs.Laws.Advance as law
use Rattle.iter.specs.Figures.{told_moved, Sees, SoundState, Advances, SightSkips, OwnSkips}
use Rattle.iter.specs.Step.{seen_of, bad_state, advanced_of, seen_skips, advance_skips, step_skips, malformed, step_of}
use Rattle.iter.specs.StepCases.{standing}
use Rattle.iter.specs.Theorems.ToldFacts.{sound-of, sight-told, sight-skips, advance-told, own-skips}
use Rattle.nodes.specs.declared.Node.{Node}
use Rattle.iter.specs.declared.Pos.{Pos}
use Rattle.iter.specs.declared.Walk.{Walk}
use Rattle.iter.specs.StepFigures.{Counts, StepTold, badly, bank_of, blind, made, nowhere, own, sight, stuck}

module _ (def : Bankdef) (walk : Walk) (node : Node) where
  counts : (p q : Pos) → seen_of def (standing walk node) node ≡ Ok p → advanced_of def p node ≡ Ok q
      → Counts def (standing walk node) p q node (step_skips def (standing walk node) p node)
  counts p q s a =
      either (eqb node.kind 8)
      (λ e. rw e (own (eqb-true node.kind 8 e) (subst (λ (m : Result Pos Refusal). OwnSkips def p node m (advance_skips def p node)) a (own-skips def p node))))
      (λ e. rw e (sight (eqb-false node.kind 8 e)
      (subst (λ (m : Result Pos Refusal). SightSkips def (standing walk node) node m (seen_skips def (standing walk node) node)) s (sight-skips def (standing walk node)
      node))))

  module _ (sound : malformed (bank_of def walk node) node ≡ false) where
    inside : (bank_of def walk node) < max_banks
    inside = leb-false max_banks (bank_of def walk node) (neither (leb max_banks (bank_of def walk node)) (bad_state node) sound).0

    state : SoundState node
    state = sound-of node (neither (leb max_banks (bank_of def walk node)) (bad_state node) sound).1

    saw : {m : Result Pos Refusal} → seen_of def (standing walk node) node ≡ m → Sees def (standing walk node) node (told_moved m)
    saw e = subst (λ (m : Result Pos Refusal). Sees def (standing walk node) node (told_moved m)) e (sight-told def (standing walk node) node)

    went : (p : Pos) {m : Result Pos Refusal} → advanced_of def p node ≡ m → Advances def p node (told_moved m)
    went p e = subst (λ (m : Result Pos Refusal). Advances def p node (told_moved m)) e (advance-told def p node)

    -- a step by what the node sees and where it moves
    from-advance : (p : Pos) → seen_of def (standing walk node) node ≡ Ok p → (m : Result Pos Refusal) → advanced_of def p node ≡ m
        → (StepTold def walk node) (step_of def walk node)
    from-advance p s (Ok q) a =
        subst (StepTold def walk node) (sym (law.moves def walk node (bank_of def walk node) refl sound p q s a))
        (made inside state p q _ (saw s) (went p a) (counts p q s a))
    from-advance p s (Err why) a =
        subst (StepTold def walk node) (sym (law.stuck def walk node (bank_of def walk node) refl sound p why s a)) (stuck inside state p (saw s) (went p a))

    from-sight : (m : Result Pos Refusal) → seen_of def (standing walk node) node ≡ m → (StepTold def walk node) (step_of def walk node)
    from-sight (Ok p) s = from-advance p s (advanced_of def p node) refl
    from-sight (Err why) s =
        subst (StepTold def walk node) (sym (law.blind def walk node (bank_of def walk node) refl sound why s)) (blind inside state (saw s))

  malformed-told : malformed (bank_of def walk node) node ≡ true → (StepTold def walk node) (step_of def walk node)
  malformed-told e =
      subst (StepTold def walk node) (sym (law.outside def walk node (bank_of def walk node) refl e))
      (either (leb max_banks (bank_of def walk node))
      (λ t. nowhere (leb-true max_banks (bank_of def walk node) t))
      (λ t. let h = both (leb 3 node.kind) (ltb 2 node.state) (rw t at e) in
      badly (leb-true 3 node.kind h.0) (ltb-true 2 node.state h.1)))

  -- What is told of a step.
  pub step-told : (StepTold def walk node) (step_of def walk node)
  step-told =
      either (malformed (bank_of def walk node) node) malformed-told (λ e. from-sight e (seen_of def (standing walk node) node) refl)
