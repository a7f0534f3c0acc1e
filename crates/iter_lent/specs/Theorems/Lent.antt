-- Theorems about what Lent defines.
use Rattle.std.specs.Prelude.{◌≡◌, refl, Bool, true, false, Result, Ok, Err}
use Rattle.std.proofs.Common.{ap, ◌∙◌}
use Rattle.prelude.specs.Laws.Pick.{determined}
use Rattle.prelude.specs.Pick.{pick}
use Rattle.prelude.specs.declared.Refusal.TheVariants.{Malformed}
use Rattle.prelude.specs.declared.Refusal.{Refusal}
use Rattle.bankdef.specs.declared.Bankdef.{Bankdef}
use Rattle.iter.specs.Crossing.{halted, crossed_to, crossed_from, crossing_of}
use Rattle.iter.specs.Pace.{fault_in}
use Rattle.iter.specs.Step.{seen_of, bad_state, advanced_of, step_skips}
use Rattle.iter.specs.declared.Paced.{Paced}
use Rattle.iter.specs.declared.Pos.{Pos}
use Rattle.nodes.specs.declared.Node.{Node}
use Rattle.iter_lent.specs.Lent.{Advanced}

-- Two outcomes that meet the contract for the same input are equal, the record afterwards and the answer.
pub advance-lent-unique : {def : Bankdef} {was : Pos} {node : Node} {left left' : Pos} {answer answer' : Paced}
    → Advanced def was node left answer → Advanced def was node left' answer' → (left ≡ left') × (answer ≡ answer')
advance-lent-unique p q = (determined p.place q.place, determined p.step q.step)

module _ (def : Bankdef) (was : Pos) (node : Node) where
  -- a crossing that is refused leads nowhere
  moved-or-kept : (p : Pos) (m : Result Pos Refusal) → (fault_in (crossed_to was p (step_skips def was p node) m).seen ≡ 0 → ⊥)
      → (crossed_to was p (step_skips def was p node) m).after ≡ was
  moved-or-kept p (Ok q) h = absurd (h refl)
  moved-or-kept p (Err why) h = refl

  seen-or-kept : (m : Result Pos Refusal) → (fault_in (crossed_from def was node m).seen ≡ 0 → ⊥) → (crossed_from def was node m).after ≡ was
  seen-or-kept (Ok p) h = moved-or-kept p (advanced_of def p node) h
  seen-or-kept (Err why) h = refl

  either : (bad : Bool) → (fault_in (pick bad (halted was (Malformed node.index)) (crossed_from def was node (seen_of def was node))).seen ≡ 0 → ⊥)
      → (pick bad (halted was (Malformed node.index)) (crossed_from def was node (seen_of def was node))).after ≡ was
  either true h = refl
  either false h = seen-or-kept (seen_of def was node) h

  crossing-kept : (fault_in (crossing_of def was node).seen ≡ 0 → ⊥) → (crossing_of def was node).after ≡ was
  unfolding crossing_of
  crossing-kept h = either (bad_state node) h

-- A refused call leaves the lent record as it was.
pub refused-keeps : {def : Bankdef} {was : Pos} {node : Node} {left : Pos} {answer : Paced} → (answer.fault ≡ 0 → ⊥)
    → Advanced def was node left answer → left ≡ was
refused-keeps {def} {was} {node} h p = p.place ∙ crossing-kept def was node (λ e. h (ap (λ (x : Paced). x.fault) p.step ∙ e))
