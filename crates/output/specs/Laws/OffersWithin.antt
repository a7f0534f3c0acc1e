-- Laws that Theorems/OffersWithin rests on.
use Rattle.std.specs.Prelude.{ℕ, ◌+◌, ◌≤◌, ◌≡◌, refl, Bool, true, false, leb, Err, Ok, Result}
use Rattle.std.proofs.Common.{sym, subst, ◌∙◌, leb-true}
use Rattle.prelude.specs.Laws.Bools.{either, unlike}
use Rattle.prelude.specs.Limits.{max_position}
use Rattle.prelude.specs.Pick.{pick}
use Rattle.prelude.specs.declared.Refusal.{Refusal}
use Rattle.bankdef.specs.declared.Bankdef.{Bankdef}
use Rattle.iter.specs.Theorems.Advance.{bad-state, sound-state, item}
use Rattle.iter.specs.Step.{bad_state, moved_by, advanced_of, step_of}
use Rattle.iter.specs.Laws.StepCases.{step-cases}
use Rattle.nodes.specs.declared.Node.{Node}
use Rattle.iter.specs.declared.Pos.{Pos}
use Rattle.iter.specs.declared.Stepped.{Stepped}
use Rattle.iter.specs.declared.Walk.{Walk}

never : {p : Pos} {why : Refusal} → Err why ≡ Ok p → ⊥
never e = unlike cc

-- "5: a position would pass 4,294,967,295": one that is moved to does not
moved-within : (at : Pos) (bits : ℕ) (known : Bool) (n : ℕ) {q : Pos} → moved_by at bits known n ≡ Ok q → at.position + bits ≤ max_position
moved-within at bits known n {q} e = leb-true (at.position + bits) max_position (taken (leb (at.position + bits) max_position) _ _ e)
  where
    taken : (b : Bool) (p : Pos) (why : Refusal) → pick b (Ok p) (Err why) ≡ Ok q → b ≡ true
    taken true p why f = refl
    taken false p why f = absurd (never f)

module _ (def : Bankdef) (n : Node) (low : 4 ≤ n.kind) (high : n.kind ≤ 7) where
  advanced-within : (p q : Pos) → advanced_of def p n ≡ Ok q → p.position + n.number ≤ max_position
  advanced-within p q e =
      either (bad_state n)
      (λ t. absurd (never (sym (bad-state def p n t) ∙ e)))
      (λ f. moved-within p n.number _ n.index (sym (sound-state def p n f ∙ item def p n low high) ∙ e))

  -- an item or a reserve that the walk has gone past ends no further than the last position
  pub step-within : (walk : Walk) (p : Pos) → (step_of def walk n).seen ≡ Ok p → p.position + n.number ≤ max_position
  step-within walk =
      step-cases def walk n (λ (s : Stepped). (p : Pos) → s.seen ≡ Ok p → p.position + n.number ≤ max_position)
      (λ why p e. absurd (never e))
      (λ s q e a p f. subst (λ (x : Pos). x.position + n.number ≤ max_position) (same f) (advanced-within s q a))
    where
      same : {s p : Pos} → ◌≡◌ {A = Result Pos Refusal} (Ok s) (Ok p) → s ≡ p
      same e = cc
