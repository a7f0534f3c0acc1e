-- What a step leaves alone: the walk where it is refused, and every other bank's position.
use Rattle.std.specs.Prelude.{ℕ, ◌≡◌, refl, false, length, Ok}
use Rattle.std.proofs.Common.{sym, ap, ◌∙◌, length-set, ne_eqb}
use Rattle.prelude.specs.Laws.Bools.{either}
use Rattle.prelude.specs.Laws.Pick.{pick-false}
use Rattle.prelude.specs.declared.Refusal.TheVariants.{Malformed}
use Rattle.bankdef.specs.declared.Bankdef.{Bankdef}
use Rattle.iter.specs.Step.{seen_of, bank_after, malformed, step_of}
use Rattle.iter.specs.Laws.Advance.{outside}
use Rattle.iter.specs.StepCases.{standing}
use Rattle.iter.specs.Laws.StepCases.{step-cases}
use Rattle.iter.specs.declared.Pos.{Pos}
use Rattle.nodes.specs.declared.Node.{Node}
use Rattle.iter.specs.declared.Walk.{Walk}
use Rattle.iter.specs.declared.Stepped.{Stepped}
use Rattle.iter.specs.Laws.StepFacts.{never}

module _ (def : Bankdef) (walk : Walk) (node : Node) where
  -- A step keeps the number of positions.
  pub count_kept : length (step_of def walk node).walk.at ≡ length walk.at
  count_kept =
      step-cases def walk node (λ (s : Stepped). length s.walk.at ≡ length walk.at) (λ why. refl)
      (λ p q s a. length-set walk.at (bank_after walk.bank node) q)

  -- A step that is made stands in one of the 16 banks, and its state, where it is read, is 0, 1 or 2.
  pub made-sound : (p : Pos) → (step_of def walk node).seen ≡ Ok p → malformed (bank_after walk.bank node) node ≡ false
  made-sound p e =
      either (malformed (bank_after walk.bank node) node)
      (λ t. absurd (never p (Malformed node.index) (sym e ∙ ap (λ (s : Stepped). s.seen) (outside def walk node (bank_after walk.bank node) refl t))))
      (λ t. t)

  -- What a node sees is its bank's position before its own advance, put through `seen_of` alone.
  pub sees-before : (p : Pos) → (step_of def walk node).seen ≡ Ok p → seen_of def (standing walk node) node ≡ Ok p
  sees-before p =
      step-cases def walk node (λ (s : Stepped). s.seen ≡ Ok p → seen_of def (standing walk node) node ≡ Ok p) (λ why e. absurd (never p why (sym e)))
      (λ p q s a e. cc)

-- A node stands in the bank in which the walk stands, but a switch in the one that it switches to.
pub stands-in : (bank : ℕ) (node : Node) → (node.kind ≡ 1 → ⊥) → bank_after bank node ≡ bank
stands-in bank node n = pick-false _ _ (ne_eqb node.kind 1 n)
