-- Laws that proofs about StepCases need.
use Rattle.std.specs.Prelude.{◌≡◌, Bool, true, false, Ok, Result, Err}
use Rattle.std.proofs.Math.Path.{refl}
use Rattle.prelude.specs.Pick.{pick}
use Rattle.prelude.specs.declared.Refusal.{Refusal}
use Rattle.prelude.specs.declared.Refusal.TheVariants.{Malformed}
use Rattle.bankdef.specs.declared.Bankdef.{Bankdef}
use Rattle.iter.specs.Step.{seen_of, advanced_of, bank_after, kept, stopped, step_skips, stepped_to, stepped_from, malformed, step_of}
use Rattle.iter.specs.declared.Pos.{Pos}
use Rattle.nodes.specs.declared.Node.{Node}
use Rattle.iter.specs.declared.Walk.{Walk}
use Rattle.iter.specs.declared.Stepped.{Stepped}
use Rattle.iter.specs.StepCases.{standing}

module _ (def : Bankdef) (walk : Walk) (node : Node) (P : Stepped → Type 0)
    (refused : (why : Refusal) → P (stopped walk why))
    (moved : (p q : Pos) → seen_of def (standing walk node) node ≡ Ok p → advanced_of def p node ≡ Ok q
    → P (record {
      seen = Ok p;
      skipped = step_skips def (standing walk node) p node;
      walk = kept walk (bank_after walk.bank node) q (step_skips def (standing walk node) p node);
    }))
  where
    after-advance : (p : Pos) → seen_of def (standing walk node) node ≡ Ok p → (m : Result Pos Refusal) → advanced_of def p node ≡ m
        → P (stepped_to walk (bank_after walk.bank node) p (step_skips def (standing walk node) p node) m)
    after-advance p s (Ok q) a = moved p q s a
    after-advance p s (Err why) a = refused why

    after-sight : (t : Bool) (m : Result Pos Refusal) → seen_of def (standing walk node) node ≡ m
        → P (pick t (stopped walk (Malformed node.index))
        (stepped_from def walk (bank_after walk.bank node) node m))
    after-sight true m s = refused (Malformed node.index)
    after-sight false (Ok p) s = after-advance p s (advanced_of def p node) refl
    after-sight false (Err why) s = refused why

    pub step-cases : P (step_of def walk node)
    unfolding step_of
    step-cases = after-sight (malformed (bank_after walk.bank node) node) (seen_of def (standing walk node) node) refl
