-- Theorems about what WithinLimit defines.
use Rattle.std.specs.Prelude.{ℕ, ◌≤◌, List, [], ◌∷◌}
use Rattle.std.proofs.Common.{subst}
use Rattle.prelude.specs.Limits.{max_banks, max_position}
use Rattle.bankdef.specs.declared.Bankdef.{Bankdef}
use Rattle.iter.specs.Step.{origin, start_of}
use Rattle.iter.specs.Step.{bank_after, step_of}
use Rattle.iter.specs.StepCases.{standing}
use Rattle.iter.specs.Laws.StepCases.{step-cases}
use Rattle.nodes.specs.declared.Node.{Node}
use Rattle.iter.specs.declared.Walk.{Walk}
use Rattle.iter.specs.declared.Stepped.{Stepped}
use Rattle.iter.specs.Laws.WithinLimit.{Numbers, Within, advanced-within, origins, seen-within, set_all}
use Rattle.iter.specs.WithinLimit.{AllSmall, Small, walked_over}

-- A step keeps every position within the limit.
pub step-within : (def : Bankdef) (walk : Walk) (node : Node) → node.number ≤ max_position → AllSmall walk → AllSmall (step_of def walk node).walk
step-within def walk node h all =
    step-cases def walk node (λ (s : Stepped). AllSmall s.walk) (λ why. all)
    (λ p q s a.
    let seen : Small p = subst Within s (seen-within def (standing walk node) node (all (bank_after walk.bank node))) in
    let moved : Small q = subst Within a (advanced-within def p node seen h) in
    set_all Small walk.at (bank_after walk.bank node) q origin moved all)

-- Over any list of nodes, from any walk within the limit, positions stay within it.
pub walk-within : (defs : ℕ → Bankdef) (walk : Walk) (nodes : List Node) → Numbers nodes → AllSmall walk → AllSmall (walked_over defs walk nodes)
walk-within defs walk [] fit all = all
walk-within defs walk (node ∷ nodes) fit all =
    walk-within defs (step_of (defs (bank_after walk.bank node)) walk node).walk nodes fit.1
    (step-within (defs (bank_after walk.bank node)) walk node fit.0 all)

-- "Each bank's position starts at 0": so no position of a walk ever passes 4,294,967,295.
pub never-past : (defs : ℕ → Bankdef) (nodes : List Node) → Numbers nodes → AllSmall (walked_over defs start_of nodes)
unfolding start_of
never-past defs nodes fit = walk-within defs start_of nodes fit (origins max_banks)
