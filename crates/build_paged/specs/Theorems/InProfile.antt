-- Theorems about what InProfile defines.
use Rattle.std.specs.Prelude.{ℕ, ◌≡◌}
use Rattle.std.proofs.Common.{sym, ◌∙◌}
use Rattle.output.specs.Output.{Input, Lent}
use Rattle.output.specs.declared.Output.{Output}
use Rattle.build_paged.specs.InProfile.{BuildsInProfile}
use Rattle.build_paged.specs.Laws.InProfile.{answer-of, left-of}

-- It leaves one outcome.
pub one-outcome : (page : ℕ) (b : Input) (old : Lent) {r s : Output} {x y : Lent} → BuildsInProfile page b old r x → BuildsInProfile page b old s y
    → (r ≡ s) × (x ≡ y)
one-outcome page b old p q = let e = p.result ∙ sym q.result in (answer-of e, left-of e)
