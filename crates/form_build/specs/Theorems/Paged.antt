-- Theorems about what Paged defines.
use Rattle.std.specs.Prelude.{◌≡◌, ℕ, Option, None, Some}
use Rattle.std.proofs.Common.{sym, subst}
use Rattle.prelude.specs.Laws.Pick.{determined}
use Rattle.output.specs.Output.{Input, Lent, Builds}
use Rattle.output.specs.declared.Output.{Output}
use Rattle.build_paged.specs.InProfile.{BuildsInProfile}
use Rattle.form_build.specs.Laws.Paged.{after-yes}
use Rattle.form_build.specs.Paged.{BuiltIn}

-- It has one outcome.
pub one-built-in : {page : Option ℕ} {b : Input} {old x y : Lent} {r s : Output} → BuiltIn page b old r x → BuiltIn page b old s y → (r ≡ s) × (x ≡ y)
one-built-in c d =
    let same = determined c.answer d.answer in
    (same, determined c.left (rw (← same) at d.left))

-- ---- the two calls that it stands for

pub ordinary : {page : Option ℕ} {b : Input} {old new : Lent} {r : Output} → page ≡ None → Builds b old r new → BuiltIn page b old r new
ordinary {page} {b} {old} {new} {r} e p = subst (λ (q : Option ℕ). BuiltIn q b old r new) (sym e) (record { answer = p.answer; left = p.left })

pub in-profile : {page : Option ℕ} {bits : ℕ} {b : Input} {old new : Lent} {r : Output} → page ≡ Some bits → BuildsInProfile bits b old r new
    → BuiltIn page b old r new
in-profile {page} {bits} {b} {old} {new} {r} e p = subst (λ (q : Option ℕ). BuiltIn q b old r new) (sym e) (after-yes bits b old p)
