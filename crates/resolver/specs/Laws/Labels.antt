-- Laws that Theorems/Labels rests on.
use Rattle.std.specs.Prelude.{ℕ, ◌≡◌, ℤ, pos, neg_ℤ, ◌+ℤ◌}
use Rattle.std.proofs.Common.{sym, ap, ◌∙◌}
use Rattle.std.proofs.Math.IntN.{+ℤ_assoc, +ℤ_invl, +ℤ_idl}

-- a start added on the left can be taken away
pub cancel : (a b d : ℤ) → a +ℤ b ≡ a +ℤ d → b ≡ d
cancel a b d e = sym (back b) ∙ (ap (λ (x : ℤ). neg_ℤ a +ℤ x) e ∙ back d)
  where
    back : (x : ℤ) → neg_ℤ a +ℤ (a +ℤ x) ≡ x
    back x = sym (+ℤ_assoc (neg_ℤ a) a x) ∙ (ap (λ (y : ℤ). y +ℤ x) (+ℤ_invl a) ∙ +ℤ_idl x)

pub units_of : {m n : ℕ} → pos m ≡ pos n → m ≡ n
units_of e = cc
