-- Small laws on the outcome of a test.
use Rattle.std.specs.Prelude.{◌≡◌, refl, Bool, true, false, ◌&&◌, ◌||◌, ◌⊎◌, ℕ, T}
use Rattle.std.proofs.Common.{sym, ◌∙◌, subst, inl, inr, arith}

-- A test holds or fails, whichever it does.
pub either {ℓ} : {X : Type ℓ} (b : Bool) → (b ≡ true → X) → (b ≡ false → X) → X
either true f g = f refl
either false f g = g refl

-- a test does not both hold and fail
pub clash : {b : Bool} → b ≡ true → b ≡ false → ⊥
clash e f = subst T (sym e ∙ f) tt

-- two tests at once
pub both : (a b : Bool) → (a && b) ≡ true → (a ≡ true) × (b ≡ true)
both true b e = (refl, e)
both false b e = absurd (clash e refl)

-- neither of two
pub neither : (a b : Bool) → (a || b) ≡ false → (a ≡ false) × (b ≡ false)
neither true b e = absurd (clash refl e)
neither false b e = (refl, e)

-- one of two, by the first, by the second, and by the second where the first fails
pub or_left : (a b : Bool) → a ≡ true → (a || b) ≡ true
or_left a b e = rw e

pub or_right : (a b : Bool) → b ≡ true → (a || b) ≡ true
or_right true b e = refl
or_right false b e = e

pub or_else : (a b : Bool) → a ≡ false → (a || b) ≡ true → b ≡ true
or_else a b f e = rw f at e

pub or-told : (a b : Bool) → (a || b) ≡ true → (a ≡ true) ⊎ (b ≡ true)
or-told true b e = inl refl
or-told false b e = inr e

-- Two constructors differ: `unlike cc`, since what makes them one makes 0 and 1 one, by a function that tells them apart.
pub unlike {ℓ} : {X : Type ℓ} → ◌≡◌ {A = ℕ} 0 1 → X
unlike e = absurd (omega arith)
