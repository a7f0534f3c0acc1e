-- Of each word that the sentences are made of: that it leaves one outcome.
use Rattle.std.specs.Prelude.{◌≡◌, refl, List, ◌⊎◌, ℕ, ◌≤◌, ◌<◌, length, get_or}
use Rattle.std.proofs.Common.{sym, ap, ◌∙◌, inl, inr, ⊎_elim, arith, ext_get_or}
use Rattle.sort.specs.Laws.Sorted.{le-or-lt}
use Rattle.says.specs.Words.{Tries, refused, passed, Is, is, First, FirstPair, Begins}

-- What is said of an outcome leaves one.
abbrev pub OneOnly : {Y : Type 0} → (Y → Type 0) → Type 0
OneOnly {Y} Says = (y z : Y) → Says y → Says z → y ≡ z

module _ {X Y : Type 0} (Met : X → Type 0) (refusal : X → Y) (Then : Y → Type 0)
    (one : (a b : X) → Met a → Met b → refusal a ≡ refusal b) (rest : OneOnly Then) where
  pub tries-one : OneOnly (Tries Met refusal Then)
  tries-one y z (refused a m) (refused b n) = one a b m n
  tries-one y z (refused a m) (passed none t) = absurd (none a m)
  tries-one y z (passed none t) (refused b n) = absurd (none b n)
  tries-one y z (passed none t) (passed never u) = rest y z t u

pub is_one : {Y : Type 0} (x : Y) → OneOnly (Is x)
is_one x y z is is = refl

pub first_one : (So : ℕ → Type 0) → OneOnly (First So)
first_one So i j f g = omega (arith, f.none_below j g.so, g.none_below i f.so)

pub first-pair-one : (So : ℕ → ℕ → Type 0) (i j c d : ℕ) → FirstPair So i j → FirstPair So c d → (i ≡ c) × (j ≡ d)
first-pair-one So i j c d f g =
    ⊎_elim
    (λ lt. ⊎_elim (λ gt. absurd (omega arith)) (λ e. absurd (omega (arith, e.0))) (g.none_before i j f.so))
    (λ e. ⊎_elim (λ gt. absurd (omega (arith, e.0))) (λ h. (e.0, omega (arith, e.1, h.1))) (g.none_before i j f.so))
    (f.none_before c d g.so)

pub begins-one : (new old : List ℕ) → OneOnly (Begins new old)
begins-one new old a b f g = ext_get_or 0 a b (f.as_long ∙ sym g.as_long) (λ i h.
    ⊎_elim (λ le. f.kept i le ∙ sym (g.kept i le)) (λ lt. f.front i lt ∙ sym (g.front i lt)) (le-or-lt (length new) i))
