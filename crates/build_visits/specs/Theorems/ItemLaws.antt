-- The image's length and the image as folds over any list of items: what the length is, and which bit of the image comes from where.
use Rattle.std.specs.Prelude.{◌≡◌, refl, ◌⊎◌, ℕ, max}
use Rattle.std.proofs.Common.{◌∙◌, inl, inr, ⊎_elim, arith}
use mathlib.Core.List.{List, [], ◌∷◌, Memᴰ}
use Rattle.std.proofs.Math.Decide.{dec_le}
use Rattle.build_visits.specs.Items.{Item, end_of, length_of}

-- and not more: it is the fill's, or it is some item's end
pub length-is-one : (fill : ℕ) (l : List Item) → (length_of fill l ≡ fill) ⊎ ((x : Item) × Memᴰ x l × (length_of fill l ≡ end_of x))
unfolding length_of
length-is-one fill [] = inl refl
length-is-one fill (x ∷ l) =
    ⊎_elim
    (λ (e : length_of (max fill (end_of x)) l ≡ max fill (end_of x)).
    elim (dec_le (end_of x) fill) [
      | yes low ↦ inl (e ∙ omega arith)
      | no high ↦ inr (x, Memᴰ.head refl, e ∙ omega arith)
    ])
    (λ (r : (y : Item) × Memᴰ y l × (length_of (max fill (end_of x)) l ≡ end_of y)). inr (r.0, Memᴰ.tail r.1, r.2))
    (length-is-one (max fill (end_of x)) l)
