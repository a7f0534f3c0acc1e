-- What the lists made from visits obey: they grow from node to node, and what stands in one comes from one of the visits.
use Rattle.std.specs.Prelude.{◌≡◌, ℕ, zero, suc, ◌<◌, ◌≤◌}
use Rattle.std.proofs.Math.Path.{refl, sym, ap}
use Rattle.std.proofs.Common.{subst, ◌∙◌, not-suc-le-zero, arith}
use mathlib.Core.List.{List, [], ◌∷◌, ◌++◌, append-nil, append_assoc}
use mathlib.Core.List.{Memᴰ}
use Rattle.std.proofs.Math.Logic.{⊎_elim}
use Rattle.std.proofs.Math.Decide.{dec_lt, dec_le}
use Rattle.nodes.specs.Lists.{Row}
use Rattle.resolver.specs.Once.{Program}
use Rattle.build_visits.specs.declared.Visit.{Visit}
use Rattle.build_visits.specs.Visits.{visit_at, visits_to, each}

-- ---- what each visit gives

module _ {X : Type 0} (f : Visit → List X) where
  pub each_append : (k l : List Visit) → each f (k ++ l) ≡ each f k ++ each f l
  unfolding each
  each_append [] l = refl
  each_append (v ∷ k) l = ap (λ (m : List X). f v ++ m) (each_append k l) ∙ sym (append_assoc (f v) (each f k) (each f l))

  pub each_last : (l : List Visit) (v : Visit) → each f (l ++ v ∷ []) ≡ each f l ++ f v
  unfolding each
  each_last l v = each_append l (v ∷ []) ∙ ap (λ (m : List X). each f l ++ m) (append-nil (f v))

  pub each_member : {x : X} {v : Visit} {l : List Visit} → Memᴰ v l → Memᴰ x (f v) → Memᴰ x (each f l)
  unfolding each
  each_member {x} (mathlib.Core.List.Memᴰ.head {xs = l} e) n = mathlib.Core.List.Memᴰ.append_left (each f l) (subst (λ (u : Visit). Memᴰ x (f u)) e n)
  each_member (mathlib.Core.List.Memᴰ.tail {x = w} m) n = mathlib.Core.List.Memᴰ.append_right (f w) (each_member m n)

  pub each_from : (l : List Visit) {x : X} → Memᴰ x (each f l) → (v : Visit) × Memᴰ v l × Memᴰ x (f v)
  unfolding each
  each_from [] m = absurd (mathlib.Core.List.Memᴰ.not-nil m)
  each_from (v ∷ l) m =
      ⊎_elim
      (λ h. (v, mathlib.Core.List.Memᴰ.head refl, h))
      (λ t. let r = each_from l t in (r.0, mathlib.Core.List.Memᴰ.tail r.1, r.2))
      (mathlib.Core.List.Memᴰ.append_cases (f v) m)

-- ---- the visits of a row

module _ (p : Program) (row : Row) where
  pub visits-none : visits_to p row 0 ≡ []
  unfolding visits_to
  visits-none = refl

  pub visits-next : (i : ℕ) → visits_to p row (suc i) ≡ visits_to p row i ++ visit_at p row i ∷ []
  unfolding visits_to
  visits-next i = refl

  pub each_next : {X : Type 0} (f : Visit → List X) (i : ℕ) → each f (visits_to p row (suc i)) ≡ each f (visits_to p row i) ++ f (visit_at p row i)
  each_next f i = ap (each f) (visits-next i) ∙ each_last f (visits_to p row i) (visit_at p row i)

  -- the first i nodes stand at the front of the first n
  pub visits-split : (i n : ℕ) → i ≤ n → (rest : List Visit) × (visits_to p row n ≡ visits_to p row i ++ rest)
  visits-split i zero h = ([], subst (λ (k : ℕ). visits_to p row zero ≡ visits_to p row k ++ []) (omega arith) (sym (append-nil (visits_to p row zero))))
  visits-split i (suc n) h =
      elim (dec_le i n) [
        | yes below ↦
            (let r = visits-split i n below in (
              r.0 ++ visit_at p row n ∷ [],
              visits-next n ∙ ap (λ (m : List Visit). m ++ visit_at p row n ∷ []) r.1 ∙ append_assoc (visits_to p row i) r.0 (visit_at p row n ∷ []),
            ))
        | no same ↦ ([], subst (λ (k : ℕ). visits_to p row (suc n) ≡ visits_to p row k ++ []) (omega arith) (sym (append-nil (visits_to p row (suc n)))))
      ]

  pub visit-member : (n i : ℕ) → i < n → Memᴰ (visit_at p row i) (visits_to p row n)
  visit-member zero i h = absurd (not-suc-le-zero h)
  visit-member (suc n) i h =
      elim (dec_lt i n) [
        | yes less ↦ rw (visits-next n) (mathlib.Core.List.Memᴰ.append_left (visit_at p row n ∷ []) (visit-member n i less))
        | no same ↦ rw (visits-next n) (mathlib.Core.List.Memᴰ.append_right (visits_to p row n) (mathlib.Core.List.Memᴰ.head (ap (visit_at p row) (omega arith))))
      ]

  pub member-visit : (n : ℕ) {v : Visit} → Memᴰ v (visits_to p row n) → (i : ℕ) × (i < n) × (v ≡ visit_at p row i)
  member-visit zero {v} m = absurd (mathlib.Core.List.Memᴰ.not-nil (rw visits-none at m))
  member-visit (suc n) {v} m =
      ⊎_elim
      (λ (a : Memᴰ v (visits_to p row n)). let r = member-visit n a in (r.0, omega (arith, r.1), r.2))
      (λ (b : Memᴰ v (visit_at p row n ∷ [])). (n, omega arith, mathlib.Core.List.Memᴰ.eq_of_singleton b))
      (mathlib.Core.List.Memᴰ.append_cases (visits_to p row n) (rw (visits-next n) at m))
