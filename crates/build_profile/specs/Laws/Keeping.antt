-- Laws that Theorems/Keeping rests on.
use Rattle.std.specs.Prelude.{ℕ, ◌%◌, ◌<◌, ◌≡◌, refl, Bool, true, not, ◌||◌, ◌⊎◌, ◌↔◌, eqb, get_or, None, Some, Option}
use Rattle.std.proofs.Common.{inl, inr, eqb-true, eq-eqb}
use Rattle.prelude.specs.Laws.Bools.{either, unlike, or-told}
use Rattle.nodes.specs.Lists.{Lists}
use Rattle.build_profile.specs.RuleLaws.{Every}
use Rattle.build_profile.specs.Rules.{on_page, whole_pages, unit_kept, number_in}

-- ---- the tests

pub never : {a : ℕ} → None ≡ Some a → ⊥
never e = unlike cc

pub of_some : {a b : ℕ} → Some a ≡ Some b → a ≡ b
of_some e = cc

pub page-test : (page : ℕ) (o : Option ℕ) → (on_page page o ≡ true) ↔ ((offset : ℕ) → o ≡ Some offset → offset % page ≡ 0)
page-test page None = (λ e x q. absurd (never q), λ h. refl)
page-test page (Some b) = (λ e x q. rw (← (of_some q)) (eqb-true (b % page) 0 e), λ h. eq-eqb (b % page) 0 (h b refl))

pub size-test : (page : ℕ) (o s : Option ℕ) → (whole_pages page o s ≡ true) ↔ ((offset : ℕ) → o ≡ Some offset → (size : ℕ) × (s ≡ Some size) × (size % page ≡ 0))
size-test page None s = (λ e x q. absurd (never q), λ h. refl)
size-test page (Some b) None =
    (λ e. unlike cc, λ h. absurd (never (h b refl).1))
size-test page (Some b) (Some y) = (
  λ e x q. (y, refl, eqb-true (y % page) 0 e),
  λ h. let w = h b refl in eq-eqb (y % page) 0 (rw (of_some w.1) w.2),
)

pub unit-test : (u : ℕ) → (unit_kept u ≡ true) ↔ ((u ≡ 8) ⊎ (u ≡ 16))
unit-test u = (λ e. there (or-told (eqb u 8) (eqb u 16) e), back)
  where
    there : (eqb u 8 ≡ true) ⊎ (eqb u 16 ≡ true) → (u ≡ 8) ⊎ (u ≡ 16)
    there (inl t) = inl (eqb-true u 8 t)
    there (inr t) = inr (eqb-true u 16 t)

    back : (u ≡ 8) ⊎ (u ≡ 16) → unit_kept u ≡ true
    back (inl e) = rw e
    back (inr e) = rw e

-- a rule that only one kind of node has to keep
gated : (kind want : ℕ) (t : Bool) (P : Type 0) → (t ≡ true) ↔ P → (not (eqb kind want) || t ≡ true) ↔ (kind ≡ want → P)
gated kind want t P tells = (
  λ e q. tells.0 (let f : not true || t ≡ true = rw (eq-eqb kind want q) at e in f),
  λ h. either (eqb kind want) (λ s. rw s (tells.1 (h (eqb-true kind want s)))) (λ s. rw s),
)

-- "in every row": a node that every row shows so
module _ (l : Lists) (i want : ℕ) (test : ℕ → Bool) (P : ℕ → Type 0) (tells : (x : ℕ) → (test x ≡ true) ↔ P x) where
  pub in_rows : ((r : ℕ) → r < l.rows → not (eqb (get_or l.kinds i 0) want) || test (number_in l r i) ≡ true)
      ↔ (get_or l.kinds i 0 ≡ want → Every (λ r. P (number_in l r i)) l.rows)
  in_rows = (
    λ every q r h. (gated (get_or l.kinds i 0) want (test (number_in l r i)) (P (number_in l r i)) (tells (number_in l r i))).0 (every r h) q,
    λ keeps r h. (gated (get_or l.kinds i 0) want (test (number_in l r i)) (P (number_in l r i)) (tells (number_in l r i))).1 (λ q. keeps q r h),
  )
