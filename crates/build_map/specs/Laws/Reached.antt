-- Laws that Theorems/Reached rests on.
use Rattle.std.specs.Prelude.{◌≡◌, refl, ℕ, ◌≤◌, Err}
use Rattle.std.proofs.Common.{arith}
use Rattle.prelude.specs.Refusals.{number_of, place_of}
use Rattle.prelude.specs.Told.{Told, refuses, told_refusal}
use Rattle.prelude.specs.declared.Place.{Place}
use Rattle.prelude.specs.declared.Place.TheVariants.{One}
use Rattle.prelude.specs.declared.Refusal.{Refusal}
use Rattle.prelude.specs.declared.Refusal.TheVariants.{BankCount, BankNumber, BanksOverlap, Malformed, PositionPast, LabelOffBoundary, Unresolved, DefaultBank}
use Rattle.prelude.specs.declared.Refusal.TheVariants.{PastBank, NoOutput, Overlap, StoreFull, TooShort}
use Rattle.prelude.specs.declared.Refusal.TheVariants.{BadStore, BadPart, PartlyCovered, FillBitDropped, OffProfile}
use Rattle.prelude.specs.Verdict.{Verdict, Accepted}
use Rattle.resolver.specs.Layout.{unless}
use Rattle.resolver.specs.declared.Resolution.{Resolution}
use Rattle.build_map.specs.Map.{node_of}

-- ---- the places of 5, 7 and 8

-- 4 to 11 have one number as their place
pub one_place : (why : Refusal) → 4 ≤ number_of why → number_of why ≤ 11 → place_of why ≡ One (node_of why)
one_place BankCount a b = refl
one_place (BankNumber p) a b = refl
one_place (BanksOverlap p q) a b = absurd (let z : ⊥ = omega arith in z)
one_place (Malformed p) a b = refl
one_place (PositionPast p) a b = refl
one_place (LabelOffBoundary p) a b = refl
one_place Unresolved a b = refl
one_place (DefaultBank p) a b = refl
one_place (PastBank p) a b = refl
one_place (NoOutput p) a b = refl
one_place (Overlap p q) a b = absurd (let z : ⊥ = omega arith in z)
one_place (StoreFull p) a b = refl
one_place (TooShort p) a b = refl
one_place (BadStore p) a b = refl
one_place BadPart a b = refl
one_place PartlyCovered a b = refl
one_place FillBitDropped a b = refl
one_place (OffProfile p q) a b = absurd (let z : ⊥ = omega arith in z)

pub eight-place : (why : Refusal) → number_of why ≡ 8 → place_of why ≡ One 0
eight-place BankCount e = refl
eight-place (BankNumber p) e = absurd (let z : ⊥ = omega arith in z)
eight-place (BanksOverlap p q) e = absurd (let z : ⊥ = omega arith in z)
eight-place (Malformed p) e = absurd (let z : ⊥ = omega arith in z)
eight-place (PositionPast p) e = absurd (let z : ⊥ = omega arith in z)
eight-place (LabelOffBoundary p) e = absurd (let z : ⊥ = omega arith in z)
eight-place Unresolved e = refl
eight-place (DefaultBank p) e = absurd (let z : ⊥ = omega arith in z)
eight-place (PastBank p) e = absurd (let z : ⊥ = omega arith in z)
eight-place (NoOutput p) e = absurd (let z : ⊥ = omega arith in z)
eight-place (Overlap p q) e = absurd (let z : ⊥ = omega arith in z)
eight-place (StoreFull p) e = absurd (let z : ⊥ = omega arith in z)
eight-place (TooShort p) e = absurd (let z : ⊥ = omega arith in z)
eight-place (BadStore p) e = absurd (let z : ⊥ = omega arith in z)
eight-place BadPart e = refl
eight-place PartlyCovered e = refl
eight-place FillBitDropped e = refl
eight-place (OffProfile p q) e = absurd (let z : ⊥ = omega arith in z)

pub told-as : (why : Refusal) {n : ℕ} {p : Place} → number_of why ≡ n → place_of why ≡ p → ◌≡◌ {A = Told ℕ} (told_refusal why) (refuses n p)
told-as why e f = rw (e, f)

pub ran : (v : Verdict) (q : Resolution) → ((unless v q).passes ≡ 0 → ⊥) → (v ≡ Accepted) × (unless v q ≡ q)
ran Accepted q h = (refl, refl)
ran (Err why) q h = absurd (h refl)
