-- Laws that Theorems/Exactly rests on.
use Rattle.std.specs.Prelude.{ℕ, zero, suc, ◌<◌, Bool, true, false, List, [], ◌∷◌, ◌≡◌, refl, length, get_or, Result}
use Rattle.std.proofs.Common.{sym, ap, arith, eq-eqb, eqb-true}
use Rattle.prelude.specs.Laws.Bools.{either, both, clash, unlike}
use Rattle.prelude.specs.Told.{Told, gives, refuses, told_number}
use Rattle.prelude.specs.declared.Place.{Place}
use Rattle.prelude.specs.declared.Place.TheVariants.{One}
use Rattle.prelude.specs.declared.Refusal.{Refusal}
use Rattle.form_fields.specs.declared.Kind.{Kind}
use Rattle.form_fields.specs.Contents.{Contents, written}
use Rattle.form_fields.specs.Told.{told_form}
use Rattle.form_fields.specs.declared.Shape.{Shape}
use Rattle.form_rewrite.specs.Turning.{all_of, bit_clear}
use Rattle.form_convert.specs.Told as told
use Rattle.form_convert.specs.Told.{ConvertTold}
use Rattle.thm_conversions.specs.Exactly.{Fair}

-- ---- figures

number : {X : Type 0} {n m : ℕ} {p q : Place} → ◌≡◌ {A = Told X} (refuses n p) (refuses m q) → n ≡ m
number {X} e = ap (λ (t : Told X). told_number t) e

place : {X : Type 0} {n m : ℕ} {p q : Place} → ◌≡◌ {A = Told X} (refuses n p) (refuses m q) → p ≡ q
place e = cc

pub never : {X : Type 0} {x : X} {n : ℕ} {p : Place} → ◌≡◌ {A = Told X} (gives x) (refuses n p) → ⊥
never e = unlike cc

not-14 : {n : ℕ} → n ≡ 4 → n ≡ 14 → ⊥
not-14 e f = omega (arith, e, f)

-- ---- from what is told to its cause

module _ {k : Kind} {form : Result Shape Refusal} {c d : Contents} {drops : Bool} {room : ℕ} (four : (n : ℕ) (p : Place) → told_form form ≡ refuses n p → n ≡ 4) where
  pub from-14 : {t : Told ℕ} {p : Place} → ConvertTold k form c d drops room t → t ≡ refuses 14 p
      → (p ≡ One 0) × Fair k form c d × (drops ≡ false) × (room < length (written k d))
  from-14 (told.broken e) q = absurd (not-14 (four _ _ e) (number q))
  from-14 (told.nodes s e h) q = absurd (omega (arith, number q))
  from-14 (told.rows s e a h) q = absurd (omega (arith, number q))
  from-14 (told.names s e a b h) q = absurd (omega (arith, number q))
  from-14 (told.long s e a h) q = absurd (omega (arith, number q))
  from-14 (told.bit s e a b h) q = absurd (omega (arith, number q))
  from-14 (told.short s e a b f h) q = (sym (place q), record { shape = s; sound = e; counts = a; within = b }, f, h)
  from-14 (told.taken s e a b f h) q = absurd (never q)

-- ---- from a cause to the answer

module _ (k : Kind) (c d : Contents) (drops : Bool) (room : ℕ) where
  abbrev pub long : ℕ
  long = length (written k d)

-- ---- "a way back that would drop a fill bit of one"

pub one_set : (banks : List (List ℕ)) → all_of bit_clear banks ≡ false → (i : ℕ) × (i < length banks) × (get_or (get_or banks i []) 23 0 ≡ 0 → ⊥)
unfolding all_of
one_set [] e = absurd (clash refl e)
one_set (b ∷ banks) e =
    either (bit_clear b)
    (λ t.
    let rest : all_of bit_clear banks ≡ false = rw t at e in
    let r = one_set banks rest in
    (suc r.0, omega (arith, r.1), r.2))
    (λ t. (0, omega arith, λ z. clash (eq-eqb (get_or b 23 0) 0 z) t))

pub each-clear : (banks : List (List ℕ)) → all_of bit_clear banks ≡ true → (i : ℕ) → i < length banks → get_or (get_or banks i []) 23 0 ≡ 0
unfolding all_of
each-clear [] e i h = absurd (omega (arith, h))
each-clear (b ∷ banks) e zero h = eqb-true (get_or b 23 0) 0 (both (bit_clear b) (all_of bit_clear banks) e).0
each-clear (b ∷ banks) e (suc i) h = each-clear banks (both (bit_clear b) (all_of bit_clear banks) e).1 i (omega (arith, h))
