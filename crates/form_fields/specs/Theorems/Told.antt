-- Theorems about what Told defines.
use Rattle.std.specs.Prelude.{ℕ, ◌+◌, Bool, true, false, not, List, ◌≡◌, ltb, length, Err, Ok, Result}
use Rattle.std.proofs.Math.Path.{refl}
use Rattle.std.proofs.Common.{sym, subst, ltb-true, ltb-false}
use Rattle.prelude.specs.Pick.{pick}
use Rattle.prelude.specs.Told.{told_verdict}
use Rattle.prelude.specs.declared.Refusal.TheVariants.{Malformed}
use Rattle.prelude.specs.declared.Refusal.{Refusal}
use Rattle.prelude.specs.Verdict.{Verdict}
use Rattle.form_fields.specs.declared.Kind.{Kind}
use Rattle.form_fields.specs.Fields.{field_at}
use Rattle.form_fields.specs.Lists.{Lists}
use Rattle.form_fields.specs.Kind.{headed}
use Rattle.form_fields.specs.Shape.{values_start_in, values_size_in, limit_start_in, fields_before_in, shape_in, form_in, form_of}
use Rattle.form_fields.specs.Laws.Told.{lists-by}
use Rattle.form_fields.specs.Told.{FormIs, FormTold, ListsAre, ListsTold, extra, long, no-head, no-limit, no-values, sound, told_form}
use Rattle.form_fields.specs.declared.Shape.{Shape}

module _ (k : Kind) (file : List ℕ) where
  by_tests : (l h v m x : Bool) → ltb k.longest (length file) ≡ l → headed k file ≡ h
      → field_at file 4 (values_size_in k file) (values_start_in k file) ≡ v → field_at file 5 1 (limit_start_in k file) ≡ m
      → ltb (limit_start_in k file + 4) (length file) ≡ x
      → FormTold k file (told_form
      (pick l (Err (Malformed 0))
      (pick (not h) (Err (Malformed 0))
      (pick (not v) (Err (Malformed (fields_before_in k file)))
      (pick (not m) (Err (Malformed (fields_before_in k file + 1)))
      (pick x (Err (Malformed (fields_before_in k file + 2))) (Ok (shape_in k file))))))))
  by_tests true h v m x a t b c d = long (ltb-true k.longest (length file) a)
  by_tests false false v m x a t b c d = no-head (ltb-false k.longest (length file) a) t
  by_tests false true false m x a t b c d = no-values (ltb-false k.longest (length file) a) t b
  by_tests false true true false x a t b c d = no-limit (ltb-false k.longest (length file) a) t b c
  by_tests false true true true true a t b c d =
      extra (ltb-false k.longest (length file) a) t b c (ltb-true (limit_start_in k file + 4) (length file) d)
  by_tests false true true true false a t b c d =
      sound (ltb-false k.longest (length file) a) t b c (ltb-false (limit_start_in k file + 4) (length file) d)

  -- What is told of every file.
  pub form-told : FormTold k file (told_form (form_in k file))
  unfolding form_in
  form-told =
      by_tests (ltb k.longest (length file)) (headed k file) (field_at file 4 (values_size_in k file) (values_start_in k file))
      (field_at file 5 1 (limit_start_in k file)) (ltb (limit_start_in k file + 4) (length file)) refl refl refl refl refl

  pub form-is : {answer : Result Shape Refusal} → answer ≡ form_in k file → (FormIs k file) answer
  form-is e = record { is = e; told = subst (λ (r : Result Shape Refusal). FormTold k file (told_form r)) (sym e) form-told }

pub lists-are : {file kinds operands numbers states kinds' operands' numbers' states' : List ℕ} {answer : Verdict}
    → Lists file kinds operands numbers states answer kinds' operands' numbers' states'
    → ListsAre file kinds operands numbers states answer kinds' operands' numbers' states'
lists-are {file} {kinds} {operands} {numbers} {states} p =
    record {
      lists = p;
      told = subst (λ (v : Verdict). ListsTold (form_of file) (length kinds) (length operands) (length numbers) (length states) (told_verdict v))
          (sym p.verdict) (lists-by (length kinds) (length operands) (length numbers) (length states) (form_of file));
    }
