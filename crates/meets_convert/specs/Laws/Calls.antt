-- A conversion, from its sentences, as the definitions tell it: what was made of a file, and that it holds bytes.
use Rattle.std.specs.Prelude.{◌≡◌, refl, Bool, List, ℕ, ◌≤◌, Result, Ok, Err}
use Rattle.std.proofs.Common.{sym, ap, subst, ◌∙◌, arith}
use Rattle.prelude.specs.Theorems.Told.{number-some}
use Rattle.prelude.specs.declared.Refusal.{Refusal}
use Rattle.form_fields.specs.declared.Kind.{Kind}
use Rattle.form_fields.specs.Contents.{Contents}
use Rattle.form_fields.specs.Whole.{Bytes}
use Rattle.form_convert.specs.Convert.{Converts}
use Rattle.thm_conversions.specs.Theorems.Conversions.{turned-file}
use Rattle.c_answers.specs.Counts.{conversion_count}
use Rattle.c_answers.specs.declared.DkCount.{DkCount}
use Rattle.c_model.specs.Conversions.{WayTold, answer_in}
use Rattle.says.specs.Files.{Form, form-1, form-2}
use Rattle.says.specs.Convert.{Outcome, ConvertSays}
use Rattle.meets_form.specs.Laws.Written.{kind, known}
use Rattle.meets_convert.specs.Built.{made}
use Rattle.meets_convert.specs.Laws.Answers.{drops_of}
use Rattle.meets_convert.specs.Laws.Bytes as law
use Rattle.meets_convert.specs.Laws.Turns.{turn, other}
use Rattle.meets_convert.specs.Theorems.Exactly.{convert-told}

-- ---- a contract, as the definitions tell it

module _ (from to : Kind) (turn : Contents → Contents) (drops : Contents → Bool) (file old : List ℕ) (r : DkCount) (new : List ℕ)
    (told : WayTold from to turn drops file old r new) where
  abbrev answer : Result ℕ Refusal
  answer = answer_in from to turn drops file old

  pub any-call : Converts from to turn drops file old answer new
  any-call = record { is = refl; out = told.out }

  not-refused : r.refusal ≡ 0 → answer ≡ Ok r.count
  not-refused zero = go answer refl
    where
      go : (a : Result ℕ Refusal) → answer ≡ a → answer ≡ Ok r.count
      go (Err why) e =
          let same = told.answer ∙ ap conversion_count e in
          absurd (omega (arith, ap (λ (x : DkCount). x.refusal) same, zero, number-some why))
      go (Ok n) e =
          let same = told.answer ∙ ap conversion_count e in
          e ∙ ap Ok (sym (ap (λ (x : DkCount). x.count) same))

  pub converted : r.refusal ≡ 0 → Converts from to turn drops file old (Ok r.count) new
  converted zero = subst (λ (a : Result ℕ Refusal). Converts from to turn drops file old a new) (not-refused zero) any-call

-- ---- a call that was not refused, from its sentences

low : (f : Form) → (kind f).longest ≤ 65536
low form-1 = omega arith
low form-2 = omega arith

module _ (f : Form) (file old : List ℕ) (v : Outcome) (small : Bytes file) (says : ConvertSays f file old v) (zero : v.answer.refusal ≡ 0) where
  pub called : Converts (kind f) (kind (other f)) (turn f) (drops_of f) file old (Ok v.answer.count) v.out
  called =
      converted (kind f) (kind (other f)) (turn f) (drops_of f) file old v.answer v.out (convert-told f file small old v says) zero

  pub made_bytes : Bytes (made v)
  made_bytes =
      law.made_bytes f (known (other f)) (drops_of f) file old v.answer.count v.out (low (other f)) small
      (turned-file (known f) (turn f) (drops_of f) file old v.answer.count v.out small called)
