-- Laws that Theorems/Faults rests on.
use Rattle.std.specs.Prelude.{false, List, ◌≡◌, ℕ}
use Rattle.std.proofs.Common.{sym, ◌∙◌}
use Rattle.form_fields.specs.Words.{byte}
use Rattle.form_fields.specs.Fields.{field_at, sound_at, run}
use Rattle.form_fields.specs.Laws.Fields.{field-tag, sound-field, by-test}
use Rattle.form_fields.specs.Theorems.Fields.{run-stop}

-- ---- "An old reader refuses form 2 with 4."

module _ (file : List ℕ) (t : ℕ) (first : byte file 0 ≡ t) where
  pub other : (tag len : ℕ) → (t ≡ tag → ⊥) → field_at file tag len 0 ≡ false
  other tag len apart = by-test (field_at file tag len 0) (λ e. absurd (apart (sym first ∙ field-tag file tag len 0 e))) (λ e. e)

  pub no_run : (tag len : ℕ) → (t ≡ tag → ⊥) → run file tag len 0 ≡ 0
  no_run tag len apart =
      by-test (sound_at file tag len 0)
      (λ e. absurd (apart (sym first ∙ field-tag file tag len 0 (sound-field file tag len 0 e))))
      (run-stop file tag len 0)
