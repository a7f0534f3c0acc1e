-- Theorems about what Exactly defines.
use Rattle.std.specs.Prelude.{ℕ, ◌<◌, Bool, true, not, List, [], ◌↔◌, ◌≡◌, length, get_or}
use Rattle.std.proofs.Common.{ap}
use Rattle.prelude.specs.Laws.Bools.{either, clash}
use Rattle.form_fields.specs.declared.Kind.{Kind}
use Rattle.form_fields.specs.Contents.{Contents}
use Rattle.form_rewrite.specs.Turning.{all_of, bit_clear, drops_bit}
use Rattle.form_convert.specs.Convert.{Converts}
use Rattle.thm_conversions.specs.Laws.Exactly.{each-clear}
use Rattle.thm_conversions.specs.Laws.Exactly.{one_set}

-- ---- exactly when

-- A fill bit is dropped exactly where the last byte of some bank is not zero.
pub drops-bit-exactly : (d : Contents) → (drops_bit d ≡ true) ↔ ((i : ℕ) × (i < length d.banks) × (get_or (get_or d.banks i []) 23 0 ≡ 0 → ⊥))
drops-bit-exactly d = (
  λ e. either (all_of bit_clear d.banks) (λ t. absurd (clash e (ap not t))) (λ f. one_set d.banks f),
  λ h. either (all_of bit_clear d.banks) (λ t. absurd (h.2 (each-clear d.banks t h.0 h.1))) (λ f. ap not f),
)
