-- Laws that Theorems/Written rests on.
use Rattle.std.specs.Prelude.{◌≡◌, refl, Bool, true, false, ◌&&◌, List, ℕ, ◌+◌, ◌*◌, length, Err}
use Rattle.std.proofs.Common.{sym, subst, leb-true, leb-false}
use Rattle.prelude.specs.Laws.Bools.{unlike}
use Rattle.prelude.specs.Pick.{pick}
use Rattle.prelude.specs.Told.{told_verdict}
use Rattle.prelude.specs.declared.Refusal.{Refusal}
use Rattle.prelude.specs.declared.Refusal.TheVariants.{Malformed}
use Rattle.prelude.specs.Verdict.{Accepted, Verdict}
use Rattle.bitvec.specs.Within.{ends_within}
use Rattle.bitvec.specs.Written.{WriteTold, both-within, is_written, past-image, past-values}

module _ (image : List ℕ) (position : ℕ) (values : List ℕ) (start size : ℕ) where
  by_tests : (p v : Bool) → ends_within (length image) position size ≡ p → ends_within (length values) start size ≡ v
      → WriteTold image position values start size (told_verdict (pick (p && v) Accepted (Err (Malformed 0))))
  by_tests true true e f = both-within (leb-true (position + size) (8 * length image) e) (leb-true (start + size) (8 * length values) f)
  by_tests true false e f = past-values (leb-false (start + size) (8 * length values) f)
  by_tests false v e f = past-image (leb-false (position + size) (8 * length image) e)

  pub write-told : {verdict : Verdict} → verdict ≡ pick (is_written image position values start size) Accepted (Err (Malformed 0))
      → WriteTold image position values start size (told_verdict verdict)
  write-told e =
      subst (λ (v : Verdict). WriteTold image position values start size (told_verdict v)) (sym e)
      (by_tests (ends_within (length image) position size) (ends_within (length values) start size) refl refl)

-- A test whose outcome a verdict tells.
pub accepted-test : (b : Bool) (r : Refusal) → Accepted ≡ pick b Accepted (Err r) → b ≡ true
accepted-test true r e = refl
accepted-test false r e = unlike cc

pub refused-test : (b : Bool) (q r : Refusal) → Err q ≡ pick b Accepted (Err r) → b ≡ false
refused-test true q r e = unlike cc
refused-test false q r e = refl
