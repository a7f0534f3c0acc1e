-- The definitions' reasons, one test behind the other, and the sentences' `Tries`: the same order.
use Rattle.std.specs.Prelude.{◌≡◌, refl, Bool, true, false, ℕ, eqb}
use Rattle.std.proofs.Common.{sym, subst}
use Rattle.prelude.specs.Laws.Pick.{pick-false}
use Rattle.prelude.specs.Pick.{pick}
use Rattle.record_reason.specs.Spelling.{or_else}
use Rattle.record_reason.specs.Reasons as reasons
use Rattle.record_reason.specs.declared.Cause.{Cause}
use Rattle.c_answers.specs.Parts.{reason_told}
use Rattle.c_answers.specs.declared.DkReason.{DkReason}
use Rattle.says.specs.Words as w
use Rattle.says.specs.Words.{Tries}

-- a cause at a line, as a caller is told of it
abbrev pub told_of : ℕ → Cause → DkReason
told_of n c = reason_told (reasons.told_of n c)

pub or-first : (c r : Cause) → eqb c.reason 0 ≡ false → or_else c r ≡ c
or-first c r e = pick-false r c e

pub or_assoc : (a b c : Cause) → or_else (or_else a b) c ≡ or_else a (or_else b c)
or_assoc a b c = go (eqb a.reason 0) refl
  where
    go : (t : Bool) → eqb a.reason 0 ≡ t → or_else (pick t b a) c ≡ pick t (or_else b c) a
    go true e = refl
    go false e = or-first a c e

module _ (n : ℕ) {X : Type 0} {Met : X → Type 0} {refusal : X → DkReason} {Then : DkReason → Type 0} where
  -- a test that fails is the reason
  pub unless : (b : Bool) (x : X) (c d r : Cause) → refusal x ≡ told_of n c → eqb c.reason 0 ≡ false → (b ≡ false → Met x)
      → (b ≡ true → (z : X) → Met z → ⊥) → (b ≡ true → Then (told_of n (or_else d r))) → Tries Met refusal Then (told_of n (or_else (pick b d c) r))
  unless true x c d r e some met none on = w.passed (none refl) (on refl)
  unless false x c d r e some met none on =
      subst (λ (k : Cause). Tries Met refusal Then (told_of n k)) (sym (or-first c r some)) (subst (Tries Met refusal Then) e (w.refused x (met refl)))

  -- a test that holds is the reason
  pub where-so : (b : Bool) (x : X) (c d r : Cause) → refusal x ≡ told_of n c → eqb c.reason 0 ≡ false → (b ≡ true → Met x)
      → (b ≡ false → (z : X) → Met z → ⊥) → (b ≡ false → Then (told_of n (or_else d r))) → Tries Met refusal Then (told_of n (or_else (pick b c d) r))
  where-so false x c d r e some met none on = w.passed (none refl) (on refl)
  where-so true x c d r e some met none on =
      subst (λ (k : Cause). Tries Met refusal Then (told_of n k)) (sym (or-first c r some)) (subst (Tries Met refusal Then) e (w.refused x (met refl)))
