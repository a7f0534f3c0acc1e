-- Theorems about what Builds defines.
use Rattle.std.specs.Prelude.{ℕ, ◌≡◌, Err}
use Rattle.std.proofs.Math.Path.{refl, ap}
use Rattle.std.proofs.Common.{sym, ◌∙◌}
use Rattle.prelude.specs.Verdict.{Verdict, Accepted}
use Rattle.bankdef.specs.declared.Bankdefs.{Bankdefs}
use Rattle.output.specs.Output.{Input, Lent, room_of}
use Rattle.output.specs.declared.Output.{Output}
use Rattle.build_paged.specs.InProfile.{outcome, built_of, said_of, after_yes, built_in_profile, BuildsInProfile}
use Rattle.build_paged.specs.Laws.InProfile.{answer-of, left-of}
use Rattle.thm_conversions.specs.Widened.{only_bank, two_banks, widened, with_bank1, OneBank}
use Rattle.thm_conversions.specs.DefaultBankSame.{TwoBanks}
use Rattle.thm_conversions.specs.Laws.DefaultBankSame.{two-banks}
use Rattle.thm_conversions.specs.Theorems.DefaultBankSame.{same-build}
use Rattle.thm_conversions.specs.Raised.{raised_verdict}
use Rattle.thm_conversions.specs.Theorems.DefaultProfileSame.{same-verdict}
use Rattle.thm_conversions.specs.Builds.{profile_outcome, profile_output}
use Rattle.thm_conversions.specs.Laws.Builds.{ordinary, own}

-- ---- the build in the profile

module _ (b : Input) (table : Bankdefs) (one : OneBank b) (two : TwoBanks (only_bank b) table) (page : ℕ) where
  outcomes : {r s : Output} {x y : Lent} → r ≡ s → x ≡ y → outcome r x ≡ outcome s y
  outcomes e f = rw (e, f)

  -- The same outcome but for places.
  pub same_outcome : (old : Lent) → built_in_profile page (widened b table) old ≡ profile_outcome b (built_in_profile page b old)
  unfolding built_in_profile
  same_outcome old =
      ap (λ (v : Verdict). after_yes v (built_of (widened b table) old) old) (same-verdict b table one two page) ∙ go (said_of page b)
    where
      go : (v : Verdict) → after_yes (raised_verdict b v) (built_of (widened b table) old) old ≡ profile_outcome b (after_yes v (built_of b old) old)
      go Accepted =
          let e = same-build b table one two old (own b old) (own (widened b table) old) in
          outcomes (e.0 ∙ ordinary b (room_of old)) e.1
      go (Err why) = refl

  -- Two calls of the build in the profile, by its contract, with the same lent: the answers are one but for the places, everything lent is the same.
  pub same-build-in-profile : (old : Lent) {r s : Output} {new other : Lent} → BuildsInProfile page b old r new
      → BuildsInProfile page (widened b table) old s other → (s ≡ profile_output b r) × (other ≡ new)
  same-build-in-profile old {r} {s} {new} {other} here there =
      let e : outcome s other ≡ outcome (profile_output b r) new = there.result ∙ same_outcome old ∙ ap (profile_outcome b) (sym here.result) in
      (answer-of e, left-of e)

-- Of the layout with the table that the converter makes.
pub converted-same-build-in-profile : (b : Input) → OneBank b → (page : ℕ) (old : Lent) {r s : Output} {new other : Lent} → BuildsInProfile page b old r new
    → BuildsInProfile page (with_bank1 b) old s other → (s ≡ profile_output b r) × (other ≡ new)
converted-same-build-in-profile b one page old here there =
    same-build-in-profile b (two_banks (only_bank b)) one (two-banks (only_bank b)) page old here there
