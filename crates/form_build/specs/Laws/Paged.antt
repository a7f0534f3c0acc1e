-- Laws that Theorems/Paged rests on.
use Rattle.std.specs.Prelude.{◌≡◌, refl, ℕ, Err, Some}
use Rattle.std.proofs.Common.{sym, ap, ◌∙◌}
use Rattle.prelude.specs.Verdict.{Verdict, Accepted}
use Rattle.output.specs.Output.{Input, Lent, room_of, build_of}
use Rattle.output.specs.declared.Output.{Output}
use Rattle.build_paged.specs.InProfile.{outcome, leaves, built_of, said_of, after_yes, built_in_profile, BuildsInProfile}
use Rattle.build_paged.specs.Laws.InProfile.{answer-of, left-of}
use Rattle.form_build.specs.Paged.{BuiltIn, after_said, output_in}

module _ (bits : ℕ) (b : Input) (old : Lent) where
  as_said : (v : Verdict)
      → after_yes v (built_of b old) old ≡ outcome (after_said v (build_of b (room_of old))) (leaves b old (after_said v (build_of b (room_of old))))
  as_said Accepted = refl
  as_said (Err why) = refl

  said-so : built_in_profile bits b old ≡ outcome (output_in (Some bits) b (room_of old)) (leaves b old (output_in (Some bits) b (room_of old)))
  unfolding built_in_profile
  said-so = as_said (said_of bits b)

  pub after-yes : {r : Output} {new : Lent} → BuildsInProfile bits b old r new → BuiltIn (Some bits) b old r new
  after-yes p =
      let same = p.result ∙ said-so in
      let answer = answer-of same in
      record { answer = answer; left = left-of same ∙ ap (leaves b old) (sym answer) }
