-- What the profile says of a table, and a build in it, are told as they are.
use Rattle.std.specs.Prelude.{Some}
use mathlib.Core.Path.{◌≡◌, ap, subst, ◌∙◌}
use Prim.Native.Nat.{ℕ}
use Rattle.bankdef.specs.declared.Bankdefs.{Bankdefs}
use Rattle.nodes.specs.Lists.{Lists}
use Rattle.resolver.specs.declared.Choices.{Choices}
use Rattle.build_profile.specs.Profile.{profile_of}
use Rattle.build_profile.specs.Told.{Answers}
use Rattle.build_profile.specs.declared.Paged.{Paged}
use Rattle.output.specs.Output.{input, Lent, room_of}
use Rattle.output.specs.declared.Output.{Output}
use Rattle.form_build.specs.Paged.{output_in, BuiltIn}
use Rattle.c_answers.specs.Told.{layout_told, profile_told}
use Rattle.c_model.specs.Profiles.{ProfileSaid, PagedTold}
use Rattle.c_answers.specs.declared.DkLayout.{DkLayout}
use Rattle.c_answers.specs.declared.DkProfile.{DkProfile}

pub profile-said : {banks table : Bankdefs} {l : Lists} {chosen choices : Choices} {page : ℕ} {p : Paged} {t : DkProfile} → banks ≡ table
    → chosen ≡ choices → t ≡ profile_told p → Answers banks l chosen.fill page p → ProfileSaid table l choices.fill page t
profile-said {l = l} {page = page} same chose told says =
    record { answer = told ∙ ap profile_told (rw (same, chose) at says.answer) }

pub paged-told : {page : ℕ} {banks table : Bankdefs} {l : Lists} {chosen choices : Choices} {old new : Lent} {r : Output} {t : DkLayout}
    → banks ≡ table → chosen ≡ choices → t ≡ layout_told r → BuiltIn (Some page) (input banks l chosen) old r new
    → PagedTold page (input table l choices) old t new
paged-told {page} {table = table} {l} {choices = choices} {old} {new} {r} {t} same chose told built =
    let b : BuiltIn (Some page) (input table l choices) old r new = rw (same, chose) at built in
    record {
      answer = told ∙ ap layout_told b.answer;
      built = subst (λ (o : Output). BuiltIn (Some page) (input table l choices) old o new) b.answer b;
    }
