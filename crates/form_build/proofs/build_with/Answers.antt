-- `build_with` meets its contract: the ordinary build, or the one in the profile.
use Rattle.form_build.specs.Theorems.Paged.{in-profile}
use Rattle.form_build.proofs.build_with.Goals as goal

pub returns-in-Some : goal.returns-in-Some
returns-in-Some c =
    in-profile c.in-Some.is c.build_in_profile.ensures
