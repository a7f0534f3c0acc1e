-- The profile of a device with pages, and a build in it, as a caller in another language is told of them.
use Rattle.std.specs.Prelude.{◌≡◌, ℕ, Some}
use Rattle.bankdef.specs.declared.Bankdefs.{Bankdefs}
use Rattle.nodes.specs.Lists.{Lists}
use Rattle.build_profile.specs.Profile.{profile_of}
use Rattle.output.specs.Output.{Input, Lent, room_of}
use Rattle.form_build.specs.Paged.{output_in, BuiltIn}
use Rattle.c_answers.specs.Told.{layout_told, profile_told}
use Rattle.c_answers.specs.declared.DkLayout.{DkLayout}
use Rattle.c_answers.specs.declared.DkProfile.{DkProfile}

-- What `dk_profile` promises.
pub record ProfileSaid (banks : Bankdefs) (l : Lists) (fill page : ℕ) (r : DkProfile) : Type 0 where
  pub answer : r ≡ profile_told (profile_of banks l fill page)

-- What `dk_build_paged` promises: the build in the profile, told in numbers, and everything lent afterwards.
pub record PagedTold (page : ℕ) (b : Input) (old : Lent) (r : DkLayout) (new : Lent) : Type 0 where
  pub answer : r ≡ layout_told (output_in (Some page) b (room_of old))
  pub built : BuiltIn (Some page) b old (output_in (Some page) b (room_of old)) new
