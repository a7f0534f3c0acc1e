-- `dk_profile` says its sentence: what the profile says, told in numbers. The elements of what is given are as small as their types say.
use native.Mathlib.Omega.{arith}
use Rattle.meets_profile.specs.Theorems.Meets.{profile-meets}
use Rattle.denkumari.proofs.ProfileLaws.{profile-said}
use Rattle.denkumari.proofs.profiles.dk_profile.Goals as goal

pub returns : goal.returns
returns c =
    profile-meets _ (record {
      units = λ b. omega (arith, c.shared_slice_known-1.given b);
      sizes = λ b. omega (arith, c.shared_slice_known-2-1.given b);
      offsets = λ b. omega (arith, c.shared_slice_known-3-1.given b);
      aligns = λ b. omega (arith, c.shared_slice_known-4-1.given b);
      numbers = λ b. omega (arith, c.shared_slice_known-9-1.given b);
      limit = omega arith;
    }) _ _ (profile-said c.make_banks-banks.ensures c.choose-choices.ensures c.tell_paged.ensures c.check_profile.ensures)
