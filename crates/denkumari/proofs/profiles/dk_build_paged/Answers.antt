-- `dk_build_paged` says its sentence: the build in the profile, told in numbers. The elements of what is given are as small as their types say.
use native.Mathlib.Omega.{arith}
use Rattle.meets_profile.specs.Theorems.Meets.{paged-meets}
use Rattle.denkumari.proofs.ProfileLaws.{paged-told}
use Rattle.denkumari.proofs.profiles.dk_build_paged.Goals as goal

pub returns : goal.returns
returns c =
    paged-meets _ (record {
      units = λ b. omega (arith, c.shared_slice_known-1.given b);
      sizes = λ b. omega (arith, c.shared_slice_known-2-1.given b);
      offsets = λ b. omega (arith, c.shared_slice_known-3-1.given b);
      aligns = λ b. omega (arith, c.shared_slice_known-4-1.given b);
      numbers = λ b. omega (arith, c.shared_slice_known-9-1.given b);
      limit = omega (arith, c.ranges.limit);
    }) _ _ _ _ (paged-told c.make_banks-banks.ensures c.choose-choices.ensures c.tell_layout.ensures c.build_with.ensures)
