-- `dk_build` says its sentence: the build of the table, told in numbers. The elements of what is given are as small as their types say.
use native.Mathlib.Omega.{arith}
use Rattle.meets_build.specs.Theorems.Meets.{build-meets}
use Rattle.denkumari.proofs.TableLaws.{tables-told}
use Rattle.denkumari.proofs.builds.dk_build.Goals as goal

pub returns : goal.returns
returns c =
    build-meets _ (record {
      units = λ b. omega (arith, c.shared_slice_known-1.given b);
      sizes = λ b. omega (arith, c.shared_slice_known-2-1.given b);
      offsets = λ b. omega (arith, c.shared_slice_known-3-1.given b);
      aligns = λ b. omega (arith, c.shared_slice_known-4-1.given b);
      numbers = λ b. omega (arith, c.shared_slice_known-9-1.given b);
      limit = omega (arith, c.ranges.limit);
    }) _ _ _ (tables-told c.make_banks-banks.ensures c.choose-choices.ensures c.tell_layout.ensures c.build_output.ensures)
