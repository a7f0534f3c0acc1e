-- Theorems about what Cases defines.
use Rattle.std.specs.Prelude.{refl}
use Rattle.std.specs.Int.Count.{ones, ones_in}
use Rattle.resolver.specs.Passes.{first}
use Rattle.build_profile.specs.Pages.{pages_of}
use Rattle.build_profile.specs.Rules.{rules_of}
use Rattle.build_profile.specs.Standing.{bank_before}
use Rattle.thm_conversions.specs.DefaultProfileCases.{RaisedCases}

pub raised-cases : RaisedCases
unfolding rules_of first bank_before ones ones_in pages_of
raised-cases =
    record {
      kept = refl;
      page-24 = refl;
      label-6 = refl;
      offset-8 = refl;
      unsized = refl;
      unit-10 = refl;
      align-12 = refl;
      addr-12 = refl;
      pages = refl;
    }
