-- Laws that Theorems/Ragged rests on.
use Rattle.std.specs.Prelude.{◌≡◌, refl, Bool, true, false}
use Rattle.std.specs.Int.Count.{ones, ones_in}
use Rattle.prelude.specs.Verdict.{Accepted}
use Rattle.resolver.specs.Passes.{first}
use Rattle.build_profile.specs.Rules.{rules_of}
use Rattle.build_profile.specs.Standing.{bank_before}
use Rattle.build_paged.specs.Ragged.{paged_banks, three_bits}

pub rules-kept : (filled : Bool) → rules_of (paged_banks filled) (three_bits filled).lists 16 ≡ Accepted
unfolding rules_of first bank_before ones ones_in
rules-kept true = refl
rules-kept false = refl
