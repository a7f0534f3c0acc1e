-- Answers as plain numbers, for a caller in another language: "Each refusal returns its number and a place".
use Rattle.std.specs.Prelude.{List, ℕ, replicate, Err, Ok, Result}
use Rattle.prelude.specs.Limits.{max_banks}
use Rattle.prelude.specs.Refusals.{number_of, place_of}
use Rattle.prelude.specs.declared.Refusal.{Refusal}
use Rattle.prelude.specs.declared.Place.{Place}
use Rattle.prelude.specs.declared.Place.TheVariants.{One, Two}
use Rattle.prelude.specs.Verdict.{Verdict, Accepted}
use Rattle.iter.specs.Step.{no_lost}
use Rattle.iter.specs.declared.Lost.{Lost}
use Rattle.output.specs.declared.Output.{Output}
use Rattle.output.specs.declared.Built.{Built}
use Rattle.build_profile.specs.declared.Paged.{Paged}
use Rattle.c_answers.specs.declared.DkCount.{DkCount}
use Rattle.c_answers.specs.declared.DkLayout.{DkLayout}
use Rattle.c_answers.specs.declared.DkProfile.{DkProfile}

-- "Places of two numbers": the first, and the second or 0.
abbrev pub first_of : Place → ℕ
first_of (One a) = a
first_of (Two a b) = a

abbrev pub second_of : Place → ℕ
second_of (One a) = 0
second_of (Two a b) = b

-- "The answer holds K and the number of passes run"; "Refusals 5 to 14 of a layout carry the passes run too". No refusal has number 0.
-- "each bank should carry the sum of bits lost to `align` and to label alignment in the last pass", and "everything that uses the distance passes both on"
-- (document 02, Ticket 2); a refused layout carries zeros.
abbrev pub build_told : Result Built Refusal → ℕ → List Lost → DkLayout
build_told (Ok ended) passes padding =
    record { refusal = 0; place = 0; second = 0; passes = passes; k = ended.k; length = ended.length; spans = ended.spans; padding = padding }
build_told (Err why) passes padding =
    record {
      refusal = number_of why;
      place = first_of (place_of why);
      second = second_of (place_of why);
      passes = passes;
      k = 0;
      length = 0;
      spans = 0;
      padding = replicate max_banks no_lost;
    }

abbrev pub layout_told : Output → DkLayout
layout_told o = build_told o.build o.passes o.padding

-- "It says yes .., then with each bank's pages"; "place: rule and bank or node" (document 02, Ticket 9). Refused, all pages are 0.
abbrev pub profile_by : Verdict → List ℕ → DkProfile
profile_by Accepted pages = record { refusal = 0; place = 0; second = 0; pages = pages }
profile_by (Err why) pages =
    record { refusal = number_of why; place = first_of (place_of why); second = second_of (place_of why); pages = replicate max_banks 0 }

abbrev pub profile_told : Paged → DkProfile
profile_told p = profile_by p.verdict p.pages

-- a count, or a refusal whose place is one number
abbrev pub counted : ℕ → DkCount
counted n = record { refusal = 0; place = 0; count = n }

abbrev pub refused_count : Refusal → DkCount
refused_count why = record { refusal = number_of why; place = first_of (place_of why); count = 0 }
