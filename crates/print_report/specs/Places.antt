-- No number of a refusal is farther than an offer can end, so that a refusal's line is short: refusals of the file, the table, the lists, the profile,
-- the passes, the nodes and the room, in this order.
use Rattle.std.specs.Prelude.{ℕ, ◌+◌, ◌≤◌, Err, Ok, Result}
use Rattle.prelude.specs.Refusals.{place_of}
use Rattle.prelude.specs.declared.Place.{Place}
use Rattle.prelude.specs.declared.Place.TheVariants.{One, Two}
use Rattle.prelude.specs.declared.Refusal.{Refusal}
use Rattle.prelude.specs.Verdict.{Verdict, Accepted}
use Rattle.print_report.specs.Blocks.{farthest}
use Rattle.output.specs.declared.Built.{Built}

-- what the numbers of a place add up to
abbrev pub place_sum : Place → ℕ
place_sum (One p) = p
place_sum (Two p q) = p + q

abbrev pub sum_of : Refusal → ℕ
sum_of why = place_sum (place_of why)

-- 0 where nothing is refused
abbrev verdict_sum : Verdict → ℕ
verdict_sum Accepted = 0
verdict_sum (Err why) = sum_of why

pub record Near (v : Verdict) : Type 0 where
  pub near : verdict_sum v ≤ farthest

-- ---- the build

-- 0 where it is accepted
abbrev pub build_sum : Result Built Refusal → ℕ
build_sum (Ok ended) = 0
build_sum (Err why) = sum_of why
