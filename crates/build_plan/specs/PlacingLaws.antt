-- What it means that visits were placed one after another: where a build stops, and that no bit is offered twice.
use mathlib.Core.List.{Memᴰ}
use Rattle.std.specs.Prelude.{ℕ}
use Rattle.overlap_checker.specs.declared.Entry.{Entry}
use Rattle.overlap_checker.specs.Interval.{Covers}
use Rattle.build_visits.specs.declared.Visit.{Visit}
use Rattle.build_plan.specs.Placing.{offer_of}

-- ---- no bit is offered twice

-- a bit belongs to what a visit offers
abbrev pub OfferedBit : ℕ → Visit → Type 0
OfferedBit bit v = (e : Entry) × Memᴰ e (offer_of v) × Covers e bit
