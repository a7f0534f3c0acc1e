-- Refusal 14, exactly: "a lent output is too short: image 0, spans 1". "14 comes last: image, then spans." And what a refused build leaves.
use Rattle.std.specs.Prelude.{◌≡◌, ℕ, ◌*◌, ◌<◌, min, length, Ok}
use Rattle.overlap_checker.specs.State.{State}
use Rattle.build_visits.specs.Items.{length_of}
use Rattle.build_plan.specs.Placing.{holds, placed_all}
use Rattle.output.specs.Output.{settled_of, fill_of}
use Rattle.output.specs.Calls.{Call, closed_in, visits_in, items_in, spans_in}

-- The passes settled, and every node was accepted.
pub record AllPlaced (c : Call) : Type 0 where
  pub k : ℕ
  pub settled : settled_of c.given ≡ Ok k
  pub stored : State
  pub placed : placed_all (closed_in c) (visits_in c) ≡ holds stored

-- the image's length, and how many spans there are
abbrev pub length_in : Call → ℕ
length_in c = length_of (fill_of c.given) (items_in c)

abbrev pub span_count : Call → ℕ
span_count c = length (spans_in c)

-- the lent image is too short for the image, and one of the three lists for the spans
abbrev pub ImageShort : Call → Type 0
ImageShort c = 8 * length c.old.image < length_in c

abbrev pub SpansShort : Call → Type 0
SpansShort c = min (length c.old.addresses) (min (length c.old.offsets) (length c.old.sizes)) < span_count c
