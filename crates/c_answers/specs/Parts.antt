-- A part of an image, the image that a range comes from, where a file's bytes stand, the line at which it is at fault, and why, in numbers.
use Rattle.std.specs.Prelude.{ℕ, ◌/◌, Err, Option, None, Some, Ok, Result}
use Rattle.prelude.specs.Refusals.{number_of}
use Rattle.prelude.specs.Verdict.{Verdict, Accepted}
use Rattle.prelude.specs.declared.Refusal.{Refusal}
use Rattle.overlay.specs.declared.Source.TheVariants.{Overlay, Released}
use Rattle.overlay.specs.declared.Source.{Source}
use Rattle.record_reason.specs.declared.Why.{Why}
use Rattle.c_answers.specs.declared.DkExtent.{DkExtent}
use Rattle.c_answers.specs.declared.DkFault.{DkFault}
use Rattle.c_answers.specs.declared.DkOverlay.{DkOverlay}
use Rattle.c_answers.specs.declared.DkPart.{DkPart}
use Rattle.c_answers.specs.declared.DkReason.{DkReason}
use Rattle.record_extent.specs.declared.Extent.{Extent}

-- "For a block on byte edges the caller gets back that part of its own image": here as its start and its length in bytes.
abbrev pub part_by : ℕ → ℕ → Verdict → DkPart
part_by offset size Accepted = record { refusal = 0; start = offset / 8; length = size / 8 }
part_by offset size (Err why) = record { refusal = number_of why; start = 0; length = 0 }

-- "which of the two, or why none": 1 the overlay, 2 the released image; the part as its start and its length in bytes.
abbrev pub overlay_by : ℕ → ℕ → Result Source Refusal → DkOverlay
overlay_by first count (Ok Overlay) = record { refusal = 0; image = 1; start = first; length = count }
overlay_by first count (Ok Released) = record { refusal = 0; image = 2; start = first; length = count }
overlay_by first count (Err why) = record { refusal = number_of why; image = 0; start = 0; length = 0 }

-- the lowest address that a file gives a byte to, and the first behind the highest
abbrev pub extent_told : Result Extent Refusal → DkExtent
extent_told (Ok extent) = record { refusal = 0; lowest = extent.lowest; end = extent.end }
extent_told (Err why) = record { refusal = number_of why; lowest = 0; end = 0 }

-- "the first line at which no good file can go on, from 0"
abbrev pub line_told : Option ℕ → DkFault
line_told None = record { fault = 0; line = 0 }
line_told (Some n) = record { fault = 1; line = n }

-- the line at fault, why, and the two numbers that go with it
abbrev pub reason_told : Why → DkReason
reason_told w = record { reason = w.reason; line = w.line; first = w.first; second = w.second }
