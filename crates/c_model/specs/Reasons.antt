-- Why a file of records is bad, as a caller in another language is told of it.
use Rattle.std.specs.Prelude.{◌≡◌, List, ℕ, eqb}
use Rattle.prelude.specs.Pick.{pick}
use Rattle.record_scan.specs.Reading.{read_text}
use Rattle.record_reason.specs.Reasons.{why_of}
use Rattle.c_answers.specs.Parts.{reason_told}
use Rattle.c_answers.specs.declared.DkReason.{DkReason}

-- How a format's number is read where nothing is refused: 0 is Intel HEX, every other number S-records.
abbrev pub kind_of : ℕ → ℕ
kind_of format = pick (eqb format 0) 0 1

-- What `dk_record_reason` promises: the line that `dk_record_fault` tells, the first reason that there is, and its two numbers; and the lent scratch as it
-- was.
pub record ReasonTold (format load : ℕ) (text old : List ℕ) (r : DkReason) (new : List ℕ) : Type 0 where
  pub answer : r ≡ reason_told (why_of (kind_of format) load text (read_text (kind_of format) load text))
  pub left : new ≡ old
