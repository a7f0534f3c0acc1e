-- Intel HEX and S-records, written and read, as a caller in another language is told of them.
use Rattle.std.specs.Prelude.{◌≡◌, List, ℕ, ltb, Result}
use Rattle.prelude.specs.Pick.{pick}
use Rattle.prelude.specs.declared.Refusal.{Refusal}
use Rattle.record_scan.specs.Reading.{Read, faulty, read_text}
use Rattle.record_scan.specs.Outcome.{fault_of}
use Rattle.record_extent.specs.Extent.{extent_of}
use Rattle.record_read.specs.Outcome.{Lent, answer_of, lent_after}
use Rattle.c_answers.specs.Counts.{blocks_count, written_count}
use Rattle.c_answers.specs.Parts.{extent_told, line_told}
use Rattle.c_answers.specs.declared.DkCount.{DkCount}
use Rattle.c_answers.specs.declared.DkExtent.{DkExtent}
use Rattle.c_answers.specs.declared.DkFault.{DkFault}

-- What `dk_write_hex` and `dk_write_srec` promise: a writer's answer, told in numbers, and every character of the lent text.
pub record WriteTold (answer : Result ℕ Refusal) (after : List ℕ) (r : DkCount) (new : List ℕ) : Type 0 where
  pub told : r ≡ written_count answer
  pub text : new ≡ after

-- What a file says to a caller: format 0 is Intel HEX, 1 is S-records, and in a format that is neither no file is good, from its first line on.
abbrev pub read_as : ℕ → ℕ → List ℕ → Read
read_as format load text = pick (ltb format 2) (read_text format load text) (faulty 0)

-- What `dk_read_records` promises: the reader's answer, told in numbers, and everything lent.
pub record ReadTold (load : ℕ) (read : Read) (old : Lent) (r : DkCount) (new : Lent) : Type 0 where
  pub answer : r ≡ blocks_count (answer_of load old read)
  pub left : new ≡ lent_after load old read

-- What `dk_record_fault` promises: "the first line at which no good file can go on, from 0", and the lent scratch as it was.
pub record FaultTold (read : Read) (old : List ℕ) (r : DkFault) (new : List ℕ) : Type 0 where
  pub answer : r ≡ line_told (fault_of read)
  pub left : new ≡ old

-- What `dk_record_extent` promises: where a file's bytes stand, and the lent scratch as it was.
pub record ExtentTold (read : Read) (old : List ℕ) (r : DkExtent) (new : List ℕ) : Type 0 where
  pub answer : r ≡ extent_told (extent_of read)
  pub left : new ≡ old
