-- `dk_write_hex` says its sentence: the answer, told in numbers. An image holds bytes.
use mathlib.Core.Path.{ap, ◌∙◌}
use Rattle.c_answers.specs.Counts.{written_count}
use Rattle.meets_records.specs.Theorems.WriteMeets.{write-hex-meets}
use Rattle.denkumari.proofs.record_files.dk_write_hex.Goals as goal

pub returns : goal.returns
returns c =
    write-hex-meets _ _ (λ i. (c.shared_slice_known-1.given i).fits) _ _
    (record { told = c.tell_written.ensures ∙ ap written_count c.write_ihex.ensures.writes.answer; text = c.write_ihex.ensures.writes.lent })
