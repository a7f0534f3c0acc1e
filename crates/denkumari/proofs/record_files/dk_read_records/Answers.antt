-- `dk_read_records` says its sentence: the answer, told in numbers. In a third format no file is good.
use mathlib.Core.Path.{refl, ap, ◌∙◌}
use native.Mathlib.Omega.{arith}
use borrow.Author.Tests.{lt-ltb, le-ltb}
use Rattle.c_answers.specs.Counts.{blocks_count}
use Rattle.meets_records.specs.Theorems.ReadMeets.{read_meets}
use Rattle.denkumari.proofs.record_files.dk_read_records.Goals as goal

pub returns-then-format-ge-FORMATS : goal.returns-then-format-ge-FORMATS
returns-then-format-ge-FORMATS c =
    read_meets _ _ _ _ _ _
    (rw (le-ltb c.args.format 2 (omega (arith, c.if-format-ge-FORMATS.true))) (record { answer = c.tell_blocks.ensures; left = refl }))

pub returns : goal.returns
returns c =
    read_meets _ _ _ _ _ _
    (rw (lt-ltb c.args.format 2 (omega (arith, c.if-format-ge-FORMATS.false)))
    (record { answer = c.tell_blocks-2.ensures ∙ ap blocks_count c.read.ensures.answer; left = c.read.ensures.after }))
