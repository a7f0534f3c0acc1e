-- `dk_record_extent` says its sentence: the answer, told in numbers. In a third format no file is good.
use mathlib.Core.Path.{refl, ap, ◌∙◌}
use native.Mathlib.Omega.{arith}
use borrow.Author.Tests.{lt-ltb, le-ltb}
use Rattle.c_answers.specs.Parts.{extent_told}
use Rattle.meets_records.specs.Theorems.Extent.{extent-meets}
use Rattle.denkumari.proofs.record_files.dk_record_extent.Goals as goal

pub returns-then-format-ge-FORMATS : goal.returns-then-format-ge-FORMATS
returns-then-format-ge-FORMATS c =
    extent-meets _ _ _ _ _
    (rw (le-ltb c.args.format 2 (omega (arith, c.if-format-ge-FORMATS.true))) (record { answer = c.tell_extent.ensures; left = refl }))

pub returns : goal.returns
returns c =
    extent-meets _ _ _ _ _
    (rw (lt-ltb c.args.format 2 (omega (arith, c.if-format-ge-FORMATS.false)))
    (record { answer = c.tell_extent-2.ensures ∙ ap extent_told c.extent_of.ensures.0; left = c.extent_of.ensures.1 }))
