-- `dk_record_fault` says its sentence: the answer, told in numbers. In a third format no file is good.
use mathlib.Core.Path.{refl, ap, ◌∙◌}
use native.Mathlib.Omega.{arith}
use borrow.Author.Tests.{lt-ltb, le-ltb}
use Rattle.c_answers.specs.Parts.{line_told}
use Rattle.meets_records.specs.Theorems.FaultMeets.{fault-meets}
use Rattle.denkumari.proofs.record_files.dk_record_fault.Goals as goal

pub returns-then-format-ge-FORMATS : goal.returns-then-format-ge-FORMATS
returns-then-format-ge-FORMATS c =
    fault-meets _ _ _ _ _ _
    (rw (le-ltb c.args.format 2 (omega (arith, c.if-format-ge-FORMATS.true))) (record { answer = c.tell_fault.ensures; left = refl }))

pub returns : goal.returns
returns c =
    fault-meets _ _ _ _ _ _
    (rw (lt-ltb c.args.format 2 (omega (arith, c.if-format-ge-FORMATS.false)))
    (record { answer = c.tell_fault-2.ensures ∙ ap line_told c.line_at_fault.ensures.0; left = c.line_at_fault.ensures.1 }))
