-- `record_scan::scan_lines`: a walk that is sure, a strict one, or one with the first line that gives a byte twice.
use mathlib.Core.Path.{sym, subst, ◌∙◌}
use mathlib.Core.Bool.{false}
use lib.Dec.{ltb}
use lib.ListN.{length}
use borrow.Author.Rules.{rules}
use borrow.Author.Tests.{ltb-true}
use Rattle.prelude.specs.Laws.Bools.{both}
use Rattle.record_scan.specs.Steps.{ScanIs}
use Rattle.record_scan.specs.Windows.{all_zero}
use Rattle.record_scan.specs.Laws.Windows.{zero-cleared}
use Rattle.record_scan.proofs.WindowLaws.{told-twice, told-once}
use Rattle.record_scan.proofs.scan_lines.Goals as goal

pub first_twice-line-requires-clause-scratch_nonzero : goal.first_twice-line-requires-clause-scratch_nonzero
first_twice-line-requires-clause-scratch_nonzero c =
    let m = c.args.scratch.now in
    let two = both (ltb 0 (length m)) (all_zero m) (sym c.usable.ensures ∙ search rules) in
    (ltb-true 0 (length m) two.0, zero-cleared m two.1)

pub returns-then-line-w : goal.returns-then-line-w
returns-then-line-w c =
    let a = c.args in (
      told-twice a.format a.load a.text.now false c.walk-w.result c.walk-w.ensures c.first_twice-line.result
          c.first_twice-line.ensures.0 c.if-line-w.true,
      c.first_twice-line.ensures.1,
    )

pub returns : goal.returns
returns c =
    let a = c.args in (
      subst (ScanIs a.format a.load a.text.now) (sym c.scan_of-2.ensures)
          (told-once a.format a.load a.text.now false c.walk-w.result c.walk-w.ensures c.first_twice-line.result
          c.first_twice-line.ensures.0 c.if-line-w.false),
      c.first_twice-line.ensures.1,
    )
