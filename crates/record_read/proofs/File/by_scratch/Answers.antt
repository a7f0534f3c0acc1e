-- `record_read::File::by_scratch`: what was tested.
use mathlib.Core.Path.{sym, ◌∙◌}
use native.Mathlib.Omega.{arith}
use Rattle.record_scan.specs.Laws.Windows.{zero-cleared}
use Rattle.record_read.proofs.File.by_scratch.Goals as goal

pub returns-then-scratch-le-SCRATCH : goal.returns-then-scratch-le-SCRATCH
returns-then-scratch-le-SCRATCH c e =
    let m = c.args.scratch.now in
    record {
      some = grind arith;
      few = omega arith;
      zeros = zero-cleared m (sym c.all_zero.ensures ∙ e);
    }
