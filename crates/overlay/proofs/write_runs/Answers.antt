-- `write_runs` meets its contract: the first walk counts the runs, and the second is made only where there is room for all.
use Rattle.std.specs.Prelude.{Ok, Err}
use mathlib.Core.List.{List}
use Rattle.prelude.specs.declared.Refusal.TheVariants.{TooShort}
use Rattle.blocks.specs.declared.Block.{Block}
use Rattle.blocks.specs.Laws.Room.{enough}
use Rattle.overlay.specs.Runs.{runs_of}
use Rattle.overlay.specs.Trial.{trial}
use Rattle.overlay.proofs.write_runs.Goals as goal

pub returns : goal.returns
returns c =
    let runs : List Block =
    runs_of (trial c.args.overlay.now c.args.released.now c.args.offsets.now c.args.sizes.now) in
    enough Ok (Err (TooShort 2)) runs c.args.firsts.now c.args.counts.now c.walk-count.ensures
    c.if-firsts-count.false c.if-counts-count.false c.walk.ensures
