-- `write_blocks` meets its contract: the first walk counts the blocks, and the second is made only where there is room for all.
use Rattle.std.specs.Prelude.{Ok, Err}
use Rattle.prelude.specs.declared.Refusal.TheVariants.{TooShort}
use Rattle.blocks.specs.Numbered.{numbered_blocks}
use Rattle.blocks.specs.Laws.Room.{enough}
use Rattle.blocks.proofs.write_blocks.Goals as goal

pub returns : goal.returns
returns c =
    let a = c.args in
    let b = numbered_blocks a.offsets.now a.sizes.now a.numbers.now in
    enough Ok (Err (TooShort 2)) b a.block_offsets.now a.block_sizes.now c.walk-count.ensures c.if-block_offsets-count.false
    c.if-block_sizes-count.false c.walk.ensures
