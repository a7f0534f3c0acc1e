-- `put_blocks` meets its contract: the blocks that are found; the call is never refused.
use lib.ListN.{take}
use mathlib.Core.Path.{◌≡◌}
use Rattle.blocks.specs.Spans.{spans_of}
use Rattle.blocks.specs.Walk.{blocks_of}
use Rattle.record_write.specs.Cut.{blocks_in}
use Rattle.print_records.proofs.Found.{never-refused, blocks-found}
use Rattle.print_records.proofs.put_blocks.Goals as goal

pub returns-in-Err : goal.returns-in-Err
returns-in-Err c =
    let a = c.args in
    let p = c.requires in
    let g = c.get_blocks-found in
    absurd
    (never-refused a.offsets.now a.sizes.now a.block_offsets.now a.block_sizes.now p.block_offsets_len p.block_sizes_len p.sizes_value
    g.result g.new.block_offsets g.new.block_sizes g.ensures c.in-Err.why c.in-Err.is)

pub returns-in-Ok : goal.returns-in-Ok
returns-in-Ok c =
    let a = c.args in
    let p = c.requires in
    let g = c.get_blocks-found in
    let told : blocks_in (take c.in-Ok.count g.new.block_offsets) (take c.in-Ok.count g.new.block_sizes)
    ≡ blocks_of (spans_of a.offsets.now a.sizes.now) =
    blocks-found a.offsets.now a.sizes.now a.block_offsets.now a.block_sizes.now p.block_offsets_len p.block_sizes_len p.sizes_value
    g.result g.new.block_offsets g.new.block_sizes g.ensures c.in-Ok.count c.in-Ok.is in
    rw (← told) c.put_records.ensures
