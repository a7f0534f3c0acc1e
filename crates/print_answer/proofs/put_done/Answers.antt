-- `put_done` meets its contract: the blocks that are found; the call is never refused.
use Rattle.print_answer.proofs.Found.{never-refused, found-text}
use Rattle.print_answer.proofs.put_done.Goals as goal

pub returns-in-Err : goal.returns-in-Err
returns-in-Err c =
    let a = c.args in
    let p = c.requires in
    let g = c.get_blocks-found in
    absurd
    (never-refused a.offsets.now a.sizes.now a.block_offsets.now a.block_sizes.now p.max_nodes_in_bounds p.max_nodes_in_bounds_2 p.sizes_value
    g.result _ _ g.ensures c.in-Err.why c.in-Err.is)

pub returns-in-Ok : goal.returns-in-Ok
returns-in-Ok c =
    let a = c.args in
    let p = c.requires in
    let g = c.get_blocks-found in
    rw (← found-text a.offsets.now a.sizes.now a.block_offsets.now a.block_sizes.now p.max_nodes_in_bounds p.max_nodes_in_bounds_2
    p.sizes_value g.result _ _ g.ensures a.k a.bits a.image.now c.in-Ok.count c.in-Ok.is) c.put_lines.ensures
