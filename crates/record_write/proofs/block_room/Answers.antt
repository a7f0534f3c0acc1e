use Rattle.std.proofs.Common.{◌<◌}
use Rattle.record_write.proofs.BlockTurns.{some_left}
use Rattle.record_write.proofs.TextRoom.{adding-on, adding-done}
use Rattle.record_write.proofs.block_room.Goals as goal

pub loop-k-preserved : goal.loop-k-preserved
loop-k-preserved c =
    let some : 0 < c.piece_length-n.result =
    c.piece_length-n.ensures.upper_bound.2 (some_left c.args.count c.loop-k.k 0 c.loop-k-test.true) in
    let a = c.args in
    let n = c.piece_length-n in
    adding-on a.format a.address a.count a.place.at a.place.state c.loop-k.invariant c.loop-k-test.true n.result
    c.piece_room-at.result n.ensures.value n.ensures.upper_bound.1 (some) c.piece_room-at.ensures.piece_room c.piece_room-at.ensures.upper_bound

pub returns-clause-block_room : goal.returns-clause-block_room
returns-clause-block_room c =
    let a = c.args in
    let i = c.loop-k.invariant in adding-done a.format a.address a.count a.place.at a.place.state i c.loop-k-test.false
