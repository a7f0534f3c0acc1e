use Rattle.std.proofs.Common.{◌+◌, ◌-◌, ◌<◌, ◌≤◌, take, drop, arith}
use Rattle.record_write.proofs.BlockTurns.{next-room, going_on, going_done, here-fits, here-last}
use Rattle.record_write.proofs.BlockTurns.{some_left, few_bytes}
use Rattle.record_write.proofs.LineLaws.{part_room, text-few}
use Rattle.record_write.proofs.write_block.Goals as goal

pub put_piece-m-requires : goal.put_piece-m-requires
put_piece-m-requires c =
    let n = c.piece_length-n in
    let a = c.args in (
      few_bytes c.loop-k.k n.result (drop c.loop-k.k a.image.now) n.ensures.upper_bound.0,
      part_room c.loop-k.text c.loop-k.at _
          (next-room a.format a.image.now a.start a.end a.address a.place.at a.place.state a.text.now c.loop-k.invariant
          c.loop-k-test.true c.requires.start_le_end.1 n.result n.ensures.value n.ensures.upper_bound.1),
    )

pub overflow_add-at : goal.overflow_add-at
overflow_add-at c =
    -- the lines of a piece are short
    let few : c.put_piece-m.result ≤ 1044 =
    let a = c.args in
    let n = c.piece_length-n in
    let k = c.loop-k.k in
    omega (
      arith,
      c.put_piece-m.ensures.long,
      text-few a.format c.loop-k.state c.loop-k.here (take (k + n.result - k) (drop k a.image.now))
          (few_bytes k n.result (drop k a.image.now) n.ensures.upper_bound.0),
    ) in
    -- an address that is met has 32 bits, and a piece some bytes
    let low : c.loop-k.here < 4294967296 =
    let l = c.loop-k in
    here-fits c.args.address c.args.start c.args.end l.here l.k l.invariant.low l.invariant.place c.loop-k-test.true c.requires.start_le_end.2 in
    omega (arith, low, c.loop-k.invariant.few, few)

pub loop-k-preserved : goal.loop-k-preserved
loop-k-preserved c =
    -- the lines of a piece are short
    let few : c.put_piece-m.result ≤ 1044 =
    let a = c.args in
    let n = c.piece_length-n in
    let k = c.loop-k.k in
    omega (
      arith,
      c.put_piece-m.ensures.long,
      text-few a.format c.loop-k.state c.loop-k.here (take (k + n.result - k) (drop k a.image.now))
          (few_bytes k n.result (drop k a.image.now) n.ensures.upper_bound.0),
    ) in
    let some : 0 < c.piece_length-n.result =
    c.piece_length-n.ensures.upper_bound.2 (some_left c.args.end c.loop-k.k 0 c.loop-k-test.true) in
    let n = c.piece_length-n in
    let a = c.args in
    going_on a.format a.image.now a.start a.end a.address a.place.at a.place.state a.text.now c.loop-k.invariant
    c.loop-k-test.true c.requires.start_le_end.1 n.result n.ensures.value n.ensures.upper_bound.0 n.ensures.upper_bound.1 (some)
    c.put_piece-m.ensures (few)

pub returns-clause-block_written : goal.returns-clause-block_written
returns-clause-block_written c =
    let l = c.loop-k in
    let a = c.args in
    let last = here-last a.address a.start a.end l.here l.k l.invariant.low l.invariant.place l.invariant.high c.loop-k-test.false
    c.requires.start_le_end.0 in going_done a.format a.image.now a.start a.end a.address a.place.at a.place.state a.text.now l.invariant c.loop-k-test.false
