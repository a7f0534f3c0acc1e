use Rattle.std.proofs.Common.{length, arith}
use Rattle.std.proofs.lemmas.List.{length_push}
use Rattle.std.proofs.lemmas.Slice.Zip.{zip_turn, zip_end}
use Rattle.record_write.proofs.AllBlocks.{now-fits, now-few, last-few}
use Rattle.record_write.proofs.TextRoom.{adds_on, adds-done}
use Rattle.record_write.proofs.Job.text_room.Goals as goal

pub block_room-place-requires : goal.block_room-place-requires
block_room-place-requires c =
    let a = c.args.self.now in
    let x = c.in-Some.field-0-0 in
    let y = c.in-Some.field-0-1 in
    let l = c.loop-offset in
    let t = zip_turn a.offsets.now a.sizes.now l.yielded c.into_iter-offset-iterator.result l.offset-iterator c.next.new.self c.next.result (cc) (cc) l.yielded_by
    (x, y) c.in-Some.is c.next.ensures.steps in
    let i = length l.yielded in
    let fits = (now-fits a.image.now a.offsets.now a.sizes.now a.load c.requires l.invariant.stands t.0).below in
    let few = now-few a.image.now a.offsets.now a.sizes.now a.load c.requires l.invariant.stands t.0 in
    (omega (arith, t.2 0, t.3 0), omega (arith, t.2 0, t.3 0))

pub loop-offset-preserved : goal.loop-offset-preserved
loop-offset-preserved c =
    let a = c.args.self.now in
    let x = c.in-Some.field-0-0 in
    let y = c.in-Some.field-0-1 in
    let l = c.loop-offset in
    let t = zip_turn a.offsets.now a.sizes.now l.yielded c.into_iter-offset-iterator.result l.offset-iterator c.next.new.self c.next.result (cc) (cc) l.yielded_by
    (x, y) c.in-Some.is c.next.ensures.steps in
    let i = length l.yielded in
    let room = rw (c.from-base.ensures, t.2 0, t.3 0) at c.block_room-place.ensures.block_room in
    let bound = rw (c.from-base.ensures, t.2 0, t.3 0) at c.block_room-place.ensures.at_bound in
    rw (length_push l.yielded (x, y))
    (adds_on a.format a.image.now a.offsets.now a.sizes.now a.load c.requires l.invariant t.0 c.block_room-place.result room bound)

pub overflow_add-result : goal.overflow_add-result
overflow_add-result c =
    let a = c.args.self.now in
    let l = c.loop-offset in
    let t = zip_end a.offsets.now a.sizes.now l.yielded c.into_iter-offset-iterator.result l.offset-iterator c.next.new.self c.next.result (cc) (cc) l.yielded_by
    c.in-None.is c.next.ensures.steps in
    omega (
      arith,
      last-few a.image.now a.offsets.now a.sizes.now a.load c.requires l.invariant.stands (omega (arith, c.requires.paired)),
      c.end_room.ensures.1,
    )

pub returns : goal.returns
returns c =
    let a = c.args.self.now in
    let l = c.loop-offset in
    let t = zip_end a.offsets.now a.sizes.now l.yielded c.into_iter-offset-iterator.result l.offset-iterator c.next.new.self c.next.result (cc) (cc) l.yielded_by
    c.in-None.is c.next.ensures.steps in
    adds-done a.format a.image.now a.offsets.now a.sizes.now a.load c.requires l.invariant (omega (arith, c.requires.paired))
    c.end_room.result c.end_room.ensures.0

pub overflow_add-base : goal.overflow_add-base
overflow_add-base c =
    let a = c.args.self.now in
    let x = c.in-Some.field-0-0 in
    let y = c.in-Some.field-0-1 in
    let l = c.loop-offset in
    let t = zip_turn a.offsets.now a.sizes.now l.yielded c.into_iter-offset-iterator.result l.offset-iterator c.next.new.self c.next.result (cc) (cc) l.yielded_by
    (x, y) c.in-Some.is c.next.ensures.steps in
    let fits = (now-fits a.image.now a.offsets.now a.sizes.now a.load c.requires l.invariant.stands t.0).below in
    omega (arith, t.2 0, t.3 0)
