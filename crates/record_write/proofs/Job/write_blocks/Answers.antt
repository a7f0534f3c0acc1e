use Rattle.std.proofs.Common.{◌+◌, ◌-◌, ◌/◌, ◌≤◌, length, get_or, arith}
use Rattle.std.proofs.lemmas.List.{length_push}
use Rattle.std.proofs.lemmas.Slice.Zip.{zip_turn, zip_end}
use Rattle.record_write.proofs.AllBlocks.{now-fits, now-few, now-room, all-on, end-room, all_done}
use Rattle.record_write.specs.Text.{end_by}
use Rattle.record_write.proofs.Job.write_blocks.Goals as goal

pub write_block-place-requires-clause-start_le_end : goal.write_block-place-requires-clause-start_le_end
write_block-place-requires-clause-start_le_end c =
    let a = c.args.self.now in
    let x = c.in-Some.field-0-0 in
    let y = c.in-Some.field-0-1 in
    let l = c.loop-offset in
    let t = zip_turn a.offsets.now a.sizes.now l.yielded c.into_iter-offset-iterator.result l.offset-iterator c.next.new.self c.next.result (cc) (cc) l.yielded_by
    (x, y) c.in-Some.is c.next.ensures.steps in
    let i = length l.yielded in
    let f = now-fits a.image.now a.offsets.now a.sizes.now a.load c.requires.ready l.invariant.stands t.0 in
    let g = now-few a.image.now a.offsets.now a.sizes.now a.load c.requires.ready l.invariant.stands t.0 in
    (omega arith, omega (arith, f.inside, t.2 0, t.3 0), omega (arith, f.below, t.2 0, t.3 0), omega (arith, g, t.2 0, t.3 0))

pub write_block-place-requires-clause-image_in_bounds : goal.write_block-place-requires-clause-image_in_bounds
write_block-place-requires-clause-image_in_bounds c =
    let a = c.args.self.now in
    let x = c.in-Some.field-0-0 in
    let y = c.in-Some.field-0-1 in
    let l = c.loop-offset in
    let t = zip_turn a.offsets.now a.sizes.now l.yielded c.into_iter-offset-iterator.result l.offset-iterator c.next.new.self c.next.result (cc) (cc) l.yielded_by
    (x, y) c.in-Some.is c.next.ensures.steps in
    let i = length l.yielded in
    let f = now-fits a.image.now a.offsets.now a.sizes.now a.load c.requires.ready l.invariant.stands t.0 in
    let g = now-few a.image.now a.offsets.now a.sizes.now a.load c.requires.ready l.invariant.stands t.0 in
    rw (c.from-base.ensures, t.2 0, t.3 0)
    (now-room a.format a.image.now a.offsets.now a.sizes.now a.load c.args.text.now c.requires.ready l.invariant t.0 c.requires.sizes_in_bounds
    (get_or a.offsets.now i 0 / 8 + get_or a.sizes.now i 0 / 8 - get_or a.offsets.now i 0 / 8) (omega arith))

pub loop-offset-preserved : goal.loop-offset-preserved
loop-offset-preserved c =
    let a = c.args.self.now in
    let w = c.write_block-place in
    let x = c.in-Some.field-0-0 in
    let y = c.in-Some.field-0-1 in
    let l = c.loop-offset in
    let t = zip_turn a.offsets.now a.sizes.now l.yielded c.into_iter-offset-iterator.result l.offset-iterator c.next.new.self c.next.result (cc) (cc) l.yielded_by
    (x, y) c.in-Some.is c.next.ensures.steps in
    let i = length l.yielded in
    let f = now-fits a.image.now a.offsets.now a.sizes.now a.load c.requires.ready l.invariant.stands t.0 in
    let g = now-few a.image.now a.offsets.now a.sizes.now a.load c.requires.ready l.invariant.stands t.0 in
    let n = get_or a.offsets.now i 0 / 8 + get_or a.sizes.now i 0 / 8 - get_or a.offsets.now i 0 / 8 in
    let written = rw (c.from-base.ensures, t.2 0, t.3 0) at w.ensures.block_written in
    let bound = rw (c.from-base.ensures, t.2 0, t.3 0) at w.ensures.at_bound in
    rw (length_push l.yielded (x, y))
    (all-on a.format a.image.now a.offsets.now a.sizes.now a.load c.args.text.now c.requires.ready l.invariant
    t.0 n w.result _ (omega arith) written bound)

pub returns : goal.returns
returns c =
    let a = c.args.self.now in
    let l = c.loop-offset in
    let t = zip_end a.offsets.now a.sizes.now l.yielded c.into_iter-offset-iterator.result l.offset-iterator c.next.new.self c.next.result (cc) (cc) l.yielded_by
    c.in-None.is c.next.ensures.steps in
    let last : length a.offsets.now ≤ length l.yielded = omega (arith, c.requires.ready.paired) in
    -- behind the loop there is room for the end record
    let r : l.place.at + length (end_by a.format) ≤ length l.text =
    end-room a.format a.image.now a.offsets.now a.sizes.now a.load c.args.text.now c.requires.ready l.invariant last
    c.requires.sizes_in_bounds in
    all_done a.format a.image.now a.offsets.now a.sizes.now a.load c.args.text.now c.requires.ready l.invariant last
    (omega arith) c.put_end-m.ensures

pub overflow_add-end : goal.overflow_add-end
overflow_add-end c =
    let a = c.args.self.now in
    let x = c.in-Some.field-0-0 in
    let y = c.in-Some.field-0-1 in
    let l = c.loop-offset in
    let t = zip_turn a.offsets.now a.sizes.now l.yielded c.into_iter-offset-iterator.result l.offset-iterator c.next.new.self c.next.result (cc) (cc) l.yielded_by
    (x, y) c.in-Some.is c.next.ensures.steps in
    let fits = (now-fits a.image.now a.offsets.now a.sizes.now a.load c.requires.ready l.invariant.stands t.0).below in
    omega (arith, t.2 0, t.3 0)

pub overflow_add-base : goal.overflow_add-base
overflow_add-base c =
    let a = c.args.self.now in
    let x = c.in-Some.field-0-0 in
    let y = c.in-Some.field-0-1 in
    let l = c.loop-offset in
    let t = zip_turn a.offsets.now a.sizes.now l.yielded c.into_iter-offset-iterator.result l.offset-iterator c.next.new.self c.next.result (cc) (cc) l.yielded_by
    (x, y) c.in-Some.is c.next.ensures.steps in
    let fits = (now-fits a.image.now a.offsets.now a.sizes.now a.load c.requires.ready l.invariant.stands t.0).below in
    omega (arith, t.2 0, t.3 0)
