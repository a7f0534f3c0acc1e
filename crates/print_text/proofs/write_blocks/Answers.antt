use Prim.Native.Nat.{◌+◌}
use mathlib.Core.Path.{refl, ap}
use mathlib.Core.List.{[], ◌∷◌}
use native.Mathlib.Omega.{arith}
use lib.ListN.{length}
use Rattle.std.proofs.lemmas.List.{length_push}
use Rattle.print_text.specs.Laws.Sets.{writes_then, writes-room}
use Rattle.print_text.proofs.Blocks.{blocks-end, blocks-turn, blocks-upto}
use Rattle.print_text.specs.Lines.{line, block_word, blocks_text}
use Rattle.print_text.proofs.write_blocks.Goals as goal

pub loop-offset-init : goal.loop-offset-init
unfolding blocks_text
loop-offset-init c = record { place = omega arith; buffer = refl }

pub write_block-end-requires : goal.write_block-end-requires
write_block-end-requires c =
    let a = c.args in
    let os = a.offsets.now in
    let ss = a.sizes.now in
    let l = c.loop-offset in
    let x = c.in-Some.field-0-0 in
    let y = c.in-Some.field-0-1 in
    let t = blocks-turn a.count os ss c.into_iter-offset-iterator.result l.offset-iterator c.next.new.self l.yielded (cc) (cc) (cc) l.yielded_by c.next.result
    c.next.ensures.steps x y c.in-Some.is in
    let upto = blocks-upto os ss (length l.yielded + 1) a.count (omega arith) in
    writes-room (blocks_text (length l.yielded) os ss) (line block_word (x.now ∷ y.now ∷ [])) (omega (arith, ap length t.1)) l.invariant

pub loop-offset-preserved : goal.loop-offset-preserved
loop-offset-preserved c =
    let a = c.args in
    let os = a.offsets.now in
    let ss = a.sizes.now in
    let l = c.loop-offset in
    let x = c.in-Some.field-0-0 in
    let y = c.in-Some.field-0-1 in
    let t = blocks-turn a.count os ss c.into_iter-offset-iterator.result l.offset-iterator c.next.new.self l.yielded (cc) (cc) (cc) l.yielded_by c.next.result
    c.next.ensures.steps x y c.in-Some.is in
    rw (length_push l.yielded (x, y), t.1) (writes_then l.invariant c.write_block-end.ensures)

pub returns : goal.returns
returns c =
    let a = c.args in
    let os = a.offsets.now in
    let ss = a.sizes.now in
    let l = c.loop-offset in
    let e = blocks-end a.count os ss c.into_iter-offset-iterator.result l.offset-iterator c.next.new.self l.yielded (cc) (cc) (cc) l.yielded_by c.next.result
    c.next.ensures.steps c.in-None.is in
    rw (← e) l.invariant
