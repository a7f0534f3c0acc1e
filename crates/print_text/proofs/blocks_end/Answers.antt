use Prim.Native.Nat.{◌+◌}
use mathlib.Core.Path.{sym, ap, ◌∙◌}
use mathlib.Core.List.{[], ◌∷◌}
use native.Mathlib.Omega.{arith}
use lib.ListN.{length, length-append}
use Rattle.std.proofs.lemmas.List.{length_push}
use Rattle.print_text.specs.Laws.Ends.{end_same, end_short, fits-of, short-of}
use Rattle.print_text.proofs.Blocks.{blocks-end, blocks-turn, blocks-upto}
use Rattle.print_text.specs.Lines.{line, block_word, blocks_text}
use Rattle.print_text.proofs.blocks_end.Goals as goal

pub loop-offset-init : goal.loop-offset-init
unfolding blocks_text
loop-offset-init c = omega arith

pub returns-in_err-next : goal.returns-in_err-next
returns-in_err-next c =
    let a = c.args in
    let os = a.offsets.now in
    let ss = a.sizes.now in
    let l = c.loop-offset in
    let x = c.in-Some.field-0-0 in
    let y = c.in-Some.field-0-1 in
    let t = blocks-turn a.count os ss c.into_iter-offset-iterator.result l.offset-iterator c.next.new.self l.yielded (cc) (cc) (cc) l.yielded_by c.next.result
    c.next.ensures.steps x y c.in-Some.is in
    let one = line block_word (x.now ∷ y.now ∷ []) in
    let more = ap length t.1 ∙ length-append (blocks_text (length l.yielded) os ss) one in
    let upto = blocks-upto os ss (length l.yielded + 1) a.count (omega arith) in
    let short = short-of a.size l.end (length one) c.block_end.ensures c.in_err-next.was in
    c.from_residual.ensures ∙ sym (end_short a.size a.at _ (omega arith))

pub loop-offset-preserved : goal.loop-offset-preserved
loop-offset-preserved c =
    let a = c.args in
    let os = a.offsets.now in
    let ss = a.sizes.now in
    let l = c.loop-offset in
    let x = c.in-Some.field-0-0 in
    let y = c.in-Some.field-0-1 in
    let t = blocks-turn a.count os ss c.into_iter-offset-iterator.result l.offset-iterator c.next.new.self l.yielded (cc) (cc) (cc) l.yielded_by c.next.result
    c.next.ensures.steps x y c.in-Some.is in
    let one = line block_word (x.now ∷ y.now ∷ []) in
    let more = ap length t.1 ∙ length-append (blocks_text (length l.yielded) os ss) one in
    let fits = fits-of a.size l.end (length one) c.block_end.ensures c.in_ok-next.was in
    rw (length_push l.yielded (x, y)) (omega arith)

pub returns : goal.returns
returns c =
    let a = c.args in
    let os = a.offsets.now in
    let ss = a.sizes.now in
    let l = c.loop-offset in
    let e = blocks-end a.count os ss c.into_iter-offset-iterator.result l.offset-iterator c.next.new.self l.yielded (cc) (cc) (cc) l.yielded_by c.next.result
    c.next.ensures.steps c.in-None.is in
    let all = ap length e in
    c.end_of.ensures ∙ end_same a.size l.end 0 a.at _ (omega arith)
