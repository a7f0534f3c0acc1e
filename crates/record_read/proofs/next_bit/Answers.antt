use mathlib.Core.Path.{sym, ◌∙◌}
use Rattle.record_read.proofs.Scratch.{bit_is, seeking-found, seeking-on}
use Rattle.record_read.proofs.next_bit.Goals as goal

pub returns-then-bit_in-want : goal.returns-then-bit_in-want
returns-then-bit_in-want c =
    let a = c.args in
    seeking-found a.scratch.now a.want a.from c.loop-j.invariant c.loop-j-test.true
    (sym (bit_is a.scratch.now c.loop-j.j c.bit_in.ensures) ∙ c.if-bit_in-want.true)

pub loop-j-preserved : goal.loop-j-preserved
loop-j-preserved c =
    let a = c.args in
    seeking-on a.scratch.now a.want a.from c.loop-j.invariant c.loop-j-test.true c.requires.2
    (λ e. c.if-bit_in-want.false (bit_is a.scratch.now c.loop-j.j c.bit_in.ensures ∙ e)) c.past-j.ensures
