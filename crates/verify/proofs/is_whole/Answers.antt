-- `is_whole` meets its contract: each test of the definition in turn, the end in bytes.
use Prim.Native.Nat.{◌%◌}
use borrow.Author.Tests.{eq-eqb, ne_eqb}
use Rattle.verify.specs.Whole.{whole}
use Rattle.verify.proofs.Cursors.{leb-eighth}
use Rattle.verify.proofs.is_whole.Goals as goal

pub returns-then-offset-ne0 : goal.returns-then-offset-ne0
unfolding whole
returns-then-offset-ne0 c =
    rw (ne_eqb (c.args.offset % 8) 0 c.if-offset-ne0.true)

pub returns-then-size-ne0 : goal.returns-then-size-ne0
unfolding whole
returns-then-size-ne0 c =
    let a = c.args in
    rw (eq-eqb (a.offset % 8) 0 c.if-offset-ne0.false, ne_eqb (a.size % 8) 0 c.if-size-ne0.true)

pub returns : goal.returns
unfolding whole
returns c =
    let a = c.args in
    rw (eq-eqb (a.offset % 8) 0 c.if-offset-ne0.false, eq-eqb (a.size % 8) 0 c.if-size-ne0.false)
    (leb-eighth a.offset a.size a.bytes c.if-offset-ne0.false c.if-size-ne0.false)
