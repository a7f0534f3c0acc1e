use borrow.Author.Tests.{le-ltb, lt-ltb, eq-eqb, ne_eqb}
use native.Mathlib.Omega.{arith}
use mathlib.Core.Path.{◌≡◌, ◌∙◌}
use Prim.Native.Nat.{◌%◌}
use Rattle.bitvec.specs.Part.{is_part}
use Rattle.bitvec.proofs.is_part.Goals as goal

pub returns-then-size-eq0 : goal.returns-then-size-eq0
unfolding is_part
returns-then-size-eq0 c =
    rw (le-ltb 0 c.args.size (omega arith))

pub returns-then-offset-ne0 : goal.returns-then-offset-ne0
unfolding is_part
returns-then-offset-ne0 c =
    let a = c.args in
    rw (lt-ltb 0 a.size (omega arith), ne_eqb (a.offset % 8) 0 c.if-offset-ne0.true)

pub returns-then-size-ne0 : goal.returns-then-size-ne0
unfolding is_part
returns-then-size-ne0 c =
    let a = c.args in
    let e : a.offset % 8 ≡ 0 = omega arith in
    rw (lt-ltb 0 a.size (omega arith), eq-eqb (a.offset % 8) 0 e, ne_eqb (a.size % 8) 0 c.if-size-ne0.true)

pub returns : goal.returns
unfolding is_part
returns c =
    let a = c.args in
    let e : a.offset % 8 ≡ 0 = omega arith in
    let f : a.size % 8 ≡ 0 = omega arith in
    c.ends_within.ensures ∙ rw (lt-ltb 0 a.size (omega arith), eq-eqb (a.offset % 8) 0 e, eq-eqb (a.size % 8) 0 f)
