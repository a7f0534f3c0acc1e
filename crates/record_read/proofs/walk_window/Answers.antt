use native.Mathlib.Omega.{arith}
use Rattle.record_read.proofs.Scratch.{passing-on, passing-room}
use Rattle.record_read.proofs.walk_window.Goals as goal

pub go-walk-requires : goal.go-walk-requires
go-walk-requires c =
    passing-room c.requires.underway c.loop-j.invariant

pub loop-j-preserved : goal.loop-j-preserved
loop-j-preserved c =
    let a = c.args in
    passing-on a.scratch.now a.from a.begun a.offsets.now a.sizes.now c.loop-j.invariant c.next_bit-first.result c.next_bit-end.result
    c.next_bit-first.ensures c.next_bit-end.ensures c.go-walk.ensures.put c.go-walk.ensures.run (omega (
      arith,
      c.requires.from_bound,
      c.next_bit-end.ensures.within,
    ))
