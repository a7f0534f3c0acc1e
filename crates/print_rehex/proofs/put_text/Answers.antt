-- `put_text` meets its contract: a file that is too long is refused at once, and every other one is read and written.
use native.Mathlib.Omega.{arith}
use Rattle.print_rehex.specs.Laws.Turned.{too_long, not-long}
use Rattle.print_rehex.proofs.put_text.Goals as goal

pub returns-then-source-ge-SOURCE : goal.returns-then-source-ge-SOURCE
returns-then-source-ge-SOURCE c =
    rw (too_long c.args.kind c.args.format c.args.load c.args.bytes.now c.args.source.now (omega (arith, c.if-source-ge-SOURCE.true)))
    c.put_refusal.ensures.stands

pub returns-in-Err : goal.returns-in-Err
returns-in-Err c =
    let told = rw c.in-Err.is at
    c.turn-written.ensures in
    rw (
      not-long c.args.kind c.args.format c.args.load c.args.bytes.now c.args.source.now
          (omega (
            arith,
            c.if-source-ge-SOURCE.false,
          )),
      told.0,
      ← told.1,
    )
    c.put_fault.ensures

pub returns-in-Ok : goal.returns-in-Ok
returns-in-Ok c =
    rw (not-long c.args.kind c.args.format c.args.load c.args.bytes.now c.args.source.now
    (omega (
      arith,
      c.if-source-ge-SOURCE.false,
    )))
    (rw c.in-Ok.is at c.turn-written.ensures)
