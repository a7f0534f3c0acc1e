-- `bitvec::write_bits` tests both ends, and writes the item at the byte and the bit that its position and start give.
use mathlib.Core.Path.{sym, ◌∙◌}
use Rattle.bitvec.proofs.Pieces.{accepted, refused}
use Rattle.bitvec.proofs.write_bits.Goals as goal
use Rattle.bitvec.proofs.write_bits.Goals.{else-ends_within-via-then-ends_within+else-ends_within-2, else-ends_within-via-else-ends_within}

pub returns-then-ends_within-2 : goal.returns-then-ends_within-2
returns-then-ends_within-2 c =
    let a = c.args in
    accepted a.image.now a.position a.values.now a.start a.size c.write_item.new.image
    (sym c.ends_within.ensures ∙ c.if-ends_within.true)
    (sym c.ends_within-then-ends_within.ensures ∙ c.if-ends_within-2.true)
    (rw (c.of.ensures, c.of-then-ends_within-2.ensures) at c.write_item.ensures)

pub returns : goal.returns
returns c =
    let a = c.args in
    let first = sym c.ends_within.ensures in
    refused a.image.now a.position a.values.now a.start a.size
    (elim c.else-ends_within.branch [
      | else-ends_within-via-then-ends_within+else-ends_within-2 w ↦
          rw (first ∙ w.if-ends_within.true, sym w.ends_within-then-ends_within.ensures ∙ w.if-ends_within-2.false)
      | else-ends_within-via-else-ends_within w ↦ rw (first ∙ w.if-ends_within.false)
    ])
