use Rattle.std.proofs.Common.{refl, ◌∙◌}
use Rattle.record_lines.specs.Digits.{bytes_text}
use Rattle.record_lines.specs.Laws.Puts.{one-pair-more}
use Rattle.record_write.proofs.line.put_bytes.Goals as goal

pub loop-i-init : goal.loop-i-init
unfolding bytes_text
loop-i-init c =
    (refl, refl)

pub loop-i-preserved : goal.loop-i-preserved
loop-i-preserved c =
    let a = c.args in
    let l = c.loop-i in (
      one-pair-more a.out.now a.bytes.now a.at l.i c.loop-i-test.true l.invariant.0 c.put_byte.ensures.out_after,
      c.put_byte.ensures.out_len_unchanged ∙ l.invariant.1,
    )
