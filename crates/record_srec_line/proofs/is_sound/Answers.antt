-- `record_srec_line::is_sound`: the definition's tests.
use Prim.Native.Nat.{ℕ, ◌+◌}
use lib.Dec.{eqb}
use Rattle.record_lines.specs.Spelling.{checked_sum}
use mathlib.Core.Path.{sym, ap, ◌∙◌}
use borrow.Author.Tests.{not-true, not-false}
use native.Mathlib.Omega.{arith}
use Rattle.record_srec_line.proofs.Laws.{sound-short, sound-letter, sound-sum}
use Rattle.record_srec_line.proofs.is_sound.Goals as goal

pub returns-then-line-lt4 : goal.returns-then-line-lt4
returns-then-line-lt4 c spells =
    sym (sound-short _ c.if-line-lt4.true)

pub returns-then-not-is_s : goal.returns-then-not-is_s
returns-then-not-is_s c spells =
    sym (sound-letter _ (omega arith) (sym c.is_s.ensures ∙ not-true _ c.if-not-is_s.true-raw))

pub returns : goal.returns
returns c spells =
    let l = c.args.line.now in
    ap (λ (n : ℕ). eqb n 255) (c.sum_checked.ensures spells ∙ ap (λ (n : ℕ). checked_sum l 2 (n + 1)) (c.from-count.ensures ∙ c.pair.ensures spells))
    ∙ sym (sound-sum _ (omega arith) (sym c.is_s.ensures ∙ not-false _ c.if-not-is_s.false-raw))
