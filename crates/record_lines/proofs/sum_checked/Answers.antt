use Rattle.std.proofs.Common.{◌≡◌, ℕ, ◌+◌, ◌*◌, ◌≤◌, drop, refl, ap, ◌∙◌, arith}
use Rattle.bitvec.specs.Lists.{list_of}
use Rattle.record_lines.specs.Digits.{value_of, all_digits}
use Rattle.record_lines.specs.Sums.{sum_of}
use Rattle.record_lines.proofs.SpellLaws.{sum-bad, digits-one, pair-more, sum-good, pair-first, pair-second, pair-inside, pairs-all}
use Rattle.record_lines.proofs.sum_checked.Goals as goal

pub loop-pair-init : goal.loop-pair-init
unfolding sum_of list_of
loop-pair-init c spells =
    let a = c.args in
    let e : a.from ≡ a.from + 0 = omega arith in
    (refl, ap (λ (k : ℕ). all_digits (drop k a.line.now)) e)

pub returns-then-high-gt15 : goal.returns-then-high-gt15
returns-then-high-gt15 c spells =
    let a = c.args in
    let j = c.loop-pair.pair-index in
    let inv = c.loop-pair.invariant spells in
    let high = c.value_by-high.ensures spells ∙ ap value_of (pair-first a.line.now c.from-first.result a.from a.n j c.as_chunks.result.0.now c.as_chunks.ensures.front
    (omega arith) (omega arith) c.loop-pair-test.true) in
    let low = c.value_by-low.ensures spells ∙ ap value_of (pair-second a.line.now c.from-first.result a.from a.n j c.as_chunks.result.0.now c.as_chunks.ensures.front
    (omega arith) (omega arith) c.loop-pair-test.true) in
    let inside = pair-inside a.line.now c.from-first.result a.from a.n j c.as_chunks.result.0.now c.as_chunks.ensures.front (omega arith) (omega arith) c.loop-pair-test.true in
    sum-bad a.line.now a.from a.n (a.from + 2 * j) (omega arith) inv.1 (omega arith) (omega (arith, c.if-high-gt15.true, high))

pub returns-then-low-gt15 : goal.returns-then-low-gt15
returns-then-low-gt15 c spells =
    let a = c.args in
    let j = c.loop-pair.pair-index in
    let inv = c.loop-pair.invariant spells in
    let high = c.value_by-high.ensures spells ∙ ap value_of (pair-first a.line.now c.from-first.result a.from a.n j c.as_chunks.result.0.now c.as_chunks.ensures.front
    (omega arith) (omega arith) c.loop-pair-test.true) in
    let low = c.value_by-low.ensures spells ∙ ap value_of (pair-second a.line.now c.from-first.result a.from a.n j c.as_chunks.result.0.now c.as_chunks.ensures.front
    (omega arith) (omega arith) c.loop-pair-test.true) in
    let inside = pair-inside a.line.now c.from-first.result a.from a.n j c.as_chunks.result.0.now c.as_chunks.ensures.front (omega arith) (omega arith) c.loop-pair-test.true in
    sum-bad a.line.now a.from a.n (a.from + 2 * j + 1) (omega arith)
    (digits-one a.line.now a.from (a.from + 2 * j) (omega arith) (omega (arith, c.if-high-gt15.false, high)) inv.1)
    (omega arith) (omega (arith, c.if-low-gt15.true, low))

pub loop-pair-preserved : goal.loop-pair-preserved
loop-pair-preserved c spells =
    let a = c.args in
    let j = c.loop-pair.pair-index in
    let inv = c.loop-pair.invariant spells in
    let high = c.value_by-high.ensures spells ∙ ap value_of (pair-first a.line.now c.from-first.result a.from a.n j c.as_chunks.result.0.now c.as_chunks.ensures.front
    (omega arith) (omega arith) c.loop-pair-test.true) in
    let low = c.value_by-low.ensures spells ∙ ap value_of (pair-second a.line.now c.from-first.result a.from a.n j c.as_chunks.result.0.now c.as_chunks.ensures.front
    (omega arith) (omega arith) c.loop-pair-test.true) in
    let inside = pair-inside a.line.now c.from-first.result a.from a.n j c.as_chunks.result.0.now c.as_chunks.ensures.front (omega arith) (omega arith) c.loop-pair-test.true in
    let at = a.from + 2 * j in
    let hb : c.value_by-high.result ≤ 15 = omega (arith, c.if-high-gt15.false) in
    let wb : c.value_by-low.result ≤ 15 = omega (arith, c.if-low-gt15.false) in
    let e : at + 1 + 1 ≡ a.from + 2 * (j + 1) = omega arith in
    let one = digits-one a.line.now a.from at (omega arith) (omega (arith, hb, high)) inv.1 in
    let two = digits-one a.line.now a.from (at + 1) (omega arith) (omega (arith, wb, low)) one in (
      pair-more a.line.now a.from j c.loop-pair.sum c.value_by-high.result c.value_by-low.result _ inv.0 high low hb wb refl,
      two ∙ ap (λ (k : ℕ). all_digits (drop k a.line.now)) e,
    )

pub returns : goal.returns
returns c spells =
    let a = c.args in
    let inv = c.loop-pair.invariant spells in
    let all = pairs-all a.line.now c.from-first.result a.from a.n c.loop-pair.pair-index c.as_chunks.result.0.now c.as_chunks.ensures.front
    (omega arith) (omega arith) c.loop-pair-test.false c.loop-pair.auto.pair-index-end in
    c.from-2.ensures
    ∙ sum-good a.line.now a.from a.n c.loop-pair.pair-index c.loop-pair.sum (omega arith) inv.1 (omega arith) all inv.0
