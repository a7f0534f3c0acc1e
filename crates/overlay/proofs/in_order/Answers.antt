use Rattle.std.proofs.Common.{◌+◌, ◌<◌, ◌≤◌, length, drop, sym, ap, ap₂, ◌∙◌, arith, rules, tests}
use Rattle.std.proofs.lemmas.List.{length_push}
use Rattle.std.proofs.lemmas.Slice.Zip.{zip_turn, zip_end}
use Rattle.overlay.specs.Order.{in_order}
use Rattle.overlay.proofs.BlockLaws.{order-next, order-empty, order-low, order-ends, order-unpaired}
use Rattle.overlay.proofs.in_order.Goals as goal

pub returns-then-offsets-sizes : goal.returns-then-offsets-sizes
returns-then-offsets-sizes c =
    order-unpaired 0 c.args.offsets.now c.args.sizes.now c.if-offsets-sizes.true

pub returns-then-bits-eq0 : goal.returns-then-bits-eq0
returns-then-bits-eq0 c =
    let l = c.loop-next in
    let t = zip_turn c.args.offsets.now c.args.sizes.now l.yielded _ _ c.next.new.self _ (cc) (cc) l.yielded_by _ c.in-Some.is c.next.ensures.steps in
    sym
    (order-empty (l.offset + l.size) c.args.offsets.now c.args.sizes.now (length l.yielded) t.0 l.invariant.0
    (sym (t.3 0) ∙ c.if-bits-eq0.true))
    ∙ l.invariant.1

pub returns-then-not-ends_by : goal.returns-then-not-ends_by
returns-then-not-ends_by c =
    let l = c.loop-next in
    let t = zip_turn c.args.offsets.now c.args.sizes.now l.yielded _ _ c.next.new.self _ (cc) (cc) l.yielded_by _ c.in-Some.is c.next.ensures.steps in
    let low : c.in-Some.next.now < l.offset + l.size = search (rules, tests) in
    sym
    (order-low (l.offset + l.size) c.args.offsets.now c.args.sizes.now (length l.yielded) t.0 l.invariant.0
    (omega (arith, low, t.2 0)))
    ∙ l.invariant.1

pub loop-next-preserved : goal.loop-next-preserved
loop-next-preserved c =
    let l = c.loop-next in
    let os = c.args.offsets.now in
    let ss = c.args.sizes.now in
    let n = length l.yielded in
    let t = zip_turn os ss l.yielded _ _ c.next.new.self _ (cc) (cc) l.yielded_by _ c.in-Some.is c.next.ensures.steps in
    let above : l.offset + l.size ≤ c.in-Some.next.now = search (rules, tests) in (
      l.invariant.0,
      ap (λ m. in_order (c.in-Some.next.now + c.in-Some.bits.now) (drop m os) (drop m ss)) (length_push l.yielded _)
          ∙ ap₂ (λ x y. in_order (x + y) (drop (n + 1) os) (drop (n + 1) ss)) (t.2 0) (t.3 0)
          ∙ sym
          (order-next (l.offset + l.size) os ss n t.0 l.invariant.0 (λ e. c.if-bits-eq0.false (t.3 0 ∙ e)) (omega (arith, above, t.2 0)))
          ∙ l.invariant.1,
    )

pub returns : goal.returns
returns c =
    let l = c.loop-next in
    let e = zip_end c.args.offsets.now c.args.sizes.now l.yielded _ _ c.next.new.self _ (cc) (cc) l.yielded_by c.in-None.is c.next.ensures.steps in
    sym
    (order-ends (l.offset + l.size) c.args.offsets.now c.args.sizes.now (length l.yielded) (omega (arith, e, l.invariant.0)) l.invariant.0)
    ∙ l.invariant.1
