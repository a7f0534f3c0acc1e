use mathlib.Core.Path.{sym, ap, ◌∙◌}
use Prim.Native.Nat.{ℕ, ◌/◌}
use native.Mathlib.Omega.{arith}
use lib.ListN.{length, drop}
use Rattle.std.proofs.lemmas.List.{length_push}
use Rattle.std.proofs.lemmas.Slice.Zip.{zip_turn, zip_end}
use Rattle.print_bench.specs.Images.{free_from, alone_in}
use Rattle.print_bench.proofs.Laws.{alone-end, alone-here, alone-on}
use Rattle.print_bench.proofs.first_alone.Goals as goal

pub returns-then-free-end_of-clause-value : goal.returns-then-free-end_of-clause-value
returns-then-free-end_of-clause-value c =
    let t = zip_turn c.args.offsets.now c.args.sizes.now c.loop-offset.yielded _ _ c.next.new.self _ (cc) (cc) c.loop-offset.yielded_by _ c.in-Some.is c.next.ensures.steps in
    let same = ap (λ (o : ℕ). free_from c.args.released_offsets.now c.args.released_sizes.now (o / 8)) (t.2 0) in
    c.first_free-free.ensures.value ∙ same
    ∙ sym (c.loop-offset.invariant ∙ alone-here c.args.released_offsets.now c.args.released_sizes.now c.args.offsets.now c.args.sizes.now (length c.loop-offset.yielded) c.args.end
    t.0 t.1 (omega (arith, same, t.2 0, t.3 0, c.first_free-free.ensures.value, c.end_of.ensures.value, c.if-free-end_of.true)))

pub loop-offset-preserved : goal.loop-offset-preserved
loop-offset-preserved c =
    let a = c.args in
    let t = zip_turn c.args.offsets.now c.args.sizes.now c.loop-offset.yielded _ _ c.next.new.self _ (cc) (cc) c.loop-offset.yielded_by _ c.in-Some.is c.next.ensures.steps in
    let same = ap (λ (o : ℕ). free_from a.released_offsets.now a.released_sizes.now (o / 8)) (t.2 0) in
    c.loop-offset.invariant
    ∙ alone-on c.args.released_offsets.now c.args.released_sizes.now c.args.offsets.now c.args.sizes.now (length c.loop-offset.yielded) c.args.end
    t.0 t.1 (omega (arith, same, t.2 0, t.3 0, c.first_free-free.ensures.value, c.end_of.ensures.value, c.if-free-end_of.false))
    ∙ ap (λ (m : ℕ). alone_in a.released_offsets.now a.released_sizes.now (drop m a.offsets.now) (drop m a.sizes.now) a.end)
    (sym (length_push c.loop-offset.yielded _))

pub returns-clause-value : goal.returns-clause-value
returns-clause-value c =
    let e = zip_end c.args.offsets.now c.args.sizes.now c.loop-offset.yielded _ _ c.next.new.self _ (cc) (cc) c.loop-offset.yielded_by c.in-None.is c.next.ensures.steps in
    sym (c.loop-offset.invariant ∙ alone-end c.args.released_offsets.now c.args.released_sizes.now c.args.offsets.now c.args.sizes.now (length c.loop-offset.yielded) c.args.end e)
