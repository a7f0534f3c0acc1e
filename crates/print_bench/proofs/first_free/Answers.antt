use mathlib.Core.Path.{sym, ap, ap₂, ◌∙◌}
use Prim.Native.Nat.{ℕ, ◌+◌}
use native.Mathlib.Omega.{arith}
use lib.ListN.{length, drop}
use Rattle.std.proofs.lemmas.List.{length_push}
use Rattle.std.proofs.lemmas.Slice.Zip.{zip_turn, zip_end}
use Rattle.print_bench.specs.Images.{beyond_of, free_from}
use Rattle.print_bench.proofs.Laws.{free_on, free-end}
use Rattle.print_bench.proofs.first_free.Goals as goal

pub loop-offset-preserved : goal.loop-offset-preserved
loop-offset-preserved c =
    let l = c.loop-offset in
    let os = c.args.offsets.now in
    let ss = c.args.sizes.now in
    let n = length l.yielded in
    let t = zip_turn c.args.offsets.now c.args.sizes.now c.loop-offset.yielded _ _ c.next.new.self _ (cc) (cc) c.loop-offset.yielded_by _ c.in-Some.is c.next.ensures.steps in
    let b = c.beyond-free in (
      l.invariant.0 ∙ free_on os ss n l.free t.0 t.1
          ∙ ap (free_from (drop (n + 1) os) (drop (n + 1) ss))
          (ap₂ (λ (o s : ℕ). beyond_of o s l.free) (sym (t.2 0)) (sym (t.3 0)) ∙ sym b.ensures.value)
          ∙ ap (λ (m : ℕ). free_from (drop m os) (drop m ss) b.result) (sym (length_push l.yielded _)),
      omega (arith, b.ensures.upper_bound, l.invariant.1),
    )

pub returns-clause-value : goal.returns-clause-value
returns-clause-value c =
    let l = c.loop-offset in
    let e = zip_end c.args.offsets.now c.args.sizes.now c.loop-offset.yielded _ _ c.next.new.self _ (cc) (cc) c.loop-offset.yielded_by c.in-None.is c.next.ensures.steps in
    sym (l.invariant.0 ∙ free-end c.args.offsets.now c.args.sizes.now (length l.yielded) l.free e)
