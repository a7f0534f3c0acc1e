use mathlib.Core.List.{List, ◌++◌}
use mathlib.Core.Path.{◌≡◌, sym, ap₂, subst, ◌∙◌}
use Prim.Native.Nat.{ℕ, ◌+◌, ◌<◌}
use native.Mathlib.Omega.{arith}
use lib.ListN.{length, drop, get_or, length-append}
use Rattle.std.proofs.lemmas.List.{length_push}
use Rattle.std.proofs.lemmas.Slice.Zip.{zip_turn, zip_end}
use Rattle.print_bench.specs.Program.{run_text, run_lines}
use Rattle.print_bench.specs.Steps.{InBoth}
use Rattle.print_bench.proofs.Laws.{Going, going_on, going_end, lines-on, lines_end}
use Rattle.print_bench.proofs.put_runs.Goals as goal

-- what is left to write begins with the line of this turn
turn : (load : ℕ) (released overlay fs cs : List ℕ) (i f k : ℕ) {all old new : List ℕ} {end : ℕ} → i < length fs → i < length cs → f ≡ get_or fs i 0
    → k ≡ get_or cs i 0 → Going all old (run_lines load released overlay (drop i fs) (drop i cs)) new end
    → Going all old (run_text load released overlay f k ++ run_lines load released overlay (drop (i + 1) fs) (drop (i + 1) cs)) new end
turn load released overlay fs cs i f k {all} {old} {new} {end} h g p q w =
    let more : List ℕ = run_lines load released overlay (drop (i + 1) fs) (drop (i + 1) cs) in
    subst (λ (x : List ℕ). Going all old x new end)
    (lines-on load released overlay fs cs i h g ∙ ap₂ (λ (a b : ℕ). run_text load released overlay a b ++ more) (sym p) (sym q)) w

pub put_run-end-requires-clause-in_both : goal.put_run-end-requires-clause-in_both
put_run-end-requires-clause-in_both c =
    let i = length c.loop-first.yielded in
    let t = zip_turn c.args.firsts.now c.args.counts.now c.loop-first.yielded _ _ c.next.new.self _ (cc) (cc) c.loop-first.yielded_by _ c.in-Some.is c.next.ensures.steps in
    let r = c.args.released.now in
    let o = c.args.overlay.now in
    subst (λ (x : ℕ). InBoth r o x c.in-Some.count.now) (sym (t.2 0))
    (subst (λ (x : ℕ). InBoth r o (get_or c.args.firsts.now i 0) x) (sym (t.3 0)) (c.requires.each_in_both i t.0))

pub put_run-end-requires-clause-count_in_bounds : goal.put_run-end-requires-clause-count_in_bounds
put_run-end-requires-clause-count_in_bounds c =
    let i = length c.loop-first.yielded in
    let f = c.in-Some.first.now in
    let k = c.in-Some.count.now in
    let t = zip_turn c.args.firsts.now c.args.counts.now c.loop-first.yielded _ _ c.next.new.self _ (cc) (cc) c.loop-first.yielded_by _ c.in-Some.is c.next.ensures.steps in
    let this : List ℕ = run_text c.args.load c.args.released.now c.args.overlay.now f k in
    let more : List ℕ = run_lines c.args.load c.args.released.now c.args.overlay.now (drop (i + 1) c.args.firsts.now) (drop (i + 1) c.args.counts.now) in
    let w = turn c.args.load c.args.released.now c.args.overlay.now c.args.firsts.now c.args.counts.now i f k t.0 t.1 (t.2 0) (t.3 0)
    c.loop-first.invariant in
    omega (arith, w.ends, w.long, length-append this more, c.requires.counts_in_bounds)

pub loop-first-preserved : goal.loop-first-preserved
loop-first-preserved c =
    let i = length c.loop-first.yielded in
    let t = zip_turn c.args.firsts.now c.args.counts.now c.loop-first.yielded _ _ c.next.new.self _ (cc) (cc) c.loop-first.yielded_by _ c.in-Some.is c.next.ensures.steps in
    let w = turn c.args.load c.args.released.now c.args.overlay.now c.args.firsts.now c.args.counts.now i c.in-Some.first.now c.in-Some.count.now t.0 t.1
    (t.2 0) (t.3 0) c.loop-first.invariant in
    subst
    (λ (m : ℕ). Going (run_lines c.args.load c.args.released.now c.args.overlay.now c.args.firsts.now c.args.counts.now) c.args.out.now
    (run_lines c.args.load c.args.released.now c.args.overlay.now (drop m c.args.firsts.now) (drop m c.args.counts.now)) c.put_run-end.new.out
    c.put_run-end.result)
    (sym (length_push c.loop-first.yielded _)) (going_on w c.put_run-end.ensures)

pub returns : goal.returns
returns c =
    let e = zip_end c.args.firsts.now c.args.counts.now c.loop-first.yielded _ _ c.next.new.self _ (cc) (cc) c.loop-first.yielded_by c.in-None.is c.next.ensures.steps in
    going_end
    (subst
    (λ (x : List ℕ). Going (run_lines c.args.load c.args.released.now c.args.overlay.now c.args.firsts.now c.args.counts.now) c.args.out.now x c.loop-first.out c.loop-first.end)
    (lines_end c.args.load c.args.released.now c.args.overlay.now c.args.firsts.now c.args.counts.now (length c.loop-first.yielded)
    (omega (arith, e, c.requires.firsts_len)))
    c.loop-first.invariant)
