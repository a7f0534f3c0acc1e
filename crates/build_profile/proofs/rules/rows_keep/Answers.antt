-- One place in each row is read.
use Rattle.std.proofs.Common.{◌≡◌, ap, ◌∙◌, ◌<◌, arith, rules, tests}
use Rattle.std.specs.Iterator.Runs.{IsChunksExactRun}
use Rattle.std.specs.Slice.Iter.{chunks_exact_size, chunks_exact_rest}
use Rattle.build_profile.specs.Rules.{kept_by}
use Rattle.build_profile.proofs.Searches.{asked-all}
use Rattle.build_profile.proofs.rules.rows_keep.Goals as goal

pub returns : goal.returns
returns c =
    let p = c.all.ensures.runs.0 in
    let from = c.all.ensures.runs.1 in
    let size : chunks_exact_size p.from ≡ c.args.n = ap chunks_exact_size from ∙ c.chunks_exact.ensures.size in
    let rest : chunks_exact_rest p.from ≡ c.args.numbers.now = ap chunks_exact_rest from ∙ c.chunks_exact.ensures.rest in
    let some : 0 < chunks_exact_size p.from = omega arith in
    let rows : IsChunksExactRun p c.args.n c.args.numbers.now = rw (size, rest) at (c.chunks_exact.ensures.runs p p.seen some) in
    asked-all p _ _ c.args.numbers.now c.args.n c.args.i c.requires (λ x. kept_by c.args.rule x c.args.unit) rows
    (λ a r f k. search (rules, tests)) (λ x b k. search (rules, tests)) c.all.result c.all.ensures.runs.2
