use Rattle.std.proofs.Common.{◌≡◌, ◌+◌, ◌*◌, ◌%◌, refl, ap, ◌∙◌, arith}
use Rattle.bitvec.specs.Lists.{list_of}
use Rattle.record_lines.specs.Digits.{pair_at, bytes_at}
use Rattle.record_lines.specs.Sums.{sum_of}
use Rattle.record_lines.specs.Laws.Sums.{sum-list-more}
use Rattle.record_lines.proofs.sum_pairs.Goals as goal

pub loop-j-init : goal.loop-j-init
unfolding sum_of list_of
loop-j-init c =
    (omega arith, refl)

pub loop-j-preserved : goal.loop-j-preserved
loop-j-preserved c =
    let a = c.args in (
      omega arith,
      omega (
        arith,
        c.loop-j.invariant.1,
        c.byte_at-sum.ensures,
        sum-list-more
            c.loop-j.j (λ k. pair_at a.line.now (c.from-start.result + 2 * k)),
      ),
    )

pub returns : goal.returns
returns c =
    let a = c.args in
    let all : c.loop-j.j ≡ a.n = omega arith in
    c.loop-j.invariant.1
    ∙ ap (λ i. sum_of (bytes_at a.line.now i c.loop-j.j) % 256) c.from-start.ensures
    ∙ ap (λ n. sum_of (bytes_at a.line.now a.from n) % 256) all
