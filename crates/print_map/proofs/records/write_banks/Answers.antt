use mathlib.Core.Path.{◌≡◌, sym, ap₂, subst}
use Prim.Native.Nat.{ℕ, min}
use native.Mathlib.Omega.{arith}
use lib.ListN.{length, get_or, take}
use Rattle.std.proofs.Common.{length-take-le}
use Rattle.std.proofs.lemmas.List.{get_or-take}
use Rattle.bankdef.specs.declared.Bankdef.{Bankdef}
use Rattle.iter.specs.Step.{no_lost}
use Rattle.iter.specs.declared.Lost.{Lost}
use Rattle.print_map.specs.Text.{bank_line, banks_text}
use Rattle.print_map.proofs.Lines.{banks-none, banks-next, written_as}
use Rattle.print_text.specs.Puts.{Writes}
use Rattle.print_text.specs.Laws.Sets.{writes_then, writes-none}
use Rattle.print_map.proofs.records.write_banks.Goals as goal

pub loop-i-init : goal.loop-i-init
loop-i-init c =
    let a = c.args in
    (omega arith, written_as (sym (banks-none a.banks a.padding)) (writes-none a.out.now a.at))

pub loop-i-preserved : goal.loop-i-preserved
loop-i-preserved c =
    let a = c.args in
    let l = c.loop-i in
    let n = c.min-count.result in
    let w = c.write_bank-end.ensures in
    let long : length (take n a.padding) ≡ n = length-take-le n a.padding (omega (arith, c.min-count.ensures)) in
    let lost : get_or (take n a.padding) l.i no_lost ≡ get_or a.padding l.i no_lost =
    get_or-take n a.padding l.i no_lost (omega (arith, long, c.loop-i-test.true)) in
    let one = written_as (ap₂ (λ (d : Bankdef) (p : Lost). bank_line l.i d p) c.bank_record-def.ensures lost) w.writes in (
      omega (arith, l.invariant.0, w.upper_bound),
      written_as (sym (banks-next a.banks a.padding l.i)) (writes_then l.invariant.1 one),
    )

pub returns-clause-writes : goal.returns-clause-writes
returns-clause-writes c =
    let a = c.args in
    let l = c.loop-i in
    let n = c.min-count.result in
    let long : length (take n a.padding) ≡ n = length-take-le n a.padding (omega (arith, c.min-count.ensures)) in
    let all : l.i ≡ min a.banks.len 16 = omega (arith, long, c.min-count.ensures, c.loop-i-test.false, l.auto.i-end) in
    subst (λ (k : ℕ). Writes (banks_text a.banks a.padding k) a.out.now a.at l.end l.out) all l.invariant.1

pub returns-clause-upper_bound : goal.returns-clause-upper_bound
returns-clause-upper_bound c =
    let n = c.min-count.result in
    let long : length (take n c.args.padding) ≡ n = length-take-le n c.args.padding (omega (arith, c.min-count.ensures)) in
    omega (arith, long, c.min-count.ensures, c.loop-i.invariant.0, c.loop-i.auto.i-end)
