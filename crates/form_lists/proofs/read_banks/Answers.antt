-- `form_lists::read_banks` meets its contract: the run of banks, of which 16 are read at most.
use Prim.Native.Nat.{ℕ, ◌+◌, ◌-◌, ◌*◌, ◌≤◌, min}
use mathlib.Core.Path.{◌≡◌, sym, ap, ap₂, subst, ◌∙◌}
use mathlib.Core.List.{List, ◌++◌}
use native.Mathlib.Nat.{mul-le-mul_right}
use native.Mathlib.Omega.{arith}
use lib.ListN.{length, replicate}
use Rattle.form_fields.specs.declared.Kind.{Kind}
use Rattle.bankdef.specs.Check.{no_bank}
use Rattle.form_fields.specs.Banks.{banks_in}
use Rattle.form_fields.specs.Kind.{Known, kind_of}
use Rattle.form_fields.specs.Theorems.Kind.{kind-known, kind-headed}
use Rattle.form_fields.specs.Laws.Kind.{known-heads}
use Rattle.form_fields.specs.Shape.{bank_count_in, nodes_start_in}
use Rattle.form_fields.specs.Laws.Within.{nodes-within}
use Rattle.form_lists.proofs.read_banks.Goals as goal

-- the banks stand within the file, whatever the form
within : (file : List ℕ) (k : Kind) → k ≡ kind_of file → k.heads * 4 + bank_count_in k file * (3 + k.bank) ≤ length file
unfolding nodes_start_in
within file k e =
    subst (λ (j : Kind). j.heads * 4 + bank_count_in j file * (3 + j.bank) ≤ length file) (sym e)
    (nodes-within (kind-known file) file (kind-headed file))

-- and so do as many of them as are read
read : (file : List ℕ) (k : Kind) (run count : ℕ) → k ≡ kind_of file → run ≡ bank_count_in k file → count ≡ min run 16
    → k.heads * 4 + count * (3 + k.bank) ≤ length file
read file k run count e all least =
    let room : count * (3 + k.bank) ≤ bank_count_in k file * (3 + k.bank) = mul-le-mul_right (3 + k.bank) (omega arith) in
    omega (arith, room, within file k e)

pub overflow_mul-kind : goal.overflow_mul-kind
overflow_mul-kind c =
    omega (arith, known-heads (subst Known (sym c.kind_of-kind.ensures) (kind-known c.args.file.now)))

pub read_table-requires-clause-known : goal.read_table-requires-clause-known
read_table-requires-clause-known c =
    subst Known (sym c.kind_of-kind.ensures) (kind-known c.args.file.now)

pub read_table-requires-clause-bank_in_bounds : goal.read_table-requires-clause-bank_in_bounds
unfolding bank_count_in
read_table-requires-clause-bank_in_bounds c =
    read c.args.file.now c.kind_of-kind.result c.count_run-run.result.count c.min-count.result c.kind_of-kind.ensures c.count_run-run.ensures.count_value
    c.min-count.ensures

pub returns : goal.returns
unfolding bank_count_in
returns c =
    let file = c.args.file.now in
    let e = c.kind_of-kind.ensures in
    let all : c.count_run-run.result.count ≡ bank_count_in c.kind_of-kind.result file = c.count_run-run.ensures.count_value in
    let count : c.min-count.result ≡ min (bank_count_in (kind_of file) file) 16 =
    c.min-count.ensures ∙ ap (λ (n : ℕ). min n 16) (all ∙ ap (λ (k : Kind). bank_count_in k file) e) in
    let defs = c.read_table.ensures ∙ ap₂ (λ (k : Kind) (n : ℕ). banks_in k file n ++ replicate (16 - n) no_bank) e count in
    let len = all ∙ ap (λ (k : Kind). bank_count_in k file) e in
    λ i. record { defs = defs i; len = len i }
