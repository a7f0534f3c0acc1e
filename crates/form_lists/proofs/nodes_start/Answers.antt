-- `form_lists::nodes_start` meets its contract: the head and the banks before them.
use Prim.Native.Nat.{◌+◌, ◌*◌, ◌≤◌}
use mathlib.Core.Path.{sym, ap, subst, ◌∙◌}
use native.Mathlib.Omega.{arith}
use Rattle.form_fields.specs.declared.Kind.{Kind}
use Rattle.form_fields.specs.Kind.{Known}
use Rattle.form_fields.specs.Theorems.Kind.{kind-known}
use Rattle.form_fields.specs.Laws.Kind.{known-bank}
use Rattle.form_fields.specs.Theorems.Filled.{places}
use Rattle.form_lists.proofs.nodes_start.Goals as goal

pub overflow_mul-result : goal.overflow_mul-result
overflow_mul-result c =
    let fits : c.kind_of-kind.result.heads * 4 + c.args.shape.banks * (3 + c.kind_of-kind.result.bank) ≤ 65536 =
    let a = c.args in
    let p = places a.file.now a.shape c.requires in
    subst (λ (k : Kind). k.heads * 4 + a.shape.banks * (3 + k.bank) ≤ 65536) (sym c.kind_of-kind.ensures) (omega (arith, p.ends, p.short)) in
    omega (arith, fits)

pub overflow_add-result : goal.overflow_add-result
overflow_add-result c =
    let bank : c.kind_of-kind.result.bank ≤ 24 =
    (known-bank (subst Known (sym c.kind_of-kind.ensures) (kind-known c.args.file.now))).1 in
    omega (arith, bank)

pub overflow_mul-result-2 : goal.overflow_mul-result-2
overflow_mul-result-2 c =
    let fits : c.kind_of-kind.result.heads * 4 + c.args.shape.banks * (3 + c.kind_of-kind.result.bank) ≤ 65536 =
    let a = c.args in
    let p = places a.file.now a.shape c.requires in
    subst (λ (k : Kind). k.heads * 4 + a.shape.banks * (3 + k.bank) ≤ 65536) (sym c.kind_of-kind.ensures) (omega (arith, p.ends, p.short)) in
    omega (arith, fits)

pub overflow_add-result-2 : goal.overflow_add-result-2
overflow_add-result-2 c =
    let fits : c.kind_of-kind.result.heads * 4 + c.args.shape.banks * (3 + c.kind_of-kind.result.bank) ≤ 65536 =
    let a = c.args in
    let p = places a.file.now a.shape c.requires in
    subst (λ (k : Kind). k.heads * 4 + a.shape.banks * (3 + k.bank) ≤ 65536) (sym c.kind_of-kind.ensures) (omega (arith, p.ends, p.short)) in
    omega (arith, fits)

pub returns : goal.returns
returns c =
    let a = c.args in
    ap (λ (k : Kind). k.heads * 4 + a.shape.banks * (3 + k.bank)) c.kind_of-kind.ensures
    ∙ (places a.file.now a.shape c.requires).start
