-- `form_fields::read_rest` meets its contract: the tests behind the rows, in order.
use Rattle.std.specs.Prelude.{Err}
use Prim.Native.Nat.{ℕ, ◌+◌, ◌≤◌}
use mathlib.Core.Bool.{true, false}
use mathlib.Core.Path.{◌≡◌, sym, ap, ◌∙◌}
use borrow.Author.Tests.{not-true, not-false}
use native.Mathlib.Omega.{arith}
use lib.ListN.{length}
use Rattle.prelude.specs.declared.Refusal.TheVariants.{Malformed}
use Rattle.form_fields.specs.Fields.{field_at}
use Rattle.form_fields.specs.Laws.Fields.{field-ends}
use Rattle.form_fields.specs.Shape.{values_start_in, values_size_in, limit_start_in}
use Rattle.form_fields.specs.Laws.Within.{values-within}
use Rattle.form_fields.specs.Laws.Rest.{field_cut, form-values, form-limit, form-extra, form-sound, before-is, before-fits, values-is, limit_is, shape_is}
use Rattle.form_fields.proofs.read_rest.Goals as goal

pub overflow_add-field : goal.overflow_add-field
overflow_add-field c =
    omega (arith, before-fits c.requires.counted c.requires.known)

pub overflow_add-field-2 : goal.overflow_add-field-2
overflow_add-field-2 c =
    omega (arith, before-fits c.requires.counted c.requires.known)

pub overflow_add-field-3 : goal.overflow_add-field-3
overflow_add-field-3 c =
    omega (arith, before-fits c.requires.counted c.requires.known)

pub overflow_add-at : goal.overflow_add-at
overflow_add-at c =
    let k = c.requires.counted in
    omega (arith, k.behind, values-within c.requires.known c.args.file.now k.head)

pub returns-then-at-file : goal.returns-then-at-file
returns-then-at-file c =
    let file = c.args.file.now in
    let kind = c.args.kind in
    let k = c.requires.counted in
    ap (λ (n : ℕ). Err (Malformed n)) (before-is k)
    ∙ sym (form-values kind file k.short k.head (field_cut file 4 (values_size_in kind file) (values_start_in kind file) (omega (arith, k.behind))))

pub returns-then-not-is_field : goal.returns-then-not-is_field
returns-then-not-is_field c =
    let file = c.args.file.now in
    let kind = c.args.kind in
    let k = c.requires.counted in
    let none : field_at file 4 (values_size_in kind file) (values_start_in kind file) ≡ false =
    sym (values-is _ _ _ _ k.behind c.read16-size.ensures) ∙ sym c.is_field.ensures ∙ not-true _ c.if-not-is_field.true-raw in
    ap (λ (n : ℕ). Err (Malformed n)) (before-is k) ∙ sym (form-values kind file k.short k.head none)

pub overflow_add-result : goal.overflow_add-result
overflow_add-result c =
    omega (
      arith,
      before-fits c.requires.counted c.requires.known,
    )

pub returns-then-not-is_field-2 : goal.returns-then-not-is_field-2
returns-then-not-is_field-2 c =
    -- the values field is there
    let values : field_at c.args.file.now 4 (values_size_in c.args.kind c.args.file.now)
    (values_start_in c.args.kind c.args.file.now) ≡
    true =
    sym (values-is _ _ _ _ c.requires.counted.behind c.read16-size.ensures) ∙ sym c.is_field.ensures ∙ not-false _ c.if-not-is_field.false-raw in
    let file = c.args.file.now in
    let kind = c.args.kind in
    let k = c.requires.counted in
    let none : field_at file 5 1 (limit_start_in kind file) ≡ false =
    ap (field_at file 5 1) (sym (limit_is _ _ _ _ k.behind c.read16-size.ensures)) ∙ sym c.is_field-2.ensures ∙
    not-true _ c.if-not-is_field-2.true-raw in
    ap (λ (n : ℕ). Err (Malformed (n + 1))) (before-is k) ∙ sym (form-limit kind file k.short k.head (values) none)

pub overflow_add-result-then-limit-file : goal.overflow_add-result-then-limit-file
overflow_add-result-then-limit-file c =
    omega (
      arith,
      before-fits c.requires.counted c.requires.known,
    )

pub returns-then-limit-file : goal.returns-then-limit-file
returns-then-limit-file c =
    -- the values field is there
    let values : field_at c.args.file.now 4 (values_size_in c.args.kind c.args.file.now)
    (values_start_in c.args.kind c.args.file.now) ≡
    true =
    sym (values-is _ _ _ _ c.requires.counted.behind c.read16-size.ensures) ∙ sym c.is_field.ensures ∙ not-false _ c.if-not-is_field.false-raw in
    -- and the limit
    let limit : c.args.at + 3 + c.read16-size.result ≡ limit_start_in c.args.kind c.args.file.now =
    limit_is _ _ _ _ c.requires.counted.behind c.read16-size.ensures in
    let limited : field_at c.args.file.now 5 1 (limit_start_in c.args.kind c.args.file.now) ≡ true =
    ap (field_at _ 5 1) (sym (limit)) ∙ sym c.is_field-2.ensures ∙ not-false _ c.if-not-is_field-2.false-raw in
    let file = c.args.file.now in
    let kind = c.args.kind in
    let k = c.requires.counted in
    ap (λ (n : ℕ). Err (Malformed (n + 2))) (before-is k)
    ∙ sym (form-extra kind file k.short k.head (values) (limited) (omega (arith, limit)))

pub bounds-file-limit : goal.bounds-file-limit
bounds-file-limit c =
    -- and the limit
    let limit : c.args.at + 3 + c.read16-size.result ≡ limit_start_in c.args.kind c.args.file.now =
    limit_is _ _ _ _ c.requires.counted.behind c.read16-size.ensures in
    let limited : field_at c.args.file.now 5 1 (limit_start_in c.args.kind c.args.file.now) ≡ true =
    ap (field_at _ 5 1) (sym (limit)) ∙ sym c.is_field-2.ensures ∙ not-false _ c.if-not-is_field-2.false-raw in
    let room : limit_start_in c.args.kind c.args.file.now + 3 + 1 ≤ length c.args.file.now =
    field-ends _ 5 1 _ (limited) in
    omega (arith, limit, room)

pub returns : goal.returns
returns c =
    -- the values field is there
    let values : field_at c.args.file.now 4 (values_size_in c.args.kind c.args.file.now)
    (values_start_in c.args.kind c.args.file.now) ≡
    true =
    sym (values-is _ _ _ _ c.requires.counted.behind c.read16-size.ensures) ∙ sym c.is_field.ensures ∙ not-false _ c.if-not-is_field.false-raw in
    -- and the limit
    let limit : c.args.at + 3 + c.read16-size.result ≡ limit_start_in c.args.kind c.args.file.now =
    limit_is _ _ _ _ c.requires.counted.behind c.read16-size.ensures in
    let limited : field_at c.args.file.now 5 1 (limit_start_in c.args.kind c.args.file.now) ≡ true =
    ap (field_at _ 5 1) (sym (limit)) ∙ sym c.is_field-2.ensures ∙ not-false _ c.if-not-is_field-2.false-raw in
    let file = c.args.file.now in
    let kind = c.args.kind in
    let k = c.requires.counted in
    let end : length file ≤ limit_start_in kind file + 4 = omega (arith, limit) in
    shape_is c.read16-size.result k c.read16-size.ensures ∙ sym
    (form-sound kind file k.short k.head (values) (limited) end)
