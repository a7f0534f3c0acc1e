-- `form_fields::read_as` meets its contract: the runs of banks, nodes and rows, and what follows them.
use mathlib.Core.Bool.{true, false}
use mathlib.Core.Path.{◌≡◌, sym, ◌∙◌}
use borrow.Author.Tests.{not-true, not-false}
use native.Mathlib.Omega.{arith}
use Rattle.form_fields.specs.Kind.{headed}
use Rattle.form_fields.specs.Laws.Rest.{form-long, form-head, counted}
use Rattle.form_fields.proofs.read_as.Goals as goal

pub returns-then-kind-file : goal.returns-then-kind-file
returns-then-kind-file c =
    sym (form-long c.args.kind c.args.file.now (omega arith))

pub returns-then-not-is_headed : goal.returns-then-not-is_headed
returns-then-not-is_headed c =
    let a = c.args in
    let none : headed a.kind a.file.now ≡ false = sym c.is_headed.ensures ∙ not-true _ c.if-not-is_headed.true-raw in
    sym (form-head a.kind a.file.now (omega arith) none)

pub read_rest-requires-clause-counted : goal.read_rest-requires-clause-counted
read_rest-requires-clause-counted c =
    let a = c.args in
    let head : headed a.kind a.file.now ≡ true = sym c.is_headed.ensures ∙ not-false _ c.if-not-is_headed.false-raw in counted a.kind a.file.now (omega arith) head
    c.count_run-banks.result.count c.count_run-nodes.result.count c.count_run-rows.result.count
    c.count_run-banks.result.end c.count_run-nodes.result.end c.count_run-rows.result.end
    c.count_run-banks.ensures.count_value c.count_run-banks.ensures.end_value c.count_run-nodes.ensures.count_value
    c.count_run-nodes.ensures.end_value c.count_run-rows.ensures.count_value c.count_run-rows.ensures.end_value
