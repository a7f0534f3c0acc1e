-- The table, then the lists, then the rules.
use Rattle.std.specs.Prelude.{Err}
use Rattle.std.proofs.lemmas.Result.{err_from_is_err_and}
use mathlib.Core.Path.{◌∙◌, sym, ap}
use Rattle.nodes.specs.Lists.{Lists, lists}
use Rattle.build_profile.proofs.Answered.{sized, table-refused, lists-refused, rules-decide}
use Rattle.build_profile.proofs.rules.judge.Goals as goal

pub returns-in_err-check : goal.returns-in_err-check
returns-in_err-check c =
    let given : Lists =
    lists c.args.kinds.now c.args.operands.now c.args.numbers.now c.args.states.now c.args.rows c.args.values.now in
    let (why, is, same) = err_from_is_err_and c.from_residual.result c.from_residual.ensures.1 in
    is ∙ ap Err same ∙ table-refused c.args.banks (given) c.args.fill c.args.page c.check.ensures.value c.in_err-check.was

pub returns-in_err-check_lists : goal.returns-in_err-check_lists
returns-in_err-check_lists c =
    let given : Lists =
    lists c.args.kinds.now c.args.operands.now c.args.numbers.now c.args.states.now c.args.rows c.args.values.now in
    let (why, is, same) = err_from_is_err_and c.from_residual-in_err-check_lists.result c.from_residual-in_err-check_lists.ensures.1 in
    is ∙ ap Err same ∙ lists-refused c.args.banks (given) c.args.fill c.args.page c.check.ensures.value c.in_ok-check.was
    c.check_lists.ensures.value c.in_err-check_lists.was

pub check_rules-requires : goal.check_rules-requires
check_rules-requires c =
    let given : Lists =
    lists c.args.kinds.now c.args.operands.now c.args.numbers.now c.args.states.now c.args.rows c.args.values.now in
    sized c.args.banks (given) c.args.fill (sym c.check.ensures.value ∙ c.in_ok-check.was)
    (sym c.check_lists.ensures.value ∙ c.in_ok-check_lists.was)

pub returns : goal.returns
returns c =
    let given : Lists =
    lists c.args.kinds.now c.args.operands.now c.args.numbers.now c.args.states.now c.args.rows c.args.values.now in
    rules-decide c.args.banks (given) c.args.fill c.args.page c.check.ensures.value c.in_ok-check.was
    c.check_lists.ensures.value c.in_ok-check_lists.was c.check_rules.ensures
