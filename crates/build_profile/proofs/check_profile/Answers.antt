-- The verdict, and the pages where it is yes.
use Rattle.nodes.specs.Lists.{Lists, lists}
use Rattle.build_profile.proofs.Answered.{says-no, says-yes, yes-shows}
use Rattle.build_profile.proofs.check_profile.Goals as goal

pub pages_of-requires : goal.pages_of-requires
pages_of-requires c =
    let given : Lists =
    lists c.args.kinds.now c.args.operands.now c.args.numbers.now c.args.states.now c.args.rows c.args.values.now in
    yes-shows c.args.banks (given) c.args.choices.fill c.args.page c.judge-verdict.ensures c.in-Ok.is

pub returns-in-Err : goal.returns-in-Err
returns-in-Err c =
    let given : Lists =
    lists c.args.kinds.now c.args.operands.now c.args.numbers.now c.args.states.now c.args.rows c.args.values.now in
    says-no c.args.banks (given) c.args.choices.fill c.args.page c.judge-verdict.ensures c.in-Err.is

pub returns-in-Ok : goal.returns-in-Ok
returns-in-Ok c =
    let given : Lists =
    lists c.args.kinds.now c.args.operands.now c.args.numbers.now c.args.states.now c.args.rows c.args.values.now in
    says-yes c.args.banks (given) c.args.choices.fill c.args.page c.judge-verdict.ensures c.in-Ok.is c.pages_of.ensures
