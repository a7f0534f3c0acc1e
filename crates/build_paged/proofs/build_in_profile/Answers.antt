-- What the profile says, and the ordinary build after a yes.
use Rattle.nodes.specs.Lists.{lists}
use Rattle.output.specs.Output.{Input, input, Lent, lent}
use Rattle.build_paged.proofs.Laws.{verdict-is, says-no, says-yes}
use Rattle.build_paged.proofs.build_in_profile.Goals as goal

pub returns-in-Err : goal.returns-in-Err
returns-in-Err c =
    let given : Input =
    input c.args.banks
    (lists c.args.kinds.now c.args.operands.now c.args.numbers.now c.args.states.now c.args.rows c.args.values.now)
    c.args.choices in
    let old : Lent =
    lent c.args.image.now c.args.addresses.now c.args.offsets.now c.args.sizes.now in
    says-no c.args.page (given) (old) (verdict-is c.args.page (given) c.check_profile-paged.ensures.answer)
    c.in-Err.is c.refused.ensures

pub returns-in-Ok : goal.returns-in-Ok
returns-in-Ok c =
    let given : Input =
    input c.args.banks
    (lists c.args.kinds.now c.args.operands.now c.args.numbers.now c.args.states.now c.args.rows c.args.values.now)
    c.args.choices in
    let old : Lent =
    lent c.args.image.now c.args.addresses.now c.args.offsets.now c.args.sizes.now in
    says-yes c.args.page (given) (old) (verdict-is c.args.page (given) c.check_profile-paged.ensures.answer)
    c.in-Ok.is c.build_output.ensures
