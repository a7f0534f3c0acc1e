-- `build_read` meets its contract: the fronts of the lists are the file's lists.
use Rattle.form_build.proofs.Laws.{laid_out}
use Rattle.output.specs.Output.{lent}
use Rattle.form_build.proofs.build_read.Goals as goal

pub returns : goal.returns
returns c =
    let a = c.args in
    let old = lent a.image.now a.addresses.now a.offsets.now a.sizes.now in
    laid_out a.file.now a.fill a.page old a.shape c.requires.sound _
    a.kinds.now a.operands.now a.numbers.now a.states.now _ _ c.requires
    c.chosen-choices.ensures c.read_banks.ensures c.read_values.ensures c.build_with.ensures
