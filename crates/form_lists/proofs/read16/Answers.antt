-- `form_lists::read16` meets its contract: the definition's sum.
use Rattle.form_fields.specs.Words.{word16}
use Rattle.form_lists.proofs.read16.Goals as goal

pub returns : goal.returns
unfolding word16
returns c =
    c.word_of.ensures
