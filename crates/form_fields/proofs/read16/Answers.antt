-- `form_fields::read16` meets its contract: the definition's sum.
use Rattle.form_fields.specs.Words.{word16}
use Rattle.form_fields.proofs.read16.Goals as goal

pub returns : goal.returns
unfolding word16
returns c =
    c.word_of.ensures
