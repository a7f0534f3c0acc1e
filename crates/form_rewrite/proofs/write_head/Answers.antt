-- `form_rewrite::write_head` meets its contract: a field of one byte.
use Rattle.form_rewrite.proofs.Laws.{bare-field}
use Rattle.form_rewrite.proofs.write_head.Goals as goal

pub returns-clause-writes : goal.returns-clause-writes
returns-clause-writes c =
    bare-field _ _ c.write_field.ensures.writes
