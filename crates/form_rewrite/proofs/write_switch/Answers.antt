-- `form_rewrite::write_switch` meets its contract: a field of five bytes.
use Rattle.form_rewrite.proofs.Laws.{bare-field}
use Rattle.form_rewrite.proofs.write_switch.Goals as goal

pub returns-clause-writes : goal.returns-clause-writes
returns-clause-writes c =
    bare-field _ _ c.write_field.ensures.writes
