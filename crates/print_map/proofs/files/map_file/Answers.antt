-- `map_file` meets its contract: a broken file is its refusal's line, and a sound one's lists fit the arrays.
use mathlib.Core.Path.{sym, ◌∙◌}
use native.Mathlib.Omega.{arith}
use Rattle.print_map.proofs.Lines.{written_as}
use Rattle.form_build.specs.Laws.Held.{held}
use Rattle.print_map.proofs.Read.{broken-text}
use Rattle.print_map.proofs.files.map_file.Goals as goal

pub map_read-requires-clause-held_in : goal.map_read-requires-clause-held_in
map_read-requires-clause-held_in c =
    held c.args.file.now c.in-Ok.shape (sym c.read_shape.ensures.is ∙ c.in-Ok.is) _ _ _ _ (omega arith) (omega arith) (omega arith) (omega arith)
    c.read_lists.ensures.lists

pub returns-in-Err-clause-writes : goal.returns-in-Err-clause-writes
returns-in-Err-clause-writes c =
    let a = c.args in written_as (broken-text a.file.now a.fill a.page _ (sym c.read_shape.ensures.is ∙ c.in-Err.is))
    c.write_refused.ensures.writes
