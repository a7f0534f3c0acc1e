use Prim.Native.Nat.{◌+◌, ◌*◌}
use mathlib.Core.Path.{refl, ◌∙◌}
use native.Mathlib.Nat.{zero-mul}
use native.Mathlib.Omega.{arith}
use Rattle.form_fields.specs.Lists.{cells}
use Rattle.form_fields.specs.Words.{byte, word32}
use Rattle.form_fields.specs.Laws.Cells.{cells-turn}
use Rattle.form_lists.proofs.read_rows.Goals as goal

pub loop-r-init : goal.loop-r-init
unfolding cells
loop-r-init c =
    let a = c.args in
    (omega arith, refl, refl, rw (zero-mul a.nodes) refl, rw (zero-mul a.nodes) refl)

pub loop-r-preserved : goal.loop-r-preserved
loop-r-preserved c =
    let a = c.args in
    let r = c.loop-r.r in
    let k = c.loop-r.invariant in
    let file = a.file.now in
    let p = a.at + r * (3 + 5 * a.nodes) in
    let done = c.read_columns in (
      omega arith,
      done.auto.words ∙ k.1,
      done.auto.bytes ∙ k.2,
      cells-turn (word32 file) a.nodes (a.at + 3) r (p + 3) a.numbers.now
          c.loop-r.numbers done.new.words (omega arith) k.3
          done.ensures.words_after,
      cells-turn (byte file) a.nodes (a.at + 7) r (p + 7) a.states.now
          c.loop-r.states done.new.bytes (omega arith) k.4
          done.ensures.bytes_after,
    )
