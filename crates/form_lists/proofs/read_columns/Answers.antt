use native.Mathlib.Omega.{arith}
use lib.ListN.{length-set}
use Rattle.form_fields.specs.Words.{byte, word32}
use Rattle.form_fields.specs.Laws.Columns.{column-turn}
use Rattle.form_lists.proofs.read_columns.Goals as goal

pub loop-i-preserved : goal.loop-i-preserved
loop-i-preserved c =
    let a = c.args in
    let i = c.loop-i.i in
    let k = c.loop-i.invariant in
    let file = a.file.now in (
      omega arith,
      simp length-set k.1,
      simp length-set k.2,
      rw (k.3, c.read32.ensures) (column-turn (word32 file) a.step 0 a.words.now a.from a.word_at a.count i (omega arith)
          (omega arith)),
      rw k.4 (column-turn (byte file) a.step 0 a.bytes.now a.from a.byte_at a.count i (omega arith) (omega arith)),
    )
