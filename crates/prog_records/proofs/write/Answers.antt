-- `write` meets its contract: what stands at the front is handed on, all of it.
use Rattle.says.specs.RecordsText.{RecordsSay}
use Rattle.meets_report.specs.Laws.Handed.{handed-on}
use Rattle.prog_records.proofs.write.Goals as goal

pub returns : goal.returns
returns g c =
    let a = c.args in
    let w = a.wanted in
    handed-on (RecordsSay w.format w.load w.whole a.file.now a.fill a.page) c.put_file-count.ensures c.print.result c.print.ensures
