-- `put_file` meets its contract: the text that stands at the front is what the sentences say (`records-meet`).
use Rattle.says.specs.RecordsText.{RecordsSay}
use Rattle.meets_report.specs.Laws.Handed.{stands-shows}
use Rattle.meets_report.specs.Theorems.RecordsMeets.{records-meet}
use Rattle.prog_records.proofs.put_file.Goals as goal

pub returns : goal.returns
returns c =
    let a = c.args in
    let w = a.wanted in
    stands-shows (RecordsSay w.format w.load w.whole a.file.now a.fill a.page) (c.put_file.ensures c.requires)
    (records-meet w a.file.now (λ i. (c.type_inv.file i).fits) a.fill a.page)
