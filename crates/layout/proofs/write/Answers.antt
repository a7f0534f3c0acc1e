-- `write` meets its contract: what stands at the front is handed on, all of it.
use Rattle.says.specs.Report.{ReportSays}
use Rattle.meets_report.specs.Laws.Handed.{handed-on}
use Rattle.layout.proofs.write.Goals as goal

pub returns : goal.returns
returns g c = handed-on (ReportSays c.args.file.now c.args.fill c.args.page) c.put_file-count.ensures c.print.result c.print.ensures
