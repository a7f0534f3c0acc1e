-- `put_file` meets its contract: there is room for every report (`every-report-fits`), so that the text is never too short, and the sentences say it
-- (`report-meets`).
use Rattle.std.specs.Prelude.{Option}
use Rattle.std.proofs.Common.{◌≤◌, ◌<◌, ◌∙◌, ℕ, List, sym, arith, length, get_or}
use Rattle.prog_args.specs.Laws.Text.{never-short, to_same, put-ends, put-stands}
use Rattle.print_report.specs.Report.{report_text}
use Rattle.print_report.specs.Room.{report_room}
use Rattle.print_report.specs.Theorems.Room.{every-report-fits}
use Rattle.says.specs.Report.{ReportSays}
use Rattle.meets_report.specs.Laws.Handed.{stands-shows}
use Rattle.meets_report.specs.Theorems.Meets.{report-meets}
use Rattle.layout.proofs.put_file.Goals as goal

room : (file : List ℕ) (fill : ℕ) (page : Option ℕ) (text : List ℕ) → ((i : ℕ) → get_or file i 0 < 256) → report_room ≤ length text
    → length (report_text file fill page) ≤ length text
room file fill page text bytes h = omega (arith, every-report-fits file fill page bytes, h)

pub returns-in_default : goal.returns-in_default
returns-in_default c =
    let a = c.args in
    let fits = room a.file.now a.fill a.page a.text.now (λ i. (c.type_inv.file i).fits) c.requires in
    absurd (never-short (sym (put-ends c.report.ensures fits) ∙ c.in_default.is))

pub returns : goal.returns
returns c =
    let a = c.args in
    let bytes : (i : ℕ) → get_or a.file.now i 0 < 256 = λ i. (c.type_inv.file i).fits in
    let fits = room a.file.now a.fill a.page a.text.now bytes c.requires in
    stands-shows (ReportSays a.file.now a.fill a.page)
    (put-stands c.report.ensures fits (to_same (sym c.in-Some.is ∙ put-ends c.report.ensures fits)))
    (report-meets a.file.now bytes a.fill a.page)
