-- The report's contract is `Puts` of the file's text, which leaves one outcome: the answer and every byte of the buffer.
use Rattle.std.specs.Prelude.{◌≡◌, List, ℕ, Option}
use Rattle.print_text.specs.Puts.{Puts}
use Rattle.print_text.specs.Theorems.Unique.{puts-unique}
use Rattle.print_report.specs.Report.{report_text}

pub report-unique : (file : List ℕ) (fill : ℕ) (page : Option ℕ) (old : List ℕ) {r s : Option ℕ} {a b : List ℕ} → Puts (report_text file fill page) old 0 r a
    → Puts (report_text file fill page) old 0 s b → (r ≡ s) × (a ≡ b)
report-unique file fill page old p q = puts-unique p q
