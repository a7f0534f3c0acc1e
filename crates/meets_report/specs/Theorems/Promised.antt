-- Meets and decides together: what `print_report::report` puts is the one text that the sentences leave; and the first 65,537 bytes of an input, which are all
-- that the program reads, have the text of the whole.
use Rattle.std.specs.Prelude.{◌≡◌, refl, List, [], ◌∷◌, ◌↔◌, ℕ, zero, suc, ◌≤◌, ◌<◌, length, get_or, take, Option, Some}
use Rattle.std.proofs.Common.{sym, subst, ◌∙◌, arith, take_at}
use Rattle.form_fields.specs.Whole.{Bytes}
use Rattle.print_text.specs.Puts.{Puts}
use Rattle.print_report.specs.Report.{report_text}
use Rattle.print_report.specs.Room.{report_room}
use Rattle.print_report.specs.Theorems.Room.{report-answers-length, report-stands-first, read-so-far-is-enough}
use Rattle.says.specs.Build.{Lent, Outcome}
use Rattle.says.specs.Report.{Reports, Lends, LayoutSays, ReportSays}
use Rattle.meets_report.specs.Theorems.Decides.{reports-one, layout-decides, report-decides}
use Rattle.meets_report.specs.Theorems.Meets.{report-meets}

module _ (file : List ℕ) (small : Bytes file) (fill : ℕ) (page : Option ℕ) where
  -- the text is the definition's, and nothing else
  pub report-exactly : (text : List ℕ) → ReportSays file fill page text ↔ (text ≡ report_text file fill page)
  report-exactly text = (
    λ s. report-decides file fill page text (report_text file fill page) s (report-meets file small fill page),
    λ e. subst (ReportSays file fill page) (sym e) (report-meets file small fill page),
  )

  -- what `report` promises is the text, from the front of the buffer on
  pub report-says : {old : List ℕ} {r : Option ℕ} {new : List ℕ} → report_room ≤ length old → Puts (report_text file fill page) old 0 r new
      → (n : ℕ) × (r ≡ Some n) × ReportSays file fill page (take n new)
  report-says {old} {r} {new} room p =
      let text = report_text file fill page in
      let front : take (length text) new ≡ text =
      subst (λ (l : List ℕ). take (length text) l ≡ text) (sym (report-stands-first file fill page small room p)) (take_at text _ (length text) refl) in
      (length text, report-answers-length file fill page small room p, (report-exactly (take (length text) new)).1 front)

  -- one outcome, for lists lent that hold anything, is enough: its text is the report
  pub from-any : (old : Lent) → Lends old → (y : Outcome) → LayoutSays file fill page old y → (text : List ℕ) → Reports y text
      → ReportSays file fill page text
  from-any old lends y says text p =
      let m = report-meets file small fill page old lends in
      (report-exactly text).1
      (reports-one y text (report_text file fill page) p
      (subst (λ (z : Outcome). Reports z (report_text file fill page)) (layout-decides file fill page old m.0 y m.1 says) m.2))

-- the bytes that are read
pub bytes_take : (n : ℕ) (l : List ℕ) → Bytes l → Bytes (take n l)
bytes_take zero l h i = omega arith
bytes_take (suc n) [] h i = omega arith
bytes_take (suc n) (x ∷ l) h zero = h 0
bytes_take (suc n) (x ∷ l) h (suc i) = bytes_take n l (λ j. h (suc j)) i

pub read-enough : (input : List ℕ) → Bytes input → (fill : ℕ) (page : Option ℕ) (text : List ℕ)
    → ReportSays (take 65537 input) fill page text → ReportSays input fill page text
read-enough input small fill page text s =
    (report-exactly input small fill page text).1
    ((report-exactly (take 65537 input) (bytes_take 65537 input small) fill page text).0 s ∙ read-so-far-is-enough input fill page)
