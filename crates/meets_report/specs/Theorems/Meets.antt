-- What the program `layout` prints for a file, by the definitions, says the sentences: it is the text of the outcome of `dk_form` (`form-meets`), or of
-- `dk_form_paged` where there is a page size, whatever is lent holds.
use Rattle.std.specs.Prelude.{◌≡◌, refl, List, ℕ, ◌+◌, ◌-◌, length, drop, Option, None, Some, Err, Ok, Result}
use Rattle.std.proofs.Common.{sym, subst, ◌∙◌, arith, length-append, length-drop}
use Rattle.std.proofs.lemmas.List.{length-map}
use Rattle.bankdef.specs.declared.Bankdefs.{Bankdefs}
use Rattle.build_visits.specs.Spans.{spans_of, words, sizes, over}
use Rattle.build_visits.specs.declared.Visit.{Visit}
use Rattle.form_fields.specs.Banks.{table_of}
use Rattle.form_fields.specs.Whole.{Bytes}
use Rattle.form_build.specs.Filed.{lists_in, file_output, file_visits}
use Rattle.output.specs.Output as out
use Rattle.output.specs.Output.{room_of, left_by}
use Rattle.output.specs.declared.Output.{Output}
use Rattle.output.specs.declared.Built.{Built}
use Rattle.c_answers.specs.Told.{layout_told}
use Rattle.c_model.specs.Forms.{FormTold}
use Rattle.print_report.specs.Report.{report_text}
use Rattle.print_report.specs.Laws.Built.{file-text}
use Rattle.says.specs.Build.{Lent, Outcome}
use Rattle.says.specs.Report.{Reports, Lends, LayoutSays, ReportSays}
use Rattle.meets_build.specs.Laws.Contract.{lent_so}
use Rattle.meets_build.specs.Theorems.Meets.{lent_of}
use Rattle.meets_form.specs.Theorems.FormMeets.{form-meets}
use Rattle.meets_form_paged.specs.Theorems.Meets.{form-paged-meets}
use Rattle.meets_report.specs.Laws.Shown.{shown}
use Rattle.prelude.specs.declared.Refusal.{Refusal}

over-long : (new old : List ℕ) (n m : ℕ) → length new ≡ n → length old ≡ m → length (over new old) ≡ n + (m - n)
over-long new old n m e f = omega (arith, length-append new (drop (length new) old), length-drop (length new) old)

-- the spans' lists keep one length
paired : (t : Bankdefs) (vs : List Visit) (values : List ℕ) (old : out.Lent) (q : Result Built Refusal) → length old.offsets ≡ length old.sizes
    → length (left_by t vs values old q).offsets ≡ length (left_by t vs values old q).sizes
paired t vs values old (Err why) same = same
paired t vs values old (Ok ended) same =
    let spans = spans_of vs in
    over-long (words spans) old.offsets (length spans) (length old.sizes) (length-map spans _) same
    ∙ sym (over-long (sizes spans) old.sizes (length spans) (length old.sizes) (length-map spans _) refl)

-- what a build of the file leaves of what is lent, and its outcome in the sentences' terms
module _ (file : List ℕ) (old : Lent) (o : Output) where
  abbrev pub left-of : out.Lent
  left-of = left_by (table_of file) (file_visits file o.passes) (lists_in file).values (lent_of old) o.build

  abbrev pub outcome-of : Outcome
  outcome-of = record { answer = layout_told o; lent = lent_so left-of }

  as-paired-of : length old.offsets ≡ length old.sizes → length left-of.offsets ≡ length left-of.sizes
  as-paired-of = paired (table_of file) (file_visits file o.passes) (lists_in file).values (lent_of old) o.build

module _ (file : List ℕ) (small : Bytes file) (fill : ℕ) (page : Option ℕ) (old : Lent) where
  -- the file's output
  abbrev its : Output
  its = file_output file fill page (room_of (lent_of old))

  told-of : (o : Output) → o ≡ its → FormTold file fill page (lent_of old) (outcome-of file old o).answer (lent_of (outcome-of file old o).lent)
  told-of o is = rw is (record { answer = refl; built = record { answer = refl; left = refl } })

  prints-of : (o : Output) → o ≡ its → Lends old → length (left-of file old o).offsets ≡ length (left-of file old o).sizes
      → Reports (outcome-of file old o) (report_text file fill page)
  prints-of o is lends same =
      rw is (subst (Reports (outcome-of file old its))
      (file-text file fill page small (lent_of old) lends.0 lends.1 lends.2 lends.3 its (left-of file old its) (record { answer = refl; left = refl }))
      (shown its.passes its.padding its.build (lent_so (left-of file old its)) (rw is at same)))

-- what the library says of the file
pub layout-of : (file : List ℕ) (small : Bytes file) (fill : ℕ) (page : Option ℕ) (old : Lent)
    → LayoutSays file fill page old (outcome-of file old (file_output file fill page (room_of (lent_of old))))
layout-of file small fill None old =
    let o = file_output file fill None (room_of (lent_of old)) in
    let y = outcome-of file old o in
    form-meets file small fill old y.answer y.lent (told-of file small fill None old o refl)
layout-of file small fill (Some page) old =
    let o = file_output file fill (Some page) (room_of (lent_of old)) in
    let y = outcome-of file old o in
    form-paged-meets file small fill page old y.answer y.lent (told-of file small fill (Some page) old o refl)

-- the file's output by its name, of which the same is said
module _ (file : List ℕ) (small : Bytes file) (fill : ℕ) (page : Option ℕ) (old : Lent) where
  abbrev pub answer : Output
  answer = file_output file fill page (room_of (lent_of old))

  abbrev pub left : out.Lent
  left = left-of file old answer

  -- the outcome by the definitions
  abbrev pub outcome : Outcome
  outcome = outcome-of file old answer

  told : FormTold file fill page (lent_of old) outcome.answer (lent_of outcome.lent)
  told = told-of file small fill page old answer refl

  pub as-paired : length old.offsets ≡ length old.sizes → length left.offsets ≡ length left.sizes
  as-paired = as-paired-of file old answer

  prints : Lends old → Reports outcome (report_text file fill page)
  prints lends = prints-of file small fill page old answer refl lends (as-paired (lends.2 ∙ sym lends.3))

-- so `layout-meets`, of the outcome by its name
pub layout-meets : (file : List ℕ) (small : Bytes file) (fill : ℕ) (page : Option ℕ) (old : Lent)
    → LayoutSays file fill page old (outcome file small fill page old)
layout-meets file small fill page old = layout-of file small fill page old

pub report-meets : (file : List ℕ) → Bytes file → (fill : ℕ) (page : Option ℕ) → ReportSays file fill page (report_text file fill page)
report-meets file small fill page old lends =
    let o = file_output file fill page (room_of (lent_of old)) in
    let same = as-paired-of file old o (lends.2 ∙ sym lends.3) in
    (outcome-of file old o, layout-of file small fill page old, prints-of file small fill page old o refl lends same)
