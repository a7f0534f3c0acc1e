-- What is printed of a file: K, the blocks and the image's digits of an accepted one; a refused one's number and place; of a broken one `refused 4 i`.
use Rattle.std.specs.Prelude.{◌≡◌, List, [], ◌∷◌, ◌++◌, ℕ, ◌+◌, length, Option, Err, Result}
use Rattle.std.proofs.Math.Path.{ap, ap₂}
use Rattle.std.proofs.Common.{◌∙◌}
use Rattle.prelude.specs.Laws.Bools.{unlike}
use Rattle.prelude.specs.Refusals.{number_of, place_of}
use Rattle.prelude.specs.Told.{Told, gives, refuses}
use Rattle.prelude.specs.declared.Place.{Place}
use Rattle.prelude.specs.declared.Place.TheVariants.{One}
use Rattle.prelude.specs.declared.Refusal.{Refusal}
use Rattle.bitvec.specs.HexDigits.{hex_of}
use Rattle.blocks.specs.Outcome.{origins, sizes}
use Rattle.form_fields.specs.Banks.{table_of}
use Rattle.form_fields.specs.Kind.{kind_of}
use Rattle.form_fields.specs.Shape.{form_of, fields_before_in}
use Rattle.form_fields.specs.Told.{FormTold, told_form, long, no-head, no-values, no-limit, extra, sound}
use Rattle.form_fields.specs.Theorems.Told.{form-told}
use Rattle.form_fields.specs.declared.Kind.{Kind}
use Rattle.form_fields.specs.declared.Shape.{Shape}
use Rattle.form_build.specs.Filed.{lists_in, output_by, file_output, file_visits}
use Rattle.print_text.specs.Ascii.{ascii}
use Rattle.print_text.specs.Lines.{line, place_numbers, passes_text, blocks_text, image_text, refusal_text}
use Rattle.print_report.specs.Printed.{blocks_built, image_built}
use Rattle.print_report.specs.Report.{lent_room, answer_text, built_text, report_text}
use Rattle.output.specs.Built.{done_with}

four-told : {k : Kind} {file : List ℕ} {t : Told Shape} → FormTold k file t → (n : ℕ) (p : Place) → t ≡ refuses n p → (i : ℕ) × (n ≡ 4) × (p ≡ One i)
four-told (long h) n p e = (0, cc, cc)
four-told (no-head h a) n p e = (0, cc, cc)
four-told {k} {file} (no-values h a b) n p e = (fields_before_in k file, cc, cc)
four-told {k} {file} (no-limit h a b c) n p e = (fields_before_in k file + 1, cc, cc)
four-told {k} {file} (extra h a b c d) n p e = (fields_before_in k file + 2, cc, cc)
four-told (sound h a b c d) n p e = unlike cc

module _ (file : List ℕ) (fill : ℕ) (page : Option ℕ) where
  -- "A refusal prints `refused`, number and place, one space between": exactly that, for every file that is refused.
  pub refused-prints-number-and-place : (why : Refusal) → (file_output file fill page lent_room).build ≡ Err why
      → report_text file fill page ≡ line (ascii "refused") (number_of why ∷ place_numbers (place_of why))
  unfolding report_text
  refused-prints-number-and-place why e =
      ap (answer_text (table_of file) (file_visits file (file_output file fill page lent_room).passes) (lists_in file).values) e

  -- "The first line is K", then a line for each block, then the image's digits: those of the build.
  pub accepted-prints-build : (k bits spans : ℕ) → (file_output file fill page lent_room).build ≡ done_with k bits spans
      → (let passes = (file_output file fill page lent_room).passes in
      let blocks = blocks_built file passes in
      report_text file fill page
      ≡ passes_text k ++ blocks_text (length blocks) (origins blocks) (sizes blocks) ++ image_text (hex_of (image_built file passes bits) bits))
  unfolding report_text
  accepted-prints-build k bits spans e =
      ap (answer_text (table_of file) (file_visits file (file_output file fill page lent_room).passes) (lists_in file).values) e

  -- "A broken file .. is 4 with the first such field's index" (form_fields/Told says which field that is): `refused 4 i`, and no pass is run.
  pub broken-prints-4 : (why : Refusal) → form_of file ≡ Err why
      → (i : ℕ) × (place_of why ≡ One i) × (report_text file fill page ≡ line (ascii "refused") (4 ∷ i ∷ [])) ×
      ((file_output file fill page lent_room).passes ≡ 0)
  unfolding report_text
  broken-prints-4 why e =
      let told = four-told (form-told (kind_of file) file) (number_of why) (place_of why) (ap told_form e) in (
        told.0,
        told.2,
        ap (λ (f : Result Shape Refusal). built_text file (output_by file fill page lent_room f)) e
            ∙ ap₂ (λ (n : ℕ) (p : Place). line (ascii "refused") (n ∷ place_numbers p)) told.1 told.2,
        ap (λ (f : Result Shape Refusal). (output_by file fill page lent_room f).passes) e,
      )
