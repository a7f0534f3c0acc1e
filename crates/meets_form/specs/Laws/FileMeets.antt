-- A file's outcome meets what is said of the file, where that of the layout in it meets what is said of the layout: a broken file is 4 with its field's index,
-- no pass run and nothing lent changed, and a sound one says exactly one layout.
use Rattle.std.specs.Prelude.{◌≡◌, List, ℕ, Option, Err, Ok, Result}
use Rattle.std.proofs.Common.{sym, ap, ap₂, subst, ◌∙◌}
use Rattle.prelude.specs.declared.Refusal.{Refusal}
use Rattle.prelude.specs.declared.Refusal.TheVariants.{Malformed}
use Rattle.form_fields.specs.declared.Shape.{Shape}
use Rattle.form_fields.specs.Banks as file-banks
use Rattle.form_fields.specs.Shape.{form_of}
use Rattle.form_fields.specs.Whole.{Bytes}
use Rattle.form_build.specs.Filed.{lists_in, output_by, file_output, file_visits}
use Rattle.form_build.specs.Paged.{output_in}
use Rattle.output.specs.Output as out
use Rattle.output.specs.Output.{Input, room_of, left_by}
use Rattle.output.specs.declared.Output.{Output}
use Rattle.c_answers.specs.Told.{layout_told}
use Rattle.c_answers.specs.declared.DkLayout.{DkLayout}
use Rattle.c_model.specs.Forms.{FormTold}
use Rattle.says.specs.Words as words
use Rattle.says.specs.Build.{Given, Lent, Outcome}
use Rattle.meets_build.specs.Theorems.Meets.{lent_of}
use Rattle.says.specs.Files.{Form}
use Rattle.says.specs.Form.{broken_at}
use Rattle.meets_form.specs.Laws.FileSays as file-says
use Rattle.meets_form.specs.Laws.FileSays.{FileSays}
use Rattle.meets_form.specs.Laws.FileSo as so
use Rattle.meets_form.specs.Laws.FileSo.{FileSo, file-so}
use Rattle.meets_form.specs.Laws.Read.{given_by, layout_is, input_of}

abbrev lent_so : out.Lent → Lent
lent_so l = record { image = l.image; addresses = l.addresses; offsets = l.offsets; sizes = l.sizes }

module _ (file : List ℕ) (small : Bytes file) (fill : ℕ) (page : Option ℕ) (old : Lent) (r : DkLayout) (new : Lent)
    (told : FormTold file fill page (lent_of old) r (lent_of new)) where
  abbrev pub outcome : Outcome
  outcome = record { answer = r; lent = new }

  -- a broken file
  broken-outcome : (i : ℕ) → form_of file ≡ Err (Malformed i) → outcome ≡ broken_at file fill old i
  broken-outcome i e =
      let answer : r ≡ (broken_at file fill old i).answer = told.answer
      ∙ ap (λ (f : Result Shape Refusal). layout_told (output_by file fill page (room_of (lent_of old)) f)) e in
      let left : lent_of new ≡ lent_of old = told.built.left
      ∙ ap (λ (f : Result Shape Refusal).
      let o = output_by file fill page (room_of (lent_of old)) f in
      left_by (file-banks.table_of file) (file_visits file o.passes) (lists_in file).values (lent_of old) o.build) e in
      ap₂ (λ (a : DkLayout) (l : out.Lent). record { answer = a; lent = lent_so l }) answer left

  -- the layout that a sound file says
  abbrev pub whole : Shape → Input
  whole = so.whole file small fill

  pub built-so : (s : Shape) → form_of file ≡ Ok s → file_output file fill page (room_of (lent_of old)) ≡ output_in page (whole s) (room_of (lent_of old))
  built-so s sound = ap (output_by file fill page (room_of (lent_of old))) sound

  pub left_so : (s : Shape) → form_of file ≡ Ok s
      → lent_of new ≡ left_by (file-banks.table_of file) (file_visits file (output_in page (whole s) (room_of (lent_of old))).passes) (lists_in file).values
      (lent_of old) (output_in page (whole s) (room_of (lent_of old))).build
  left_so s sound =
      told.built.left
      ∙ ap (λ (o : Output). left_by (file-banks.table_of file) (file_visits file o.passes) (lists_in file).values (lent_of old) o.build) (built-so s sound)

  -- ---- `Told` is what a call promises of a layout, `Says` what is said of it

  pub file-meets : (Told : Input → Type 0) → ((s : Shape) → form_of file ≡ Ok s → Told (whole s)) → (Says : Given → Outcome → Type 0)
      → ((f : Form) → Told (input_of f file fill) → Says (given_by f file fill) outcome) → FileSays file fill old Says outcome
  file-meets Told as-told Says meets = by (file-so file small fill)
    where
      by : FileSo file small fill → FileSays file fill old Says outcome
      by (so.broken {i = i} of b e) =
          file-says.broken of b (subst (words.Is (broken_at file fill old i)) (sym (broken-outcome i e)) words.is)
      by (so.sound {f = f} {s = s} of x e shape same) =
          file-says.laid of x (layout_is f file fill small) (meets f (subst Told same (as-told s e)))
