-- Which of the two a file is, broken or sound, in the definitions and in the sentences at once: a broken one breaks at one field in both, and what the
-- definitions read of a sound one is the layout that the sentences say.
use Rattle.std.specs.Prelude.{◌≡◌, refl, Bool, false, List, ℕ, eqb, length, get_or, Err, Ok, Result}
use Rattle.std.proofs.Math.Path.{ap}
use Rattle.std.proofs.Common.{◌∙◌, arith}
use Rattle.std.proofs.Math.Decide.{dec_le}
use borrow.Author.Tests.{eqb-true, eqb-false}
use Rattle.prelude.specs.declared.Refusal.{Refusal}
use Rattle.prelude.specs.Laws.Bools.{either}
use Rattle.prelude.specs.Pick.{pick}
use Rattle.prelude.specs.declared.Refusal.TheVariants.{Malformed}
use Rattle.form_fields.specs.declared.Kind.{Kind}
use Rattle.form_fields.specs.declared.Shape.{Shape}
use Rattle.form_fields.specs.Banks.{table_of}
use Rattle.form_fields.specs.Theorems.Faults.{old-reader-refuses}
use Rattle.form_fields.specs.Fields.{field_at}
use Rattle.form_fields.specs.Laws.Fields.{field-tag}
use Rattle.form_fields.specs.Kind.{form1, form2, begins2, kind_of}
use Rattle.form_fields.specs.Laws.Rest.{sound-file, form-long, form-head}
use Rattle.form_fields.specs.Lists.{kinds_of, operands_of, numbers_of, states_of, values_by}
use Rattle.form_fields.specs.Shape.{shape_in, form_in, form_of, row_count}
use Rattle.form_fields.specs.Whole.{Bytes, contents_in}
use Rattle.form_build.specs.Filed.{lists_in, choices_of}
use Rattle.nodes.specs.Lists.{lists}
use Rattle.output.specs.Output.{Input, input}
use Rattle.says.specs.Files.{Form, form-1, form-2, Sound, Broken}
use Rattle.says.specs.Form as says
use Rattle.says.specs.Form.{OfForm}
use Rattle.meets_form.specs.Laws.Breaks.{form-broken}
use Rattle.meets_form.specs.Laws.Read.{input_in, input_of, input-is}
use Rattle.meets_form.specs.Laws.Written.{kind, held, form-sound}

module _ (file : List ℕ) (small : Bytes file) (fill : ℕ) where
  -- the layout that a sound file says
  abbrev pub whole : Shape → Input
  whole s = input (table_of file) (lists_in file) (choices_of s fill)

  pub data FileSo : Type 0 where
    broken : {f : Form} {i : ℕ} → OfForm file f → Broken f file i → form_of file ≡ Err (Malformed i) → FileSo
    sound : {f : Form} {s : Shape} → OfForm file f → Sound f file (held (contents_in (kind f) file)) → form_of file ≡ Ok s → s ≡ shape_in (kind f) file
        → whole s ≡ input_of f file fill → FileSo

  -- by the form that the file begins as
  module _ (f : Form) (of : OfForm file f) (same : kind_of file ≡ kind f) where
    form-same : form_of file ≡ form_in (kind f) file
    form-same = ap (λ (q : Kind). form_in q file) same

    by_form : (g : Result Shape Refusal) → form_in (kind f) file ≡ g → FileSo
    by_form (Err why) e =
        let b = form-broken f file why e in
        broken of b.says (form-same ∙ e ∙ ap Err b.refusal)
    by_form (Ok s) e =
        let x = form-sound f file small s e in
        let formed : form_of file ≡ Ok s = form-same ∙ e in
        let shape : s ≡ shape_in (kind f) file = (sound-file (kind f) file s e).shape in
        let whole_is : whole s ≡ input_of f file fill =
        ap (λ (g : Result Shape Refusal). input (table_of file)
        (lists (kinds_of file) (operands_of file) (numbers_of file) (states_of file) (row_count file) (values_by file g)) (choices_of s fill)) formed
        ∙ ap (λ (q : Kind). input_in f file fill q s) same ∙ ap (input_in f file fill (kind f)) shape ∙ input-is f file fill x in
        sound of x formed shape whole_is

  not-headed : (get_or file 0 0 ≡ 16 → ⊥) → begins2 file ≡ false
  unfolding begins2
  not-headed other =
      either (field_at file 16 1 0) (λ t. absurd (other (field-tag file 16 1 0 t))) (λ t. rw t)

  -- a file that begins with 16 but not with form 2's head
  headless : begins2 file ≡ false → form_in form2 file ≡ Err (Malformed 0)
  headless e =
      elim (dec_le (length file) 65536) [
        | yes short ↦ form-head form2 file short e
        | no long ↦ form-long form2 file (omega arith)
      ]

  pub file-so : FileSo
  unfolding kind_of
  file-so =
      either (eqb (get_or file 0 0) 16)
      (λ t.
      let first = eqb-true (get_or file 0 0) 16 t in
      either (begins2 file)
      (λ h. by_form form-2 (says.of-2 first) (ap (λ (b : Bool). pick b form2 form1) h) (form_in form2 file) refl)
      (λ h.
      let b = form-broken form-2 file (Malformed 0) (headless h) in
      broken (says.of-2 first) b.says
      (ap (λ (c : Bool). form_in (pick c form2 form1) file) h ∙ old-reader-refuses file first ∙ ap Err b.refusal)))
      (λ t.
      let other = eqb-false (get_or file 0 0) 16 t in
      by_form form-1 (says.of-1 other) (ap (λ (b : Bool). pick b form2 form1) (not-headed other)) (form_in form1 file) refl)
