-- A form 2 file with the shape of Ticket 13, converted back. "The way back takes exactly that shape to the one-bank file": the build of the one-bank file
-- leaves everything lent as the build of the file with the shape does, and their answers are one but for the places.
use Rattle.std.specs.Prelude.{true, List, ◌≡◌, refl, ℕ, ◌≤◌, length, take, drop, Ok}
use Rattle.std.proofs.Common.{sym, ap, subst, ◌∙◌, arith}
use Rattle.prelude.specs.Limits.{max_nodes}
use Rattle.form_fields.specs.Kind.{form1, form2, is2}
use Rattle.form_fields.specs.Contents.{Contents, written, Fits}
use Rattle.form_fields.specs.Whole.{contents_in, Bytes}
use Rattle.form_rewrite.specs.Turning.{shaped, narrowed, widened, drops_bit, to_form1}
use Rattle.form_convert.specs.Convert.{ToForm1}
use Rattle.form_rewrite.specs.Laws.Fitting.{narrowed-fits, rest-long, shape_two, shape-some}
use Rattle.thm_conversions.specs.Theorems.RoundTrips.{widened-again}
use Rattle.thm_conversions.specs.Theorems.Conversions.{turned-file}
use Rattle.thm_conversions.specs.Laws.OneBank.{Single}
use Rattle.thm_conversions.specs.Laws.Shaped.{none-stray}

module _ (d : Contents) (fits : Fits form2 d) (shape : shaped d ≡ true) (few : length d.nodes ≤ max_nodes)
    (short : length (written form2 d) ≤ form2.longest) (short1 : length (written form1 (narrowed d)) ≤ form1.longest) where
  pub narrowed-single : Single (narrowed d)
  narrowed-single =
      let two = shape_two d shape in
      let some = shape-some d shape in
      record {
        fits = narrowed-fits d fits two some;
        one = refl;
        few = omega (arith, few, rest-long d fits two some);
        none = none-stray (drop 1 d.nodes);
        short = short1;
        short2 = subst (λ (e : Contents). length (written form2 e) ≤ form2.longest) (sym (widened-again d fits shape)) short;
      }

-- What is known of a file with the shape that was converted back: what was written is the file of contents with one bank, and the file given is that of what
-- they become.
pub converted-back-single : (file out : List ℕ) (n : ℕ) (new : List ℕ) → Bytes file → ToForm1 file out (Ok n) new
    → shaped (contents_in form2 file) ≡ true
    → Single (narrowed (contents_in form2 file)) × (take n new ≡ written form1 (narrowed (contents_in form2 file)))
    × (file ≡ written form2 (widened (narrowed (contents_in form2 file))))
converted-back-single file out n new bytes call shape =
    let d = contents_in form2 file in
    let t = turned-file is2 to_form1 drops_bit file out n new bytes call in
    let becomes : to_form1 d ≡ narrowed d = rw shape refl in
    let short1 : length (written form1 (narrowed d)) ≤ form1.longest = rw becomes at t.answer.short in (
      narrowed-single d t.fits shape (omega (arith, t.answer.few)) t.short short1,
      t.made ∙ ap (written form1) becomes,
      sym t.is ∙ ap (written form2) (sym (widened-again d t.fits shape)),
    )
