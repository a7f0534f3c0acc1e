-- Two calls of the converter, there and back, by their contracts. Document 02, Ticket 7: "Form 1 to 2 to 1 gives the same bytes; form 2 to 1 to 2 does too,
-- for every file that can go back", with Ticket 13's exceptions: "a two-bank form 1 file that already has the shape, which comes back as one bank, and a
-- one-bank form 2 file, which comes back as the shape". The second call is not refused where the file fits what is lent.
use Rattle.std.specs.Prelude.{true, false, List, ◌++◌, ◌≡◌, refl, ℕ, ◌≤◌, length, take, drop, Ok, Result}
use Rattle.std.proofs.Common.{ap, subst, ◌∙◌, arith}
use Rattle.prelude.specs.declared.Refusal.{Refusal}
use Rattle.bankdef.specs.Search.{first_where}
use Rattle.form_fields.specs.Kind.{form1, form2, is1, is2}
use Rattle.form_fields.specs.Contents.{written}
use Rattle.form_fields.specs.Whole.{contents_in, Bytes}
use Rattle.form_rewrite.specs.Turning.{strays, lengthened, alone, shaped, drops_bit}
use Rattle.form_convert.specs.Convert.{drops_none}
use Rattle.form_rewrite.specs.Turning.{to_form2, to_form1}
use Rattle.form_convert.specs.Convert.{ToForm2, ToForm1}
use Rattle.form_rewrite.specs.Theorems.Fitting.{form2-fits, form1-fits}
use Rattle.thm_conversions.specs.Theorems.RoundTrips.{there_and_back, back-and-there}
use Rattle.thm_conversions.specs.Theorems.Conversions.{turned-file}
use Rattle.thm_conversions.specs.Laws.ThereAndBack.{Fine, first-within, makes1, makes2, second_call, stray-none}

-- "Form 1 to 2 to 1 gives the same bytes"
pub to-form2-and-back : (file out mid : List ℕ) (n : ℕ) → Bytes file → ToForm2 file out (Ok n) mid
    → (alone (contents_in form1 file) ≡ false → shaped (lengthened (contents_in form1 file)) ≡ false)
    → (old new : List ℕ) (answer : Result ℕ Refusal) → length file ≤ length old → ToForm1 (take n mid) old answer new
    → (answer ≡ Ok (length file)) × (new ≡ file ++ drop (length file) old)
to-form2-and-back file out mid n bytes call other old new answer room again =
    let c = contents_in form1 file in
    let d = to_form2 c in
    let t = turned-file is1 to_form2 drops_none file out n mid bytes call in
    let m = makes2 c t.fits in
    let stays : alone c ≡ true → first_where (strays 0) c.nodes ≡ length c.nodes =
    λ e.
    let low : length c.nodes ≤ first_where (strays 0) c.nodes = rw e at t.answer.none-strays in
    omega (arith, low, first-within (strays 0) c.nodes) in
    let same : length (written form1 c) ≡ length file = ap length t.is in
    let ok : Fine form1 d c (drops_bit d) (length old) =
    record {
      few = omega (arith, t.answer.few);
      few-rows = omega (arith, m.rows, t.answer.few-rows);
      none = stray-none d m.more;
      short = t.short;
      kept = m.clear;
      fits = omega (arith, same, room);
    } in
    let p = second_call is2 to_form1 drops_bit d c (form2-fits c t.fits) t.answer.short (there_and_back c t.fits stays other) old new answer ok
    (subst (λ (f : List ℕ). ToForm1 f old answer new) t.made again) in (
      p.0 ∙ ap Ok same,
      p.1 ∙ ap (λ (f : List ℕ). f ++ drop (length f) old) t.is,
    )

-- "form 2 to 1 to 2 does too, for every file that can go back", but for one with one bank
pub to-form1-and-again : (file out mid : List ℕ) (n : ℕ) → Bytes file → ToForm1 file out (Ok n) mid → alone (contents_in form2 file) ≡ false
    → (old new : List ℕ) (answer : Result ℕ Refusal) → length file ≤ length old → ToForm2 (take n mid) old answer new
    → (answer ≡ Ok (length file)) × (new ≡ file ++ drop (length file) old)
to-form1-and-again file out mid n bytes call more old new answer room again =
    let d = contents_in form2 file in
    let c = to_form1 d in
    let t = turned-file is2 to_form1 drops_bit file out n mid bytes call in
    let w = makes1 d more in
    let same : length (written form2 d) ≡ length file = ap length t.is in
    let ok : Fine form2 c d false (length old) =
    record {
      few = omega (arith, t.answer.few);
      few-rows = omega (arith, w.rows, t.answer.few-rows);
      none = w.none;
      short = t.short;
      kept = refl;
      fits = omega (arith, same, room);
    } in
    let p = second_call is1 to_form2 drops_none c d (form1-fits d t.fits) t.answer.short (back-and-there d t.fits t.answer.none_dropped more) old
    new answer ok (subst (λ (f : List ℕ). ToForm2 f old answer new) t.made again) in (
      p.0 ∙ ap Ok same,
      p.1 ∙ ap (λ (f : List ℕ). f ++ drop (length f) old) t.is,
    )
