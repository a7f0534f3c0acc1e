-- What Ticket 7's equality leaves out. Document 02, Ticket 13: "Ticket 7's equality excepts a two-bank form 1 file that already has the shape, which comes
-- back as one bank, and a one-bank form 2 file, which comes back as the shape." Besides, a one-bank form 2 file of 4,096 nodes goes back and does not come
-- again, and a form 1 file whose banks need more bytes than form 2 may have does not go at all.
use Rattle.std.specs.Prelude.{true, false, List, ◌≡◌, refl, ℕ, ◌≤◌, ◌<◌, max, eqb, length, take, Result, Err}
use Rattle.std.proofs.Common.{ap, ◌∙◌, arith, eqb-true, ne_eqb}
use Rattle.std.proofs.lemmas.List.{length-map}
use Rattle.prelude.specs.Limits.{max_nodes}
use Rattle.prelude.specs.declared.Refusal.TheVariants.{Malformed}
use Rattle.prelude.specs.declared.Refusal.{Refusal}
use Rattle.form_fields.specs.Kind.{form1, form2, is1}
use Rattle.form_fields.specs.Contents.{Contents, written, Fits}
use Rattle.form_fields.specs.Whole.{contents_in}
use Rattle.form_rewrite.specs.Turning.{turned, widened, alone, shaped, shortened}
use Rattle.form_convert.specs.Convert.{drops_none}
use Rattle.form_rewrite.specs.Turning.{to_form2, to_form1}
use Rattle.form_convert.specs.Convert.{stray, out_after, ToForm2}
use Rattle.form_rewrite.specs.Laws.Fitting.{shortened-fits}
use Rattle.thm_conversions.specs.Theorems.RoundTrips.{widened-shaped}
use Rattle.thm_conversions.specs.Laws.ThereAndBack.{call-said}
use Rattle.thm_conversions.specs.Laws.Exceptions.{too_many}

module _ (d : Contents) (fits : Fits form2 d) (one : alone d ≡ true) where
  still : alone (shortened d) ≡ true
  still = ap (λ (n : ℕ). eqb n 1) (length-map d.banks (take 23)) ∙ one

  goes_back : to_form1 d ≡ shortened d
  goes_back =
      let plain = ne_eqb (length d.banks) 2 (λ e. omega (arith, e, eqb-true (length d.banks) 1 one)) in
      rw plain refl

  comes-again : to_form2 (shortened d) ≡ widened (shortened d)
  comes-again = rw still refl

  -- "a one-bank form 2 file, which comes back as the shape"
  pub one-bank-comes-back-as-shape : shaped (to_form2 (to_form1 d)) ≡ true
  one-bank-comes-back-as-shape =
      ap (λ (c : Contents). shaped c) (ap to_form2 goes_back ∙ comes-again) ∙ widened-shaped (shortened d) (shortened-fits d fits) still

  -- "4 past 4,096 nodes .. in file or result": a one-bank form 2 file that has all of them goes back, and does not come again.
  pub full-one-bank-not-again : length d.nodes ≡ max_nodes → length (written form1 (to_form1 d)) ≤ form1.longest
      → (old new : List ℕ) (answer : Result ℕ Refusal) → ToForm2 (written form1 (to_form1 d)) old answer new → (answer ≡ Err (Malformed 0)) × (new ≡ old)
  full-one-bank-not-again full short old new answer call =
      let c = shortened d in
      let here : ToForm2 (written form1 c) old answer new = rw goes_back at call in
      let low : length (written form1 c) ≤ form1.longest = rw goes_back at short in
      let more : max_nodes < max (length c.nodes) (length (widened c).nodes) = omega (arith, full, length-map c.nodes (turned 1)) in
      let done = call-said is1 to_form2 drops_none c (widened c) (shortened-fits d fits) low comes-again old new answer here
      ∙ too_many (max (length c.nodes) (length (widened c).nodes)) (length c.rows) (stray c) (length c.nodes) (length (written form2 (widened c)))
      form2.longest false (length old) more in
      (done, here.out ∙ ap (λ (a : Result ℕ Refusal). out_after a (written form2 (to_form2 (contents_in form1 (written form1 c)))) old) done)
