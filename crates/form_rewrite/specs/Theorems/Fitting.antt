-- Theorems about what Fitting defines.
use Rattle.std.specs.Prelude.{List, [], ◌++◌, ◌≡◌, refl, ℕ, suc, ◌+◌, ◌*◌, length, get_or}
use Rattle.std.proofs.Common.{ap, ap₂, ◌∙◌, mul-add, arith, length-append, eqb-true}
use Rattle.std.proofs.lemmas.List.{length-map}
use Rattle.form_fields.specs.Laws.Fields.{by-test}
use Rattle.form_fields.specs.Kind.{form1, form2, is1, is2}
use Rattle.form_fields.specs.Contents.{Contents, written, Long, BankFits, Fits}
use Rattle.form_fields.proofs.RoundTripLaws.{each_map, written-length}
use Rattle.form_rewrite.specs.Turning.{turned, zeros, lengthened, widened, alone, to_form2, shaped}
use Rattle.form_rewrite.specs.Turning.{to_form1}
use Rattle.form_rewrite.specs.Laws.Fitting.{first-bank, first_fits, longer-fits, narrowed-fits, shape-some, shape_two, shortened-fits, turned-length}

module _ (c : Contents) (fits : Fits form1 c) where
  pub lengthened-fits : Fits form2 (lengthened c)
  lengthened-fits =
      record {
        of-banks = each_map (BankFits form1) (BankFits form2) (λ (b : List ℕ). b ++ zeros 1) longer-fits c.banks fits.of-banks;
        of-nodes = fits.of-nodes;
        of-rows = fits.of-rows;
      }

  pub lengthened-long : length (written form2 (lengthened c)) ≡ length (written form1 c) + 4 + length c.banks
  lengthened-long =
      omega (
        arith,
        written-length is1 c fits,
        written-length is2 (lengthened c) lengthened-fits,
        length-map c.banks (λ (b : List ℕ). b ++ zeros 1),
      )

  module _ (one : length c.banks ≡ 1) where
    pub widened-fits : Fits form2 (widened c)
    widened-fits =
        let b = first-bank c.banks one fits.of-banks in
        record {
          of-banks = (first_fits (get_or c.banks 0 []) b, (longer-fits (get_or c.banks 0 []) b, tt));
          of-nodes = (refl, each_map (Long 5) (Long 5) (turned 1) (turned-length 1) c.nodes fits.of-nodes);
          of-rows = each_map (Long (5 * length c.nodes)) (Long (5 * length (widened c).nodes)) (λ (row : List ℕ). zeros 5 ++ row)
              (λ row e. omega (arith, e, length-append (zeros 5) row, length-map c.nodes (turned 1))) c.rows fits.of-rows;
        }

    pub widened-long : length (written form2 (widened c)) ≡ length (written form1 c) + 40 + 5 * length c.rows
    widened-long =
        let n = length c.nodes in
        let r = length c.rows in
        let more : length (widened c).rows * (3 + 5 * length (widened c).nodes) ≡ r * (3 + 5 * n) + r * 5 =
        ap₂ (λ (a b : ℕ). a * (3 + 5 * suc b)) (length-map c.rows (λ (row : List ℕ). zeros 5 ++ row)) (length-map c.nodes (turned 1))
        ∙ ap (λ (m : ℕ). r * m) {x = 3 + 5 * suc n} {y = 3 + 5 * n + 5} (omega arith) ∙ mul-add r (3 + 5 * n) 5 in
        omega (
          arith,
          one,
          more,
          length-map c.nodes (turned 1),
          written-length is1 c fits,
          written-length is2 (widened c) widened-fits,
        )

  -- Whatever the number of banks.
  pub form2-fits : Fits form2 (to_form2 c)
  form2-fits = by-test (alone c) (λ e. rw e (of-one (eqb-true (length c.banks) 1 e))) (λ e. rw e lengthened-fits)
    where
      of-one : length c.banks ≡ 1 → Fits form2 (widened c)
      of-one one =
          let b = first-bank c.banks one fits.of-banks in
          record {
            of-banks = (first_fits (get_or c.banks 0 []) b, (longer-fits (get_or c.banks 0 []) b, tt));
            of-nodes = (refl, each_map (Long 5) (Long 5) (turned 1) (turned-length 1) c.nodes fits.of-nodes);
            of-rows = each_map (Long (5 * length c.nodes)) (Long (5 * length (widened c).nodes)) (λ (row : List ℕ). zeros 5 ++ row)
                (λ row e. omega (arith, e, length-append (zeros 5) row, length-map c.nodes (turned 1))) c.rows fits.of-rows;
          }

pub form1-fits : (c : Contents) → Fits form2 c → Fits form1 (to_form1 c)
form1-fits c fits =
    by-test (shaped c) (λ e. rw e (narrowed-fits c fits (shape_two c e) (shape-some c e))) (λ e. rw e (shortened-fits c fits))
