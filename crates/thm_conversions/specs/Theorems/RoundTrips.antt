-- "Form 1 to 2 to 1 gives the same bytes; form 2 to 1 to 2 does too, for every file that can go back." Ticket 13: "Ticket 7's equality excepts a two-bank
-- form 1 file that already has the shape, which comes back as one bank, and a one-bank form 2 file, which comes back as the shape."
use Rattle.std.specs.Prelude.{true, false, List, [], ◌∷◌, ◌++◌, map, ◌≡◌, refl, ℕ, suc, ◌*◌, eqb, length, get_or, take, drop}
use Rattle.std.proofs.Common.{sym, ap, ap₂, ◌∙◌, eq-eqb, eqb-true}
use Rattle.std.proofs.lemmas.List.{length-map}
use Rattle.std.proofs.lemmas.Bool.{not-false}
use Rattle.prelude.specs.Laws.Bools.{either, both}
use Rattle.bankdef.specs.Search.{first_where}
use Rattle.form_fields.specs.declared.Shape.{Shape}
use Rattle.form_fields.specs.Kind.{form1, form2}
use Rattle.form_fields.specs.Contents.{Contents, Long, BankFits, Fits}
use Rattle.form_fields.specs.Whole.{Bytes}
use Rattle.form_rewrite.specs.Turning.{is_switch, strays, turned, zeros, lengthened, widened, alone, to_form2, shortened, narrowed}
use Rattle.form_rewrite.specs.Turning.{to_form1}
use Rattle.form_rewrite.specs.Turning.{all_of, all_zero, same, bare, starts_zero, shaped, bit_clear, drops_bit}
use Rattle.form_rewrite.specs.Laws.Fitting.{shape_two, shape-some}
use Rattle.thm_conversions.specs.Laws.RoundTrips.{all_made, bare-again, both-fit, each-fails, each_holds, each_two, first-of}
use Rattle.thm_conversions.specs.Laws.RoundTrips.{last_byte, longer-back, map_back, nodes-again, none_made, one_only, row-again}
use Rattle.thm_conversions.specs.Laws.RoundTrips.{row_back, shorter_back, starts, turned-back, turned-fits, two-only, widened-bare}

-- What a one-bank file becomes has the shape,
pub widened-shaped : (c : Contents) → Fits form1 c → alone c ≡ true → shaped (widened c) ≡ true
unfolding first_where
widened-shaped c fits one =
    let b = get_or c.banks 0 [] in
    let long = (first-of c.banks (eqb-true (length c.banks) 1 one) fits.of-banks).0 in
    let nodes : first_where (strays 1) (map (turned 1) c.nodes) ≡ length (map (turned 1) c.nodes) = none_made (strays 1) (turned 1) (turned-fits 1) c.nodes in
    let rows : all_of starts_zero (map (λ (row : List ℕ). zeros 5 ++ row) c.rows) ≡ true = all_made starts_zero (λ (row : List ℕ). zeros 5 ++ row) starts
    c.rows in
    rw (
      widened-bare b long,
      eq-eqb (suc (first_where (strays 1) (map (turned 1) c.nodes))) (suc (length (map (turned 1) c.nodes))) (ap suc nodes),
      rows,
    ) refl

-- and comes back as it was.
pub narrowed-back : (c : Contents) → Fits form1 c → alone c ≡ true → first_where (strays 0) c.nodes ≡ length c.nodes → narrowed (widened c) ≡ c
narrowed-back c fits one none =
    let e = eqb-true (length c.banks) 1 one in
    let b = get_or c.banks 0 [] in
    let banks = ap (λ (l : List ℕ). l ∷ []) (longer-back b (first-of c.banks e fits.of-banks)) ∙ sym (one_only c.banks e) in
    let nodes = map_back (λ (n : List ℕ). (length n ≡ 5) × (strays 0 n ≡ false)) (turned 0) (turned 1) (turned-back 0 1) c.nodes
    (each_two (Long 5) (λ (n : List ℕ). strays 0 n ≡ false) c.nodes fits.of-nodes (each-fails (strays 0) c.nodes none)) in
    let rows = map_back (Long (5 * length c.nodes)) (drop 5) (λ (row : List ℕ). zeros 5 ++ row) (λ row p. row_back row) c.rows fits.of-rows in
    λ i. record { banks = banks i; nodes = nodes i; rows = rows i; values = c.values; limit = c.limit }

-- Another file comes back as it was, whatever its banks.
pub shortened-back : (c : Contents) → Fits form1 c → shortened (lengthened c) ≡ c
shortened-back c fits =
    let banks = map_back (BankFits form1) (take 23) (λ (b : List ℕ). b ++ zeros 1) longer-back c.banks fits.of-banks in
    λ i. record { banks = banks i; nodes = c.nodes; rows = c.rows; values = c.values; limit = c.limit }

-- "Form 1 to 2 to 1": no switch of a one-bank file strays (such a file is refused), and a file with more banks does not already have the shape.
pub there_and_back : (c : Contents) → Fits form1 c → (alone c ≡ true → first_where (strays 0) c.nodes ≡ length c.nodes)
    → (alone c ≡ false → shaped (lengthened c) ≡ false) → to_form1 (to_form2 c) ≡ c
there_and_back c fits none other =
    either (alone c)
    (λ e. rw e (rw (widened-shaped c fits e) (narrowed-back c fits e (none e))))
    (λ e. rw e (rw (other e) (shortened-back c fits)))

-- Another file than a one-bank one comes again as it was, where no fill bit is one.
pub lengthened-again : (d : Contents) → Fits form2 d → drops_bit d ≡ false → lengthened (shortened d) ≡ d
lengthened-again d fits none =
    let clear = each_holds bit_clear d.banks (not-false (all_of bit_clear d.banks) none) in
    let banks = map_back (λ (b : List ℕ). BankFits form2 b × (bit_clear b ≡ true)) (λ (b : List ℕ). b ++ zeros 1) (take 23) shorter_back d.banks
    (each_two (BankFits form2) (λ (b : List ℕ). bit_clear b ≡ true) d.banks fits.of-banks clear) in
    λ i. record { banks = banks i; nodes = d.nodes; rows = d.rows; values = d.values; limit = d.limit }

-- A file with the shape comes again as it was.
pub widened-again : (d : Contents) → Fits form2 d → shaped d ≡ true → widened (narrowed d) ≡ d
widened-again d fits e =
    let b = get_or d.banks 0 [] in
    let x = get_or d.banks 1 [] in
    let two = shape_two d e in
    let some = shape-some d e in
    let p₁ = (both (eqb (length d.banks) 2) _ e).1 in
    let p₂ = both (bare b x) _ p₁ in
    let p₃ = both (is_switch (get_or d.nodes 0 [])) _ p₂.1 in
    let p₄ = both (eqb (first_where (strays 1) d.nodes) (length d.nodes)) (all_of starts_zero d.rows) p₃.1 in
    let q = both (same (take 10 b) (take 10 x)) _ p₂.0 in
    let z = both (all_zero (drop 10 b)) (eqb (get_or x 23 0) 0) q.1 in
    let long = both-fit d.banks two fits.of-banks in
    let first = bare-again b x long.0 q.0 z.0 in
    let second = last_byte x long.1 (eqb-true (get_or x 23 0) 0 z.1) in
    let banks = ap₂ (λ (k l : List ℕ). k ∷ l ∷ []) first second ∙ sym (two-only d.banks two) in
    let none = each-fails (strays 1) d.nodes (eqb-true (first_where (strays 1) d.nodes) (length d.nodes) p₄.0) in
    let nodes = nodes-again d.nodes fits.of-nodes none p₃.0 in
    let n = length d.nodes in
    let rows = map_back (λ (row : List ℕ). (length row ≡ 5 * n) × (starts_zero row ≡ true)) (λ (row : List ℕ). zeros 5 ++ row) (drop 5)
    (λ row g. row-again n row some g) d.rows
    (each_two (Long (5 * n)) (λ (row : List ℕ). starts_zero row ≡ true) d.rows fits.of-rows (each_holds starts_zero d.rows p₄.1)) in
    λ i. record { banks = banks i; nodes = nodes i; rows = rows i; values = d.values; limit = d.limit }

-- "form 2 to 1 to 2", "for every file that can go back", but for one with one bank.
pub back-and-there : (d : Contents) → Fits form2 d → drops_bit d ≡ false → alone d ≡ false → to_form2 (to_form1 d) ≡ d
back-and-there d fits none more =
    either (shaped d)
    (λ e. rw e (widened-again d fits e))
    (λ e.
    let still : alone (shortened d) ≡ false = ap (λ (n : ℕ). eqb n 1) (length-map d.banks (take 23)) ∙ more in
    rw e (rw still (lengthened-again d fits none)))

-- ---- the same of bytes
