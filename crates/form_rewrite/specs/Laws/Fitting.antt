-- Laws that Theorems/Fitting rests on.
use Rattle.std.specs.Prelude.{Bool, true, false, List, [], ◌∷◌, ◌++◌, ◌≡◌, refl, ℕ, ◌+◌, ◌*◌, ◌<◌, eqb, leb, length, get_or, take, drop}
use Rattle.std.proofs.Common.{sym, ap, ◌∙◌, mul-add, arith, length-append, length-drop, length-take-le, get_or-take, get_or-append-add, eqb-true}
use Rattle.std.proofs.lemmas.List.{length-map, get_or_at}
use Rattle.std.proofs.Math.ListN.{get_or-append}
use Rattle.prelude.specs.Laws.Bools.{both, clash}
use Rattle.prelude.specs.Pick.{pick}
use Rattle.form_fields.specs.Kind.{form1, form2, is1, is2}
use Rattle.form_fields.specs.Contents.{Contents, written, Each, Long, BankFits, Fits}
use Rattle.form_fields.proofs.RoundTripLaws.{each_map, written-length}
use Rattle.form_rewrite.specs.Turning.{switch_to, is_switch, turned, zeros, bare, shaped, shortened, narrowed}

pub turned-length : (bank : ℕ) (node : List ℕ) → length node ≡ 5 → length (turned bank node) ≡ 5
turned-length bank node e = go (is_switch node)
  where
    go : (t : Bool) → length (pick t (switch_to bank) node) ≡ 5
    go true = refl
    go false = e

-- ---- to form 2

pub longer-fits : (b : List ℕ) → BankFits form1 b → BankFits form2 (b ++ zeros 1)
longer-fits b fits =
    let flags : get_or (b ++ zeros 1) 22 0 ≡ get_or b 22 0 = get_or-append b (zeros 1) 0 22 (omega (arith, fits.0)) in
    let bit : get_or (b ++ zeros 1) 23 0 ≡ 0 = get_or_at b 0 [] 0 23 fits.0 in
    (length-append b (zeros 1) ∙ ap (λ (n : ℕ). n + 1) fits.0, rw (flags, bit, fits.1) refl)

pub first_fits : (b : List ℕ) → BankFits form1 b → BankFits form2 (take 10 b ++ zeros 14)
first_fits b fits =
    let ten : length (take 10 b) ≡ 10 = length-take-le 10 b (omega (arith, fits.0)) in
    let at : (i : ℕ) → get_or (take 10 b ++ zeros 14) (10 + i) 0 ≡ get_or (zeros 14) i 0 =
    λ i. ap (λ (n : ℕ). get_or (take 10 b ++ zeros 14) (n + i) 0) (sym ten) ∙ get_or-append-add (take 10 b) (zeros 14) i 0 in
    (length-append (take 10 b) (zeros 14) ∙ ap (λ (n : ℕ). n + 14) ten, rw (at 12, at 13) refl)

pub first-bank : (banks : List (List ℕ)) → length banks ≡ 1 → Each (BankFits form1) banks → BankFits form1 (get_or banks 0 [])
first-bank [] e fits = absurd (omega (arith, e))
first-bank (b ∷ banks) e fits = fits.0

-- ---- back to form 1

shorter-fits : (b : List ℕ) → BankFits form2 b → BankFits form1 (take 23 b)
shorter-fits b fits =
    let flags : get_or (take 23 b) 22 0 ≡ get_or b 22 0 = get_or-take 23 b 22 0 (omega arith) in
    (length-take-le 23 b (omega (arith, fits.0)), rw flags (both (leb (get_or b 22 0) 15) (leb (get_or b 23 0) 1) fits.1).0)

second-bank : (banks : List (List ℕ)) → length banks ≡ 2 → Each (BankFits form2) banks → BankFits form2 (get_or banks 1 [])
second-bank [] e fits = absurd (omega (arith, e))
second-bank (a ∷ []) e fits = absurd (omega (arith, e))
second-bank (a ∷ b ∷ banks) e fits = fits.1.0

each-rest : {X : Type 0} (P : X → Type 0) (xs : List X) → Each P xs → Each P (drop 1 xs)
each-rest P [] e = tt
each-rest P (x ∷ xs) e = e.1

module _ (c : Contents) (fits : Fits form2 c) where
  pub shortened-fits : Fits form1 (shortened c)
  shortened-fits =
      record {
        of-banks = each_map (BankFits form2) (BankFits form1) (take 23) shorter-fits c.banks fits.of-banks;
        of-nodes = fits.of-nodes;
        of-rows = fits.of-rows;
      }

  pub shortened-long : length (written form1 (shortened c)) + 4 + length c.banks ≡ length (written form2 c)
  shortened-long =
      omega (
        arith,
        written-length is2 c fits,
        written-length is1 (shortened c) shortened-fits,
        length-map c.banks (take 23),
      )

  module _ (two : length c.banks ≡ 2) (some : 0 < length c.nodes) where
    pub rest-long : length (narrowed c).nodes + 1 ≡ length c.nodes
    rest-long = omega (arith, some, length-map (drop 1 c.nodes) (turned 0), length-drop 1 c.nodes)

    pub narrowed-fits : Fits form1 (narrowed c)
    narrowed-fits =
        record {
          of-banks = (shorter-fits (get_or c.banks 1 []) (second-bank c.banks two fits.of-banks), tt);
          of-nodes = each_map (Long 5) (Long 5) (turned 0) (turned-length 0) (drop 1 c.nodes) (each-rest (Long 5) c.nodes fits.of-nodes);
          of-rows = each_map (Long (5 * length c.nodes)) (Long (5 * length (narrowed c).nodes)) (drop 5)
              (λ row e. omega (arith, e, rest-long, length-drop 5 row)) c.rows fits.of-rows;
        }

    pub narrowed-long : length (written form1 (narrowed c)) + 40 + 5 * length c.rows ≡ length (written form2 c)
    narrowed-long =
        let n = length c.nodes in
        let m = length (narrowed c).nodes in
        let r = length c.rows in
        let same : length (narrowed c).rows ≡ r = length-map c.rows (drop 5) in
        let more : r * (3 + 5 * n) ≡ r * (3 + 5 * m) + r * 5 =
        ap (λ (k : ℕ). r * k) {x = 3 + 5 * n} {y = 3 + 5 * m + 5} (omega (arith, rest-long)) ∙ mul-add r (3 + 5 * m) 5 in
        let rows : length (narrowed c).rows * (3 + 5 * m) ≡ r * (3 + 5 * m) = ap (λ (k : ℕ). k * (3 + 5 * m)) same in
        omega (arith, two, more, rows, rest-long, written-length is2 c fits, written-length is1 (narrowed c) narrowed-fits)

-- A shape has two banks and a first node.
pub shape_two : (c : Contents) → shaped c ≡ true → length c.banks ≡ 2
shape_two c e = eqb-true (length c.banks) 2 (both (eqb (length c.banks) 2) _ e).0

pub shape-some : (c : Contents) → shaped c ≡ true → 0 < length c.nodes
shape-some c e = go c.nodes (both (is_switch (get_or c.nodes 0 [])) _ (both (bare (get_or c.banks 0 []) (get_or c.banks 1 [])) _ (both (eqb (length
    c.banks) 2) _ e).1).1).0
  where
    go : (nodes : List (List ℕ)) → is_switch (get_or nodes 0 []) ≡ true → 0 < length nodes
    go [] f = absurd (clash f refl)
    go (n ∷ nodes) f = omega arith
