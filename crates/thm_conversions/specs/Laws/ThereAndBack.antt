-- Laws that Theorems/ThereAndBack rests on.
use Rattle.std.specs.Prelude.{Bool, true, false, not, ◌&&◌, List, [], ◌∷◌, ◌++◌, map, ◌≡◌, refl, ℕ, suc, ◌+◌, ◌≤◌, max, eqb, length, get_or, take, drop, Ok, Result}
use Rattle.std.proofs.Common.{sym, ap, ap₂, ◌∙◌, arith, le-ltb, eqb-true, eq-eqb, length-take-le, get_or-append-add}
use Rattle.std.proofs.lemmas.List.{length-map, get_or_at}
use Rattle.prelude.specs.Limits.{max_nodes, max_rows}
use Rattle.prelude.specs.Pick.{pick}
use Rattle.prelude.specs.declared.Refusal.{Refusal}
use Rattle.bankdef.specs.Search.{first_where}
use Rattle.form_fields.specs.declared.Kind.{Kind}
use Rattle.form_fields.specs.Kind.{Known, form1}
use Rattle.form_fields.specs.Contents.{Contents, written, Each, BankFits, Fits}
use Rattle.form_fields.proofs.RoundTripLaws.{written-sound}
use Rattle.form_fields.specs.Whole.{contents_in}
use Rattle.form_fields.proofs.Whole.{contents-back}
use Rattle.form_fields.specs.declared.Shape.{Shape}
use Rattle.form_rewrite.specs.Turning.{zeros, lengthened, widened, alone, shaped, shortened, narrowed, all_of, bit_clear, drops_bit}
use Rattle.form_rewrite.specs.Turning.{to_form2, to_form1}
use Rattle.form_convert.specs.Convert.{stray, answer_of, answer_for, answer_by, out_after, Converts}
use Rattle.thm_conversions.specs.Laws.Shaped.{none-stray}

-- ---- when a call is not refused

converts-when : (nodes rows first count size longest : ℕ) (drops : Bool) (room : ℕ) → nodes ≤ max_nodes → rows ≤ max_rows → count ≤ first → size ≤ longest
    → drops ≡ false → size ≤ room → answer_of nodes rows first count size longest drops room ≡ Ok size
unfolding answer_of
converts-when nodes rows first count size longest drops room a b c d e f =
    rw (le-ltb max_nodes nodes a, le-ltb max_rows rows b, le-ltb first count c, le-ltb longest size d, e, le-ltb room size f) refl

-- What is asked of contents d that become c in the form `to`.
pub record Fine (to : Kind) (d c : Contents) (drops : Bool) (room : ℕ) : Type 0 where
  pub few : max (length d.nodes) (length c.nodes) ≤ max_nodes
  pub few-rows : length d.rows ≤ max_rows
  pub none : length d.nodes ≤ stray d
  pub short : length (written to c) ≤ to.longest
  pub kept : drops ≡ false
  pub fits : length (written to c) ≤ room

module _ {from to : Kind} (known : Known from) (turn : Contents → Contents) (drops : Contents → Bool) (d c : Contents) (fits : Fits from d)
    (short : length (written from d) ≤ from.longest) (becomes : turn d ≡ c) where
  -- a call on the file of contents that fit answers of them and of c, which they become
  pub call-said : (old new : List ℕ) (answer : Result ℕ Refusal) → Converts from to turn drops (written from d) old answer new
      → answer ≡ answer_for to d c (drops d) (length old)
  call-said old new answer p =
      let file = written from d in
      p.is
      ∙ ap (λ (f : Result Shape Refusal). answer_by to f (contents_in from file) (turn (contents_in from file)) (drops (contents_in from file)) (length old))
      (written-sound known d fits short)
      ∙ ap (λ (x : Contents). answer_for to x (turn x) (drops x) (length old)) (contents-back known d fits)
      ∙ ap (λ (x : Contents). answer_for to d x (drops d) (length old)) becomes

  -- and where nothing is against it, it answers the length of c's file and writes that
  pub second_call : (old new : List ℕ) (answer : Result ℕ Refusal) → Fine to d c (drops d) (length old) → Converts from to turn drops (written from d) old answer new
      → (answer ≡ Ok (length (written to c))) × (new ≡ written to c ++ drop (length (written to c)) old)
  second_call old new answer ok p =
      let file = written from d in
      let done = call-said old new answer p
      ∙ converts-when (max (length d.nodes) (length c.nodes)) (length d.rows) (stray d) (length d.nodes) (length (written to c)) to.longest
      (drops d) (length old) ok.few ok.few-rows ok.none ok.short ok.kept ok.fits in (
        done,
        p.out
            ∙ ap (λ (a : Result ℕ Refusal). out_after a (written to (turn (contents_in from file))) old) done
            ∙ ap (λ (x : Contents). written to x ++ drop (length (written to x)) old) (ap turn (contents-back known d fits) ∙ becomes),
      )

-- ---- what to_form2 makes has not one bank, and no fill bit of one

first-of : (banks : List (List ℕ)) → length banks ≡ 1 → Each (BankFits form1) banks → length (get_or banks 0 []) ≡ 23
first-of [] e fits = absurd (omega (arith, e))
first-of (b ∷ banks) e fits = fits.0.0

longer-clear : (b : List ℕ) → length b ≡ 23 → bit_clear (b ++ zeros 1) ≡ true
longer-clear b e = eq-eqb (get_or (b ++ zeros 1) 23 0) 0 (get_or_at b 0 [] 0 23 e)

bare-clear : (b : List ℕ) → length b ≡ 23 → bit_clear (take 10 b ++ zeros 14) ≡ true
bare-clear b e =
    let x = take 10 b ++ zeros 14 in
    let ten : length (take 10 b) ≡ 10 = length-take-le 10 b (omega (arith, e)) in
    let last : get_or x (10 + 13) 0 ≡ get_or (zeros 14) 13 0 =
    ap (λ (n : ℕ). get_or x (n + 13) 0) (sym ten) ∙ get_or-append-add (take 10 b) (zeros 14) 13 0 in
    eq-eqb (get_or x 23 0) 0 last

all-clear : (banks : List (List ℕ)) → Each (BankFits form1) banks → all_of bit_clear (map (λ (b : List ℕ). b ++ zeros 1) banks) ≡ true
unfolding all_of
all-clear [] e = refl
all-clear (b ∷ banks) e = ap₂ ◌&&◌ (longer-clear b e.0.0) (all-clear banks e.1)

two-clear : (x y : List ℕ) → bit_clear x ≡ true → bit_clear y ≡ true → all_of bit_clear (x ∷ y ∷ []) ≡ true
unfolding all_of
two-clear x y e f = ap₂ ◌&&◌ e (ap₂ ◌&&◌ f refl)

pub record Made (c d : Contents) : Type 0 where
  pub rows : length d.rows ≡ length c.rows
  pub more : alone d ≡ false
  pub clear : drops_bit d ≡ false

pub makes2 : (c : Contents) → Fits form1 c → Made c (to_form2 c)
makes2 c fits = go (alone c) refl
  where
    go : (t : Bool) → alone c ≡ t → Made c (pick t (widened c) (lengthened c))
    go true e =
        let b = get_or c.banks 0 [] in
        let long = first-of c.banks (eqb-true (length c.banks) 1 e) fits.of-banks in
        record {
          rows = length-map c.rows (λ (row : List ℕ). zeros 5 ++ row);
          more = refl;
          clear = ap not (two-clear (take 10 b ++ zeros 14) (b ++ zeros 1) (bare-clear b long) (longer-clear b long));
        }
    go false e =
        record {
          rows = refl;
          more = ap (λ (n : ℕ). eqb n 1) (length-map c.banks (λ (b : List ℕ). b ++ zeros 1)) ∙ e;
          clear = ap not (all-clear c.banks fits.of-banks);
        }

-- where there is not one bank, no node strays
pub stray-none : (d : Contents) → alone d ≡ false → length d.nodes ≤ stray d
stray-none d e = rw e (omega arith)

within-next : (t : Bool) (a b : ℕ) → a ≤ b → pick t 0 (suc a) ≤ suc b
within-next true a b h = omega arith
within-next false a b h = omega (arith, h)

pub first-within : (p : List ℕ → Bool) (l : List (List ℕ)) → first_where p l ≤ length l
unfolding first_where
first-within p [] = omega arith
first-within p (x ∷ l) = within-next (p x) (first_where p l) (length l) (first-within p l)

-- ---- what to_form1 makes has one bank only of the shape, and then no switch strays

pub record Went (d c : Contents) : Type 0 where
  pub rows : length c.rows ≡ length d.rows
  pub none : length c.nodes ≤ stray c

pub makes1 : (d : Contents) → alone d ≡ false → Went d (to_form1 d)
makes1 d more = go (shaped d)
  where
    go : (t : Bool) → Went d (pick t (narrowed d) (shortened d))
    go true = record { rows = length-map d.rows (drop 5); none = none-stray (drop 1 d.nodes) }
    go false = record { rows = refl; none = stray-none (shortened d) (ap (λ (n : ℕ). eqb n 1) (length-map d.banks (take 23)) ∙ more) }
