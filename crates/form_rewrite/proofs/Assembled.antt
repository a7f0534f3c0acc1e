-- What the code writes, piece by piece, is the converted file.
use mathlib.Core.List.{List, [], ◌∷◌, ◌++◌, map, append_assoc, append-nil}
use mathlib.Core.Path.{◌≡◌, refl, sym, ap, ap₂, ◌∙◌}
use Prim.Native.Nat.{ℕ, zero, suc, ◌+◌, ◌*◌, ◌-◌, ◌≤◌}
use native.Mathlib.Omega.{arith}
use lib.ListN.{length, get_or, take, drop, length-drop}
use lib.Seq.{take_all, take-take}
use Rattle.form_fields.specs.declared.Shape.{Shape}
use Rattle.form_fields.specs.Kind.{form1, form2, is1}
use Rattle.form_fields.specs.Columns.{column}
use Rattle.form_fields.specs.Laws.Columns.{column-at}
use Rattle.form_fields.specs.Contents.{field, flat, Contents, written}
use Rattle.form_fields.specs.Shape.{bank_count_in, nodes_start_in, node_count_in, rows_start_in, row_count_in, values_start_in}
use Rattle.form_fields.specs.Whole.{part, contents_in}
use Rattle.form_rewrite.specs.Turning.{switch_to, turned, zeros, lengthened, widened, to_form2}
use Rattle.form_rewrite.specs.Fitting.{Read}
use Rattle.form_rewrite.specs.Theorems.Fitting.{widened-long}
use Rattle.form_rewrite.specs.Laws.Sizes.{sizes, fits, rows-many, banks-in, nodes-in, rows_in, values-at, nodes-at, rows_at, file-long}
use Rattle.form_rewrite.specs.Laws.Sizes.{from-nodes, from-values, one-is, alone-is, alone-not}
use Rattle.form_rewrite.specs.Laws.PartLaws.{part_length}
use Rattle.form_rewrite.proofs.Laws.{rows_more}

-- ---- columns

pub map-column : {A B : Type 0} (g : A → B) (f : ℕ → A) (step at n : ℕ) → map g (column f step at n) ≡ column (λ (a : ℕ). g (f a)) step at n
unfolding column
map-column g f step at zero = refl
map-column g f step at (suc n) = ap (λ (l : List _). g (f at) ∷ l) (map-column g f step (at + step) n)

pub column-same : {A : Type 0} (f g : ℕ → A) → ((a : ℕ) → f a ≡ g a) → (step at n : ℕ) → column f step at n ≡ column g step at n
unfolding column
column-same f g e step at zero = refl
column-same f g e step at (suc n) = ap₂ ◌∷◌ (e at) (column-same f g e step (at + step) n)

-- a part to the end of the file
pub tail-long : (file : List ℕ) (a : ℕ) → length (take (length file - a) (drop a file)) ≡ length file - a
tail-long file a = ap length (take_all (length file - a) (drop a file) (omega (arith, length-drop a file))) ∙ length-drop a file

pub tail : (file : List ℕ) (a b : ℕ) → a ≡ b → take (length file - a) (drop a file) ≡ drop b file
tail file a b e = take_all (length file - a) (drop a file) (omega (arith, length-drop a file)) ∙ ap (λ (n : ℕ). drop n file) e

abbrev pub padded : List ℕ → ℕ → ℕ → ℕ → ℕ → List ℕ
padded file before keep behind a = zeros before ++ (part file keep a ++ zeros behind)

-- ---- to form 2

-- the pieces that are written of a file with more banks, or none
abbrev pub lengthened_pieces : List ℕ → Shape → List ℕ
lengthened_pieces file s =
    field 16 (2 ∷ [])
    ++ (flat (field 17) (column (padded file 0 23 1) 26 3 s.banks) ++ take (length file - s.banks * 26) (drop (s.banks * 26) file))

-- the pieces that are written of a one-bank file
abbrev pub widened_pieces : List ℕ → Shape → List ℕ
widened_pieces file s =
    field 16 (2 ∷ [])
    ++ (field 17 (zeros 0 ++ (take 10 (drop 3 file) ++ zeros 14))
    ++ (field 17 (zeros 0 ++ (take 23 (drop 3 file) ++ zeros 1))
    ++ (field 2 (switch_to 1)
    ++ (flat (field 2) (column (λ (a : ℕ). turned 1 (part file 5 a)) 8 29 s.nodes)
    ++ (flat (field 3) (column (padded file 5 (5 * s.nodes) 0) (3 + 5 * s.nodes) (29 + s.nodes * 8) s.rows)
    ++ take (length file - (s.values - 3)) (drop (s.values - 3) file))))))

-- where things stand in such a file, and the room for them in a buffer of `out` bytes
pub record Widening (file : List ℕ) (s : Shape) (out : ℕ) : Type 0 where
  pub one : s.banks ≡ 1
  pub nodes : 26 + s.nodes * 8 ≡ rows_start_in form1 file
  pub rows : rows_start_in form1 file + s.rows * (3 + 5 * s.nodes) ≡ values_start_in form1 file
  pub values : s.values ≡ values_start_in form1 file + 3
  pub inside : values_start_in form1 file ≤ length file
  pub short : length file ≤ 65000
  pub room : length file + 40 + 5 * s.rows ≤ out
  pub more : s.rows * (3 + (5 + 5 * s.nodes + 0)) ≡ s.rows * (3 + 5 * s.nodes) + s.rows * 5
  pub ten : length (take 10 (drop 3 file)) ≡ 10
  pub all : length (take 23 (drop 3 file)) ≡ 23

module _ (file : List ℕ) (s : Shape) (r : Read form1 file s) where
  abbrev c₁ : Contents
  c₁ = contents_in form1 file

  pub wide-long : s.banks ≡ 1 → length (written form2 (widened c₁)) ≡ length file + 40 + 5 * s.rows
  wide-long e = omega (arith, widened-long c₁ (fits is1 file s r) (one-is file s r e), file-long is1 file s r, rows-many is1 file s r)

  pub to-widened : s.banks ≡ 1 → to_form2 c₁ ≡ widened c₁
  to-widened e = rw (alone-is file s r e) refl

  pub to-lengthened : (s.banks ≡ 1 → ⊥) → to_form2 c₁ ≡ lengthened c₁
  to-lengthened e = rw (alone-not file s r e) refl

  pub widening : s.banks ≡ 1 → (out : ℕ) → length (written form2 (widened c₁)) ≤ out → Widening file s out
  widening one out h =
      let z = sizes is1 file s r in
      record {
        one = one;
        nodes = omega (arith, one, z);
        rows = z.rows;
        values = z.values;
        inside = z.inside;
        short = z.short;
        room = omega (arith, wide-long one, h);
        more = rows_more s.rows s.nodes;
        ten = part_length file 10 3 (omega (arith, one, z));
        all = part_length file 23 3 (omega (arith, one, z));
      }

  pub lengthened-is : lengthened_pieces file s ≡ written form2 (lengthened c₁)
  unfolding written
  lengthened-is =
      let banks : column (padded file 0 23 1) 26 3 s.banks ≡ map (λ (b : List ℕ). b ++ zeros 1) c₁.banks =
      ap (column (padded file 0 23 1) 26 3) (banks-in is1 file s r)
      ∙ sym (map-column (λ (b : List ℕ). b ++ zeros 1) (part file 23) 26 3 (bank_count_in form1 file)) in
      let start : s.banks * 26 ≡ nodes_start_in form1 file = omega (arith, nodes-at is1 file s r) in
      ap₂ (λ (a b : List ℕ). field 16 (2 ∷ []) ++ (a ++ b)) (ap (flat (field 17)) banks)
      (tail file (s.banks * 26) (nodes_start_in form1 file) start ∙ from-nodes is1 file s r)

  module _ (one : s.banks ≡ 1) where
    first-is : get_or c₁.banks 0 [] ≡ part file 23 3
    first-is =
        let many : bank_count_in form1 file ≡ 1 = sym (banks-in is1 file s r) ∙ one in
        column-at (part file 23) 26 [] 3 (bank_count_in form1 file) 0 (omega (arith, many)) ∙ ap (part file 23) {x = 3 + 0 * 26} {y = 3} refl

    pub widened_is : widened_pieces file s ≡ written form2 (widened c₁)
    unfolding written flat
    widened_is =
        let b = get_or c₁.banks 0 [] in
        let ten : take 10 (drop 3 file) ≡ take 10 b = sym (take-take 10 23 (drop 3 file) (omega arith)) ∙ ap (take 10) (sym first-is) in
        let all : take 23 (drop 3 file) ≡ b = sym first-is in
        let at : 29 ≡ nodes_start_in form1 file + 3 = omega (arith, one, nodes-at is1 file s r) in
        let behind : 29 + s.nodes * 8 ≡ rows_start_in form1 file + 3 = omega (arith, one, nodes-at is1 file s r, rows_at is1 file s r) in
        let nodes : column (λ (a : ℕ). turned 1 (part file 5 a)) 8 29 s.nodes ≡ map (turned 1) c₁.nodes =
        ap₂ (λ (a n : ℕ). column (λ (x : ℕ). turned 1 (part file 5 x)) 8 a n) at (nodes-in is1 file s r)
        ∙ sym (map-column (turned 1) (part file 5) 8 (nodes_start_in form1 file + 3) (node_count_in form1 file)) in
        let m = node_count_in form1 file in
        let rows : column (padded file 5 (5 * s.nodes) 0) (3 + 5 * s.nodes) (29 + s.nodes * 8) s.rows ≡ map (λ (row : List ℕ). zeros 5 ++ row) c₁.rows =
        ap₂ (λ (a n : ℕ). column (padded file 5 (5 * n) 0) (3 + 5 * n) a s.rows) behind (nodes-in is1 file s r)
        ∙ ap (column (padded file 5 (5 * m) 0) (3 + 5 * m) (rows_start_in form1 file + 3)) (rows_in is1 file s r)
        ∙ column-same (padded file 5 (5 * m) 0) (λ (a : ℕ). zeros 5 ++ part file (5 * m) a)
        (λ a. ap (λ (l : List ℕ). zeros 5 ++ l) (append-nil (part file (5 * m) a))) (3 + 5 * m) (rows_start_in form1 file + 3) (row_count_in form1 file)
        ∙ sym (map-column (λ (row : List ℕ). zeros 5 ++ row) (part file (5 * m)) (3 + 5 * m) (rows_start_in form1 file + 3) (row_count_in form1 file)) in
        let rest : take (length file - (s.values - 3)) (drop (s.values - 3) file) ≡ field 4 c₁.values ++ field 5 (c₁.limit ∷ []) =
        tail file (s.values - 3) (values_start_in form1 file) (omega (arith, values-at is1 file s r)) ∙ from-values is1 file s r in
        let end = flat (field 3) (map (λ (row : List ℕ). zeros 5 ++ row) c₁.rows) ++ (field 4 c₁.values ++ field 5 (c₁.limit ∷ [])) in
        let more = flat (field 2) (map (turned 1) c₁.nodes) in
        let zero = field 17 (take 10 b ++ zeros 14) in
        let first = field 17 (b ++ zeros 1) in
        let switch = field 2 (switch_to 1) in
        let same : field 16 (2 ∷ []) ++ (zero ++ (first ++ (switch ++ (more ++ end)))) ≡ field 16 (2 ∷ []) ++ ((zero ++ (first ++ [])) ++ ((switch ++ more)
        ++ end)) =
        ap (λ (l : List ℕ). field 16 (2 ∷ []) ++ l)
        (sym (append_assoc zero (first ++ []) ((switch ++ more) ++ end)
        ∙ ap₂ (λ (f t : List ℕ). zero ++ (f ++ t)) (append-nil first) (append_assoc switch more end))) in
        (λ i.
        field 16 (2 ∷ [])
        ++ (field 17 (ten i ++ zeros 14)
        ++ (field 17 (all i ++ zeros 1) ++ (field 2 (switch_to 1) ++ (flat (field 2) (nodes i) ++ (flat (field 3) (rows i) ++ rest i))))))
        ∙ same
