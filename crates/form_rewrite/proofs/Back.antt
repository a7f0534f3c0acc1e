-- What the code writes of a file of form 2, piece by piece, is what the definitions name.
use mathlib.Core.Bool.{true, false}
use mathlib.Core.List.{List, [], ◌∷◌, ◌++◌, map, append-nil}
use mathlib.Core.Path.{◌≡◌, refl, sym, ap, ap₂, ◌∙◌}
use Prim.Native.Nat.{ℕ, zero, suc, ◌+◌, ◌*◌, ◌-◌, ◌≤◌, ◌<◌}
use native.Mathlib.Omega.{arith}
use lib.ListN.{length, get_or, take, drop}
use Rattle.form_fields.specs.declared.Shape.{Shape}
use Rattle.form_fields.specs.Kind.{form1, form2, is2}
use Rattle.form_fields.specs.Columns.{column}
use Rattle.form_fields.specs.Laws.Columns.{column-at}
use Rattle.form_fields.specs.Contents.{field, flat, Contents, written}
use Rattle.form_fields.specs.Shape.{bank_count_in, nodes_start_in, node_count_in, rows_start_in, row_count_in, values_start_in}
use Rattle.form_fields.specs.Whole.{part, contents_in}
use Rattle.form_rewrite.specs.Turning.{turned, zeros, shaped, shortened, narrowed, to_form1}
use Rattle.form_rewrite.specs.Fitting.{Read}
use Rattle.form_rewrite.specs.Laws.Fitting.{narrowed-long, shape_two, shape-some}
use Rattle.form_rewrite.specs.Laws.PartLaws.{part-front, part-back, part_length}
use Rattle.form_rewrite.specs.Laws.Sizes.{sizes, fits, banks-many, nodes-many, rows-many, banks-in, nodes-in, rows_in, values-at, nodes-at, rows_at}
use Rattle.form_rewrite.specs.Laws.Sizes.{file-long, from-nodes, from-values}
use Rattle.form_rewrite.proofs.Laws.{rows-less}
use Rattle.form_rewrite.proofs.Assembled.{map-column, column-same, tail, padded}

-- the pieces that are written of a file without the shape
abbrev pub shortened_pieces : List ℕ → Shape → List ℕ
shortened_pieces file s =
    flat (field 1) (column (padded file 0 23 0) 27 7 s.banks) ++ take (length file - (4 + s.banks * 27)) (drop (4 + s.banks * 27) file)

-- the pieces that are written of a file with the shape
abbrev pub narrowed_pieces : List ℕ → Shape → List ℕ
narrowed_pieces file s =
    field 1 (zeros 0 ++ (take 23 (drop 34 file) ++ zeros 0))
    ++ (flat (field 2) (column (λ (a : ℕ). turned 0 (part file 5 a)) 8 69 (s.nodes - 1))
    ++ (flat (field 3) (column (padded file 0 (5 * s.nodes - 5) 0) (3 + 5 * s.nodes) (66 + s.nodes * 8) s.rows)
    ++ take (length file - (s.values - 3)) (drop (s.values - 3) file)))

-- where things stand in such a file, and the room for them in a buffer of `out` bytes
pub record Narrowing (file : List ℕ) (s : Shape) (out : ℕ) : Type 0 where
  pub two : s.banks ≡ 2
  pub some : 0 < s.nodes
  pub nodes : 58 + s.nodes * 8 ≡ rows_start_in form2 file
  pub rows : rows_start_in form2 file + s.rows * (3 + 5 * s.nodes) ≡ values_start_in form2 file
  pub values : s.values ≡ values_start_in form2 file + 3
  pub inside : values_start_in form2 file ≤ length file
  pub short : length file ≤ 65536
  pub room : length file ≤ out + 40 + 5 * s.rows
  pub less : s.rows * (3 + (0 + (5 * s.nodes - 5) + 0)) + s.rows * 5 ≡ s.rows * (3 + 5 * s.nodes)
  pub all : length (take 23 (drop 34 file)) ≡ 23

module _ (file : List ℕ) (s : Shape) (r : Read form2 file s) where
  abbrev c₂ : Contents
  c₂ = contents_in form2 file

  pub narrow_two : shaped c₂ ≡ true → s.banks ≡ 2
  narrow_two e = banks-many is2 file s r ∙ shape_two c₂ e

  pub narrow-some : shaped c₂ ≡ true → 0 < s.nodes
  narrow-some e = omega (arith, nodes-many is2 file s r, shape-some c₂ e)

  pub narrow-long : shaped c₂ ≡ true → length (written form1 (narrowed c₂)) + 40 + 5 * s.rows ≡ length file
  narrow-long e =
      omega (arith, narrowed-long c₂ (fits is2 file s r) (shape_two c₂ e) (shape-some c₂ e), file-long is2 file s r, rows-many is2 file s r)

  pub narrowing : shaped c₂ ≡ true → (out : ℕ) → length (written form1 (narrowed c₂)) ≤ out → Narrowing file s out
  narrowing e out h =
      let z = sizes is2 file s r in
      let two = narrow_two e in
      let some = narrow-some e in
      record {
        two = two;
        some = some;
        nodes = omega (arith, two, z);
        rows = z.rows;
        values = z.values;
        inside = z.inside;
        short = z.short;
        room = omega (arith, narrow-long e, h);
        less = rows-less s.rows s.nodes some;
        all = part_length file 23 34 (omega (arith, two, some, z));
      }

  pub to-narrowed : shaped c₂ ≡ true → to_form1 c₂ ≡ narrowed c₂
  to-narrowed e = rw e refl

  pub to-shortened : shaped c₂ ≡ false → to_form1 c₂ ≡ shortened c₂
  to-shortened e = rw e refl

  -- ---- what is written

  pub shortened-is : shortened_pieces file s ≡ written form1 (shortened c₂)
  unfolding written
  shortened-is =
      let n = bank_count_in form2 file in
      let banks : column (padded file 0 23 0) 27 7 s.banks ≡ map (take 23) c₂.banks =
      ap (column (padded file 0 23 0) 27 7) (banks-in is2 file s r)
      ∙ column-same (padded file 0 23 0) (λ (a : ℕ). take 23 (part file 24 a))
      (λ a. append-nil (part file 23 a) ∙ sym (part-front file 23 24 a (omega arith))) 27 7 n
      ∙ sym (map-column (take 23) (part file 24) 27 7 n) in
      let start : 4 + s.banks * 27 ≡ nodes_start_in form2 file = omega (arith, nodes-at is2 file s r) in
      ap₂ (λ (a : List (List ℕ)) (b : List ℕ). flat (field 1) a ++ b) banks
      (tail file (4 + s.banks * 27) (nodes_start_in form2 file) start ∙ from-nodes is2 file s r)

  module _ (two : s.banks ≡ 2) (some : 0 < s.nodes) where
    second_is : get_or c₂.banks 1 [] ≡ part file 24 34
    second_is = column-at (part file 24) 27 [] 7 (bank_count_in form2 file) 1 (omega (arith, two, banks-in is2 file s r))

    drop-column : (f : ℕ → List ℕ) (step at n : ℕ) → 0 < n → drop 1 (column f step at n) ≡ column f step (at + step) (n - 1)
    unfolding column
    drop-column f step at zero h = absurd (omega arith)
    drop-column f step at (suc n) h = ap (column f step (at + step)) {x = n} {y = suc n - 1} (omega arith)

    shift : (f g : ℕ → List ℕ) → ((a : ℕ) → f a ≡ g (a + 5)) → (step at n : ℕ) → column f step at n ≡ column g step (at + 5) n
    unfolding column
    shift f g e step at zero = refl
    shift f g e step at (suc n) =
        ap₂ ◌∷◌ (e at) (shift f g e step (at + step) n ∙ ap (λ (a : ℕ). column g step a n) {x = at + step + 5} {y = at + 5 + step} (omega arith))

    pub narrowed-is : narrowed_pieces file s ≡ written form1 (narrowed c₂)
    unfolding written flat
    narrowed-is =
        let m = node_count_in form2 file in
        let e = nodes-in is2 file s r in
        let bank : zeros 0 ++ (take 23 (drop 34 file) ++ zeros 0) ≡ take 23 (get_or c₂.banks 1 []) =
        append-nil (part file 23 34) ∙ sym (part-front file 23 24 34 (omega arith)) ∙ ap (take 23) (sym second_is) in
        let at : 69 ≡ nodes_start_in form2 file + 3 + 8 = omega (arith, two, nodes-at is2 file s r) in
        let nodes : column (λ (a : ℕ). turned 0 (part file 5 a)) 8 69 (s.nodes - 1) ≡ map (turned 0) (drop 1 c₂.nodes) =
        ap₂ (λ (a n : ℕ). column (λ (x : ℕ). turned 0 (part file 5 x)) 8 a (n - 1)) at e
        ∙ sym (map-column (turned 0) (part file 5) 8 (nodes_start_in form2 file + 3 + 8) (m - 1))
        ∙ ap (map (turned 0)) (sym (drop-column (part file 5) 8 (nodes_start_in form2 file + 3) m (omega (arith, some, e)))) in
        let behind : 66 + s.nodes * 8 ≡ rows_start_in form2 file + 3 + 5 = omega (arith, two, nodes-at is2 file s r, rows_at is2 file s r) in
        let rows : column (padded file 0 (5 * s.nodes - 5) 0) (3 + 5 * s.nodes) (66 + s.nodes * 8) s.rows ≡ map (drop 5) c₂.rows =
        ap₂ (λ (a n : ℕ). column (padded file 0 (5 * n - 5) 0) (3 + 5 * n) a s.rows) behind e
        ∙ ap (column (padded file 0 (5 * m - 5) 0) (3 + 5 * m) (rows_start_in form2 file + 3 + 5)) (rows_in is2 file s r)
        ∙ sym (shift (λ (a : ℕ). drop 5 (part file (5 * m) a)) (padded file 0 (5 * m - 5) 0)
        (λ a. part-back file 5 (5 * m) (5 * m - 5) a (omega (arith, some, e)) ∙ sym (append-nil (part file (5 * m - 5) (a + 5))))
        (3 + 5 * m) (rows_start_in form2 file + 3) (row_count_in form2 file))
        ∙ sym (map-column (drop 5) (part file (5 * m)) (3 + 5 * m) (rows_start_in form2 file + 3) (row_count_in form2 file)) in
        let rest : take (length file - (s.values - 3)) (drop (s.values - 3) file) ≡ field 4 c₂.values ++ field 5 (c₂.limit ∷ []) =
        tail file (s.values - 3) (values_start_in form2 file) (omega (arith, values-at is2 file s r)) ∙ from-values is2 file s r in
        let first = field 1 (take 23 (get_or c₂.banks 1 [])) in
        let end = flat (field 2) (map (turned 0) (drop 1 c₂.nodes)) ++ (flat (field 3) (map (drop 5) c₂.rows) ++ (field 4 c₂.values ++ field 5
        (c₂.limit ∷ []))) in
        (λ i. field 1 (bank i) ++ (flat (field 2) (nodes i) ++ (flat (field 3) (rows i) ++ rest i)))
        ∙ ap (λ (l : List ℕ). l ++ end) (sym (append-nil first))
