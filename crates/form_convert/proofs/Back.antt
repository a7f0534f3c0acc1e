-- What the code finds in a file of form 2 is what the definitions name.
use Rattle.std.specs.Prelude.{Err, Ok}
use mathlib.Core.Bool.{Bool, true, false, not, ◌&&◌}
use mathlib.Core.List.{List, [], ◌∷◌, ◌++◌}
use mathlib.Core.Path.{◌≡◌, refl, sym, ap, ap₂, ◌∙◌}
use Prim.Native.Nat.{ℕ, ◌+◌, ◌*◌, ◌≤◌, ◌<◌, max}
use native.Mathlib.Omega.{arith}
use lib.Dec.{eqb}
use lib.ListN.{length, get_or, drop, length-map, length-drop}
use borrow.Author.Tests.{eq-eqb, ne_eqb}
use Rattle.prelude.specs.Pick.{pick}
use Rattle.prelude.specs.declared.Refusal.{Refusal}
use Rattle.bankdef.specs.Search.{first_where}
use Rattle.form_fields.specs.declared.Shape.{Shape}
use Rattle.form_fields.specs.Words.{byte}
use Rattle.form_fields.specs.Kind.{form1, form2, is2}
use Rattle.form_fields.specs.Columns.{column}
use Rattle.form_fields.specs.Laws.Columns.{column-at}
use Rattle.form_fields.specs.Contents.{Contents, written}
use Rattle.form_fields.specs.Shape.{bank_count_in, nodes_start_in, node_count_in, rows_start_in, row_count_in}
use Rattle.form_fields.specs.Whole.{part, contents_in}
use Rattle.form_rewrite.specs.Turning.{strays, is_switch, turned, alone, shortened, narrowed, to_form1, all_of, all_zero, same, bare, starts_zero, shaped}
use Rattle.form_rewrite.specs.Turning.{bit_clear, drops_bit}
use Rattle.form_rewrite.specs.Fitting.{Read}
use Rattle.form_rewrite.specs.Laws.Fitting.{shortened-long, narrowed-long, shape_two, shape-some}
use Rattle.form_rewrite.specs.Laws.PartLaws.{part-front, part-back, part_at}
use Rattle.form_rewrite.specs.Laws.Sizes.{fits, banks-many, nodes-many, rows-many, banks-in, nodes-in, rows_in, nodes-at, rows_at, file-long}
use Rattle.form_convert.specs.Convert.{stray, answer_of, answer_for, ToForm1}
use Rattle.form_convert.proofs.Laws.{all_same}

-- ---- the shape

-- two banks
pub bare-at : (file : List ℕ)
    → (same (part file 10 7) (part file 10 34) && (all_zero (part file 14 17) && eqb (byte file 57) 0)) ≡ bare (part file 24 7) (part file 24 34)
bare-at file =
    let p = sym (part-front file 10 24 7 (omega arith)) in
    let q = sym (part-front file 10 24 34 (omega arith)) in
    let z = sym (part-back file 10 24 14 7 refl) in
    let b = sym (part_at file 24 34 23 (omega arith)) in
    λ i. same (p i) (q i) && (all_zero (z i) && eqb (b i) 0)

-- tests in a row
module _ (a b d e f : Bool) where
  pub not_first : a ≡ false → false ≡ (a && (b && (d && (e && f))))
  not_first p = rw p refl

  module _ (p : a ≡ true) where
    pub not-second : b ≡ false → false ≡ (a && (b && (d && (e && f))))
    not-second q = rw (p, q) refl

    module _ (q : b ≡ true) where
      pub not_third : d ≡ false → false ≡ (a && (b && (d && (e && f))))
      not_third r = rw (p, q, r) refl

      module _ (r : d ≡ true) where
        pub not-fourth : e ≡ false → false ≡ (a && (b && (d && (e && f))))
        not-fourth s = rw (p, q, r, s) refl

        pub not-fifth : e ≡ true → f ≡ (a && (b && (d && (e && f))))
        not-fifth s = rw (p, q, r, s) refl

module _ (file : List ℕ) (s : Shape) (r : Read form2 file s) where
  abbrev c₂ : Contents
  c₂ = contents_in form2 file

  -- the five tests
  abbrev t₁ : Bool
  t₁ = eqb (length c₂.banks) 2

  abbrev t₂ : Bool
  t₂ = bare (get_or c₂.banks 0 []) (get_or c₂.banks 1 [])

  abbrev t₃ : Bool
  t₃ = is_switch (get_or c₂.nodes 0 [])

  abbrev t₄ : Bool
  t₄ = eqb (first_where (strays 1) c₂.nodes) (length c₂.nodes)

  abbrev t₅ : Bool
  t₅ = all_of starts_zero c₂.rows

  two-not : (s.banks ≡ 2 → ⊥) → t₁ ≡ false
  two-not e = ne_eqb (length c₂.banks) 2 (λ f. e (banks-many is2 file s r ∙ f))

  pub shape-banks : (s.banks ≡ 2 → ⊥) → false ≡ shaped c₂
  shape-banks e = not_first t₁ t₂ t₃ t₄ t₅ (two-not e)

  module _ (two : s.banks ≡ 2) where
    two_is : t₁ ≡ true
    two_is = eq-eqb (length c₂.banks) 2 (sym (banks-many is2 file s r) ∙ two)

    starts : nodes_start_in form2 file ≡ 58
    starts = omega (arith, two, nodes-at is2 file s r)

    many : bank_count_in form2 file ≡ 2
    many = sym (banks-in is2 file s r) ∙ two

    bare-is : t₂ ≡ bare (part file 24 7) (part file 24 34)
    bare-is =
        ap₂ bare (column-at (part file 24) 27 [] 7 (bank_count_in form2 file) 0 (omega (arith, many)))
        (column-at (part file 24) 27 [] 7 (bank_count_in form2 file) 1 (omega (arith, many)))

    pub shape-bare : bare (part file 24 7) (part file 24 34) ≡ false → false ≡ shaped c₂
    shape-bare e = not-second t₁ t₂ t₃ t₄ t₅ two_is (bare-is ∙ e)

    module _ (b : bare (part file 24 7) (part file 24 34) ≡ true) where
      none-at : (nodes : List (List ℕ)) → length nodes ≡ 0 → is_switch (get_or nodes 0 []) ≡ false
      none-at [] e = refl
      none-at (n ∷ nodes) e = absurd (omega (arith, e))

      pub shape-none : s.nodes ≡ 0 → false ≡ shaped c₂
      shape-none e = not_third t₁ t₂ t₃ t₄ t₅ two_is (bare-is ∙ b) (none-at c₂.nodes (sym (nodes-many is2 file s r) ∙ e))

      module _ (some : s.nodes ≡ 0 → ⊥) where
        kind-is : t₃ ≡ eqb (byte file 61) 1
        kind-is =
            let n = node_count_in form2 file in
            let at : nodes_start_in form2 file + 3 + 0 * 8 ≡ 61 = omega (arith, starts) in
            ap is_switch (column-at (part file 5) 8 [] (nodes_start_in form2 file + 3) n 0 (omega (arith, some, nodes-in is2 file s r)) ∙ ap (part file 5) at)
            ∙ ap (λ (k : ℕ). eqb k 1) (part_at file 5 61 0 (omega arith))

        pub shape-kind : (byte file 61 ≡ 1 → ⊥) → false ≡ shaped c₂
        shape-kind e = not_third t₁ t₂ t₃ t₄ t₅ two_is (bare-is ∙ b) (kind-is ∙ ne_eqb (byte file 61) 1 e)

        module _ (k : byte file 61 ≡ 1) where
          third : t₃ ≡ true
          third = kind-is ∙ eq-eqb (byte file 61) 1 k

          strays-is : first_where (strays 1) (column (part file 5) 8 61 s.nodes) ≡ first_where (strays 1) c₂.nodes
          strays-is =
              let at : 61 ≡ nodes_start_in form2 file + 3 = omega (arith, starts) in
              ap₂ (λ (a n : ℕ). first_where (strays 1) (column (part file 5) 8 a n)) at (nodes-in is2 file s r)

          pub shape-stray : {f : ℕ} → f ≡ first_where (strays 1) (column (part file 5) 8 61 s.nodes) → f < s.nodes → false ≡ shaped c₂
          shape-stray {f} e h =
              not-fourth t₁ t₂ t₃ t₄ t₅ two_is (bare-is ∙ b) third
              (ne_eqb (first_where (strays 1) c₂.nodes) (length c₂.nodes) (λ g. omega (arith, e, strays-is, g, nodes-many is2 file s r, h)))

          rows_is : all_of all_zero (column (part file 5) (3 + 5 * s.nodes) (61 + s.nodes * 8) s.rows) ≡ t₅
          rows_is =
              let m = node_count_in form2 file in
              let at : 61 + s.nodes * 8 ≡ rows_start_in form2 file + 3 = omega (arith, starts, rows_at is2 file s r) in
              ap₂ (λ (n a : ℕ). all_of all_zero (column (part file 5) (3 + 5 * n) a s.rows)) (nodes-in is2 file s r) at
              ∙ ap (λ (n : ℕ). all_of all_zero (column (part file 5) (3 + 5 * m) (rows_start_in form2 file + 3) n)) (rows_in is2 file s r)
              ∙ all_same all_zero starts_zero (part file 5) (part file (5 * m))
              (λ a. ap all_zero (sym (part-front file 5 (5 * m) a (omega (arith, some, nodes-in is2 file s r)))))
              (3 + 5 * m) (rows_start_in form2 file + 3) (row_count_in form2 file)

          pub shape-rows : {f : ℕ} {t : Bool} → f ≡ first_where (strays 1) (column (part file 5) 8 61 s.nodes) → f ≤ s.nodes → s.nodes ≤ f
              → t ≡ all_of all_zero (column (part file 5) (3 + 5 * s.nodes) (61 + s.nodes * 8) s.rows) → t ≡ shaped c₂
          shape-rows {f} {t} e le ge z =
              z ∙ rows_is
              ∙ not-fifth t₁ t₂ t₃ t₄ t₅ two_is (bare-is ∙ b) third
              (eq-eqb (first_where (strays 1) c₂.nodes) (length c₂.nodes) (omega (arith, e, strays-is, nodes-many is2 file s r, le, ge)))

  -- ---- counts and lengths

  pub back-nodes : s.nodes ≡ max (length c₂.nodes) (length (to_form1 c₂).nodes)
  back-nodes = go (shaped c₂)
    where
      go : (t : Bool) → s.nodes ≡ max (length c₂.nodes) (length (pick t (narrowed c₂) (shortened c₂)).nodes)
      go true = omega (arith, nodes-many is2 file s r, length-map (drop 1 c₂.nodes) (turned 0), length-drop 1 c₂.nodes)
      go false = omega (arith, nodes-many is2 file s r)

  pub back-shaped : shaped c₂ ≡ true → length (written form1 (to_form1 c₂)) + 40 + 5 * s.rows ≡ length file
  back-shaped e =
      rw e
      (omega (arith, narrowed-long c₂ (fits is2 file s r) (shape_two c₂ e) (shape-some c₂ e), file-long is2 file s r, rows-many is2 file s r))

  pub back-other : shaped c₂ ≡ false → length (written form1 (to_form1 c₂)) + 4 + s.banks ≡ length file
  back-other e = rw e (omega (arith, shortened-long c₂ (fits is2 file s r), file-long is2 file s r, banks-many is2 file s r))

  pub back-stray-one : s.banks ≡ 1 → first_where (strays 0) (column (part file 5) 8 34 s.nodes) ≡ stray c₂
  back-stray-one e =
      let at : 34 ≡ nodes_start_in form2 file + 3 = omega (arith, e, nodes-at is2 file s r) in
      let one : alone c₂ ≡ true = eq-eqb (length c₂.banks) 1 (sym (banks-many is2 file s r) ∙ e) in
      rw one (ap₂ (λ (a n : ℕ). first_where (strays 0) (column (part file 5) 8 a n)) at (nodes-in is2 file s r))

  pub back-stray-other : (s.banks ≡ 1 → ⊥) → s.nodes ≡ stray c₂
  back-stray-other e =
      let none : alone c₂ ≡ false = ne_eqb (length c₂.banks) 1 (λ f. e (banks-many is2 file s r ∙ f)) in
      rw none (nodes-many is2 file s r)

  pub clear-is : all_of bit_clear (column (part file 24) 27 7 s.banks) ≡ all_of bit_clear c₂.banks
  clear-is = ap (λ (n : ℕ). all_of bit_clear (column (part file 24) 27 7 n)) (banks-in is2 file s r)

  -- the answer from the numbers that the code has found
  pub back-answer : (room : ℕ) {first size : ℕ} {clear : Bool} → first ≡ stray c₂ → size ≡ length (written form1 (to_form1 c₂))
      → clear ≡ all_of bit_clear (column (part file 24) 27 7 s.banks)
      → answer_of s.nodes s.rows first s.nodes size 65000 (not clear) room ≡ answer_for form1 c₂ (to_form1 c₂) (drops_bit c₂) room
  back-answer room p z d =
      let most = back-nodes in
      let nodes = nodes-many is2 file s r in
      let rows = rows-many is2 file s r in
      let clear = d ∙ clear-is in
      λ i. answer_of (most i) (rows i) (p i) (nodes i) (z i) 65000 (not (clear i)) room

  pub back-refuses : {old : List ℕ} {why : Refusal} → answer_for form1 c₂ (to_form1 c₂) (drops_bit c₂) (length old) ≡ Err why
      → ToForm1 file old (Err why) old
  back-refuses {old} e = record { is = sym e ∙ rw r.sound refl; out = refl }

  pub back-converts : {old new : List ℕ} {n : ℕ} → answer_for form1 c₂ (to_form1 c₂) (drops_bit c₂) (length old) ≡ Ok n
      → new ≡ written form1 (to_form1 c₂) ++ drop (length (written form1 (to_form1 c₂))) old → ToForm1 file old (Ok n) new
  back-converts {old} {new} e f = record { is = sym e ∙ rw r.sound refl; out = f }
