-- Where things stand in a file that was read, and how many there are: what a sound file's shape says of its contents.
use Rattle.std.specs.Prelude.{true, false, List, [], ◌∷◌, ◌++◌, ◌≡◌, ℕ, ◌+◌, ◌*◌, ◌≤◌, length, drop}
use Rattle.std.proofs.Common.{sym, ◌∙◌, arith, eq-eqb, ne_eqb}
use Rattle.std.proofs.Math.Path.{ap, ap₂}
use Rattle.form_fields.specs.declared.Kind.{Kind}
use Rattle.form_fields.specs.declared.Shape.{Shape}
use Rattle.form_fields.specs.Kind.{form1, is1, Known}
use Rattle.form_fields.specs.Contents.{field, flat, Contents, written, Fits}
use Rattle.form_fields.specs.Shape.{bank_count_in, nodes_start_in, node_count_in, rows_start_in, row_count_in, values_start_in, shape_in}
use Rattle.form_fields.specs.Laws.Rest.{SoundFile, sound-file}
use Rattle.form_fields.specs.Laws.Within.{values-within}
use Rattle.form_fields.specs.Whole.{contents_in}
use Rattle.form_fields.proofs.WholeLaws.{contents-fit, from-nodes-is, from-values-is, file-is-written, shape_of}
use Rattle.form_fields.specs.Writer.{shape_for}
use Rattle.form_rewrite.specs.Turning.{alone}
use Rattle.form_rewrite.specs.Fitting.{Read}

pub record Sizes (k : Kind) (file : List ℕ) (s : Shape) : Type 0 where
  pub banks : k.heads * 4 + s.banks * (3 + k.bank) ≡ nodes_start_in k file
  pub nodes : nodes_start_in k file + s.nodes * 8 ≡ rows_start_in k file
  pub rows : rows_start_in k file + s.rows * (3 + 5 * s.nodes) ≡ values_start_in k file
  pub values : s.values ≡ values_start_in k file + 3
  pub inside : values_start_in k file ≤ length file
  pub short : length file ≤ k.longest

module _ {k : Kind} (known : Known k) (file : List ℕ) (s : Shape) (r : Read k file s) where
  abbrev c : Contents
  c = contents_in k file

  pub fits : Fits k c
  fits = contents-fit file r.bytes known s r.sound

  shape : s ≡ shape_for k c
  shape = shape_of file r.bytes known s r.sound

  facts : SoundFile k file s
  facts = sound-file k file s r.sound

  pub banks-many : s.banks ≡ length c.banks
  banks-many = ap (λ (t : Shape). t.banks) shape

  pub nodes-many : s.nodes ≡ length c.nodes
  nodes-many = ap (λ (t : Shape). t.nodes) shape

  pub rows-many : s.rows ≡ length c.rows
  rows-many = ap (λ (t : Shape). t.rows) shape

  pub banks-in : s.banks ≡ bank_count_in k file
  unfolding shape_in
  banks-in = ap (λ (t : Shape). t.banks) facts.shape

  pub nodes-in : s.nodes ≡ node_count_in k file
  unfolding shape_in
  nodes-in = ap (λ (t : Shape). t.nodes) facts.shape

  pub rows_in : s.rows ≡ row_count_in k file
  unfolding shape_in
  rows_in = ap (λ (t : Shape). t.rows) facts.shape

  pub values-at : s.values ≡ values_start_in k file + 3
  unfolding shape_in
  values-at = ap (λ (t : Shape). t.values) facts.shape

  pub nodes-at : k.heads * 4 + s.banks * (3 + k.bank) ≡ nodes_start_in k file
  unfolding nodes_start_in
  nodes-at = ap (λ (n : ℕ). k.heads * 4 + n * (3 + k.bank)) banks-in

  pub rows_at : nodes_start_in k file + s.nodes * 8 ≡ rows_start_in k file
  unfolding rows_start_in
  rows_at = ap (λ (n : ℕ). nodes_start_in k file + n * 8) nodes-in

  pub values-start : rows_start_in k file + s.rows * (3 + 5 * s.nodes) ≡ values_start_in k file
  unfolding values_start_in
  values-start = ap₂ (λ (a b : ℕ). rows_start_in k file + a * (3 + 5 * b)) rows_in nodes-in

  pub file-long : length (written k c) ≡ length file
  file-long = ap length (file-is-written file r.bytes known s r.sound)

  pub file-short : length file ≤ k.longest
  file-short = facts.short

  pub values-inside : values_start_in k file ≤ length file
  values-inside = values-within known file facts.head

  pub from-nodes : drop (nodes_start_in k file) file ≡ flat (field 2) c.nodes ++ (flat (field 3) c.rows ++ (field 4 c.values ++ field 5 (c.limit ∷
      [])))
  from-nodes = from-nodes-is file r.bytes known s r.sound

  pub from-values : drop (values_start_in k file) file ≡ field 4 c.values ++ field 5 (c.limit ∷ [])
  from-values = from-values-is file r.bytes known s r.sound

  -- how many of each there can be
  pub nodes-few : s.nodes ≤ length file
  nodes-few = omega (arith, nodes-in, rows_at, values-start, values-inside)

  pub rows_few : s.rows ≤ length file
  rows_few = omega (arith, rows_at, values-start, values-inside)

  pub banks-few : s.banks ≤ length file
  banks-few = omega (arith, nodes-at, rows_at, values-start, values-inside)

  -- where things stand, all at once
  pub sizes : Sizes k file s
  sizes =
      record { banks = nodes-at; nodes = rows_at; rows = values-start; values = values-at; inside = values-inside; short = facts.short }

-- ---- a file of form 1 with one bank

module _ (file : List ℕ) (s : Shape) (r : Read form1 file s) where
  abbrev c₁ : Contents
  c₁ = contents_in form1 file

  pub one-is : s.banks ≡ 1 → length c₁.banks ≡ 1
  one-is e = sym (banks-many is1 file s r) ∙ e

  pub alone-is : s.banks ≡ 1 → alone c₁ ≡ true
  alone-is e = eq-eqb (length c₁.banks) 1 (one-is e)

  pub alone-not : (s.banks ≡ 1 → ⊥) → alone c₁ ≡ false
  alone-not e = ne_eqb (length c₁.banks) 1 (λ f. e (banks-many is1 file s r ∙ f))
