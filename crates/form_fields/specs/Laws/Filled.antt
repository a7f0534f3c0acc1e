-- Laws that Theorems/Filled rests on.
use Rattle.std.specs.Prelude.{◌≡◌, refl, List, ◌++◌, ℕ, ◌+◌, ◌*◌, ◌≤◌, length, drop}
use Rattle.std.proofs.Common.{sym, ap₂, ◌∙◌, zero-add, mul-le-mul_left, arith, take_all}
use Rattle.std.proofs.Math.Seq.{paste}
use Rattle.form_fields.specs.declared.Shape.{Shape}
use Rattle.form_fields.specs.Kind.{kind_of}
use Rattle.form_fields.specs.Theorems.Kind.{kind-known, kind-headed}
use Rattle.form_fields.specs.Laws.Kind.{known-bank, known-longest}
use Rattle.form_fields.specs.Shape.{bank_count_in, nodes_start_in, rows_start_in, values_start_in, nodes_start, row_count, shape_in}
use Rattle.form_fields.specs.Laws.Shape.{node_count, rows_start}
use Rattle.form_fields.specs.Laws.Within.{values-within}

-- Where the lists of a sound file stand, by its shape. A bank takes 26 bytes at least.
pub record Places (file : List ℕ) (s : Shape) : Type 0 where
  pub start : (kind_of file).heads * 4 + s.banks * (3 + (kind_of file).bank) ≡ nodes_start file
  pub nodes : s.nodes ≡ node_count file
  pub rows : s.rows ≡ row_count file
  pub behind : (kind_of file).heads * 4 + s.banks * (3 + (kind_of file).bank) + s.nodes * 8 ≡ rows_start file
  pub ends : (kind_of file).heads * 4 + s.banks * (3 + (kind_of file).bank) + s.nodes * 8 + s.rows * (3 + 5 * s.nodes) ≤ length file
  pub room : s.banks * 26 + s.nodes * 8 + s.rows * (3 + 5 * s.nodes) ≤ length file
  pub short : length file ≤ 65536

pub at-shape : (file : List ℕ) → length file ≤ (kind_of file).longest → Places file (shape_in (kind_of file) file)
unfolding shape_in nodes_start_in rows_start_in values_start_in
at-shape file h =
    let k = kind_of file in
    let known = kind-known file in
    let all = values-within known file (kind-headed file) in
    let more : bank_count_in k file * 26 ≤ bank_count_in k file * (3 + k.bank) = mul-le-mul_left (bank_count_in k file) (omega (arith, (known-bank known).0)) in
    record {
      start = refl;
      nodes = refl;
      rows = refl;
      behind = refl;
      ends = all;
      room = omega (arith, all, more);
      short = omega (arith, h, known-longest known);
    }

-- what is written from the front on stands before the old contents
pub paste-front : (l col : List ℕ) (n : ℕ) → length col ≡ n → paste l 0 col n ≡ col ++ drop (length col) l
paste-front l col n e = ap₂ (λ (a : List ℕ) (k : ℕ). a ++ drop k l) (take_all n col (omega arith)) (zero-add n ∙ sym e)
