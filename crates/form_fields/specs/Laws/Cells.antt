-- Laws of cells: how many they are, one row more, and a turn of the loop that writes them into a list from its front.
use Rattle.std.specs.Prelude.{◌≡◌, List, [], ◌++◌, length, take, drop}
use Rattle.std.proofs.Math.Path.{refl}
use Rattle.std.proofs.Common.{sym, ap, ap₂, ◌∙◌, append_assoc, append-nil, add-one, take_at, take_all, drop-drop}
use Prim.Native.Nat.{ℕ, zero, suc, ◌+◌, ◌*◌}
use native.Mathlib.Omega.{arith}
use Rattle.std.proofs.Math.ListN.{length-append}
use Rattle.std.proofs.Math.Seq.{paste, drop-append-add}
use Rattle.form_fields.specs.Columns.{column}
use Rattle.form_fields.specs.Lists.{cells}
use Rattle.form_fields.specs.Laws.Columns.{column-length}

module _ (read : ℕ → ℕ) (nodes : ℕ) where
  pub cells-length : (at rows : ℕ) → length (cells read nodes at rows) ≡ rows * nodes
  unfolding cells
  cells-length at zero = omega arith
  cells-length at (suc rows) =
      length-append (column read 5 at nodes) (cells read nodes (at + (3 + 5 * nodes)) rows)
      ∙ omega (arith, column-length read 5 at nodes, cells-length (at + (3 + 5 * nodes)) rows)

  cells-suc : (at rows : ℕ) → cells read nodes at (suc rows) ≡ column read 5 at nodes ++ cells read nodes (at + (3 + 5 * nodes)) rows
  unfolding cells
  cells-suc at rows = refl

  cells-none : (at : ℕ) → cells read nodes at 0 ≡ []
  unfolding cells
  cells-none at = refl

  pub cells-last : (at rows : ℕ) → cells read nodes at (rows + 1) ≡ cells read nodes at rows ++ column read 5 (at + rows * (3 + 5 * nodes)) nodes
  cells-last at zero =
      cells-suc at 0
      ∙ rw (cells-none (at + (3 + 5 * nodes)), cells-none at) (append-nil (column read 5 at nodes) ∙ ap (λ (k : ℕ). column read 5 k nodes) (omega arith))
  cells-last at (suc rows) =
      let next = at + (3 + 5 * nodes) in
      ap (cells read nodes at) (add-one (suc rows))
      ∙ cells-suc at (suc rows)
      ∙ ap (λ (l : List ℕ). column read 5 at nodes ++ l) (ap (cells read nodes next) (sym (add-one rows)) ∙ cells-last next rows)
      ∙ sym (append_assoc (column read 5 at nodes) (cells read nodes next rows) (column read 5 (next + rows * (3 + 5 * nodes)) nodes))
      ∙ ap₂ (λ (l : List ℕ) (k : ℕ). l ++ column read 5 k nodes) (sym (cells-suc at rows)) (omega arith)

  -- a row is written behind the rows before it: `now` is the list before the turn, `new` after it
  pub cells-turn : (at rows p : ℕ) (old now new : List ℕ) → p ≡ at + rows * (3 + 5 * nodes)
      → now ≡ cells read nodes at rows ++ drop (rows * nodes) old → new ≡ paste now (rows * nodes) (column read 5 p nodes) nodes
      → new ≡ cells read nodes at (rows + 1) ++ drop ((rows + 1) * nodes) old
  cells-turn at rows p old now new e q r =
      let c = cells read nodes at rows in
      let row = column read 5 p nodes in
      let k = rows * nodes in
      let next : k + nodes ≡ (rows + 1) * nodes = omega arith in
      let taken : take k (c ++ drop k old) ≡ c = take_at c (drop k old) k (cells-length at rows) in
      let all : take nodes row ≡ row = take_all nodes row (omega (arith, column-length read 5 p nodes)) in
      let rest : drop (k + nodes) (c ++ drop k old) ≡ drop ((rows + 1) * nodes) old =
      ap (λ (j : ℕ). drop (j + nodes) (c ++ drop k old)) (sym (cells-length at rows))
      ∙ drop-append-add c (drop k old) nodes ∙ drop-drop nodes k old ∙ ap (λ (j : ℕ). drop j old) next in
      r ∙ ap (λ (d : List ℕ). paste d k row nodes) q
      ∙ ap₂ (λ (a b : List ℕ). a ++ b ++ drop (k + nodes) (c ++ drop k old)) taken all
      ∙ ap₂ (λ (a b : List ℕ). a ++ b) (ap (λ (j : ℕ). c ++ column read 5 j nodes) e ∙ sym (cells-last at rows)) rest
