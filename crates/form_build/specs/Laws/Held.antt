-- The lists of a sound file fit the room kept for them and stand in its front.
use Rattle.std.specs.Prelude.{◌≡◌, refl, List, ◌++◌, ℕ, ◌+◌, ◌*◌, ◌≤◌, length, take, drop, Ok}
use Rattle.std.proofs.Common.{sym, ap, ap₂, ◌∙◌, arith, le-leb, length-append, take_at}
use Rattle.prelude.specs.Verdict.{Verdict, Accepted}
use Rattle.form_fields.specs.declared.Shape.{Shape}
use Rattle.form_fields.specs.Words.{byte, word32}
use Rattle.form_fields.specs.Shape.{form_of, nodes_start, row_count}
use Rattle.form_fields.specs.Laws.Shape.{node_count, rows_start}
use Rattle.form_fields.specs.Lists.{kinds_of, operands_of, numbers_of, states_of, list_after, Lists}
use Rattle.form_fields.specs.Theorems.Filled.{places}
use Rattle.form_fields.specs.Laws.Columns.{column-length}
use Rattle.form_fields.specs.Laws.Cells.{cells-length}
use Rattle.form_build.specs.Filed.{HeldIn}

-- what was read stands in the front, and as much room is there
module _ (new old after : List ℕ) (n : ℕ) (long : length new ≡ n) (is : after ≡ new ++ drop (length new) old) where
  front : take n after ≡ new
  front = ap (take n) is ∙ take_at new (drop (length new) old) n long

  room : n ≤ length after
  room = omega (arith, ap length is, length-append new (drop (length new) old))

module _ (file : List ℕ) (s : Shape) (sound : form_of file ≡ Ok s) (kinds operands numbers states : List ℕ) where
  -- a node takes 8 of at most 65,536 bytes, and 5 more in each row
  accepted : 8192 ≤ length kinds → 8192 ≤ length operands → 13107 ≤ length numbers → 13107 ≤ length states
      → {v : Verdict} {kinds' operands' numbers' states' : List ℕ} → Lists file kinds operands numbers states v kinds' operands' numbers' states' → v ≡ Accepted
  accepted hk ho hn hs l =
      let p = places file s sound in
      let few : s.nodes ≤ 8192 = omega (arith, p.room, p.short) in
      let cells : s.rows * s.nodes ≤ 13107 = omega (arith, p.room, p.short) in
      l.verdict
      ∙ rw (
        sound,
        le-leb s.nodes (length kinds) (omega arith),
        le-leb s.nodes (length operands) (omega arith),
        le-leb (s.rows * s.nodes) (length numbers) (omega arith),
        le-leb (s.rows * s.nodes) (length states) (omega arith),
      ) refl

  pub held : 8192 ≤ length kinds → 8192 ≤ length operands → 13107 ≤ length numbers → 13107 ≤ length states
      → {v : Verdict} {kinds' operands' numbers' states' : List ℕ} → Lists file kinds operands numbers states v kinds' operands' numbers' states'
      → HeldIn file s kinds' operands' numbers' states'
  held hk ho hn hs {v} {kinds'} {operands'} {numbers'} {states'} l =
      let p = places file s sound in
      let e = accepted hk ho hn hs l in
      let many : node_count file ≡ s.nodes = sym p.nodes in
      let whole : row_count file * node_count file ≡ s.rows * s.nodes = ap₂ (λ (r n : ℕ). r * n) (sym p.rows) (sym p.nodes) in
      let k-long : length (kinds_of file) ≡ s.nodes = column-length (byte file) 8 (nodes_start file + 3) (node_count file) ∙ many in
      let o-long : length (operands_of file) ≡ s.nodes = column-length (word32 file) 8 (nodes_start file + 4) (node_count file) ∙ many in
      let n-long : length (numbers_of file) ≡ s.rows * s.nodes = cells-length (word32 file) (node_count file) (rows_start file + 3) (row_count file) ∙ whole in
      let s-long : length (states_of file) ≡ s.rows * s.nodes = cells-length (byte file) (node_count file) (rows_start file + 7) (row_count file) ∙ whole in
      let k-is : kinds' ≡ list_after Accepted (kinds_of file) kinds = l.of-kinds ∙ ap (λ (w : Verdict). list_after w (kinds_of file) kinds) e in
      let o_is : operands' ≡ list_after Accepted (operands_of file) operands = l.of-operands ∙ ap (λ (w : Verdict). list_after w (operands_of file) operands) e in
      let n-is : numbers' ≡ list_after Accepted (numbers_of file) numbers = l.of-numbers ∙ ap (λ (w : Verdict). list_after w (numbers_of file) numbers) e in
      let s-is : states' ≡ list_after Accepted (states_of file) states = l.of-states ∙ ap (λ (w : Verdict). list_after w (states_of file) states) e in
      record {
        sound = sound;
        few = omega (arith, p.room, p.short);
        kinds-fit = room (kinds_of file) kinds kinds' s.nodes k-long k-is;
        operands-fit = room (operands_of file) operands operands' s.nodes o-long o_is;
        numbers_fit = room (numbers_of file) numbers numbers' (s.rows * s.nodes) n-long n-is;
        states-fit = room (states_of file) states states' (s.rows * s.nodes) s-long s-is;
        of-kinds = front (kinds_of file) kinds kinds' s.nodes k-long k-is;
        of-operands = front (operands_of file) operands operands' s.nodes o-long o_is;
        of-numbers = front (numbers_of file) numbers numbers' (s.rows * s.nodes) n-long n-is;
        of-states = front (states_of file) states states' (s.rows * s.nodes) s-long s-is;
      }
