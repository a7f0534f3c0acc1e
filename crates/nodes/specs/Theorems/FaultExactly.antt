-- Theorems about what FaultExactly defines.
use Prim.Native.Nat.{ℕ, zero, suc, ◌+◌, ◌*◌, ◌<◌}
use Rattle.std.specs.Prelude.{◌≡◌, refl, true, ◌&&◌, ◌↔◌, eqb, leb, ltb, get_or, length}
use Rattle.std.proofs.Math.Logic.{⊎_elim}
use Rattle.std.proofs.Common.{eq-or-lt_of_le, le_of_suc-le-suc, not-suc-le-zero, eqb-true, leb-true, ltb-true, eq-eqb, le-leb, lt-ltb}
use native.Mathlib.Omega.{arith}
use Rattle.prelude.specs.Laws.Bools.{both, clash, or_left, or_right, or-told}
use Rattle.nodes.specs.Kinds.{last_kind, is_unknown, is_item}
use Rattle.nodes.specs.Lists.{Lists, past_end, row_fault, head_fault, any_row_fault, node_fault}
use Rattle.nodes.specs.FaultExactly.{FaultAt, other_bank, other_kind, other_state, past_values, shown_in}

module _ (banks : ℕ) (l : Lists) (i : ℕ) where
  some-row : (n : ℕ) → any_row_fault l i n ≡ true → (r : ℕ) × (r < n) × (row_fault (length l.values) (shown_in l r i) ≡ true)
  unfolding any_row_fault
  some-row zero e = absurd (clash e refl)
  some-row (suc n) e =
      ⊎_elim
      (λ (f : any_row_fault l i n ≡ true). let w = some-row n f in (w.0, omega (arith, w.1), w.2))
      (λ (f : row_fault (length l.values) (shown_in l n i) ≡ true). (n, omega arith, f))
      (or-told (any_row_fault l i n) (row_fault (length l.values) (shown_in l n i)) e)

  row_counts : (n r : ℕ) → r < n → row_fault (length l.values) (shown_in l r i) ≡ true → any_row_fault l i n ≡ true
  unfolding any_row_fault
  row_counts zero r h e = absurd (not-suc-le-zero h)
  row_counts (suc n) r h e =
      ⊎_elim
      (λ (q : r ≡ n). or_right (any_row_fault l i n) (row_fault (length l.values) (shown_in l n i)) (rw q at e))
      (λ (g : r < n). or_left (any_row_fault l i n) (row_fault (length l.values) (shown_in l n i)) (row_counts n r g e))
      (eq-or-lt_of_le (le_of_suc-le-suc h))

  head-told : head_fault banks (shown_in l 0 i) ≡ true → FaultAt banks l i
  head-told e =
      ⊎_elim (λ (f : is_unknown (get_or l.kinds i 0) ≡ true). other_kind (ltb-true last_kind (get_or l.kinds i 0) f))
      (λ (f : (eqb (get_or l.kinds i 0) 1 && leb banks (get_or l.operands i 0)) ≡ true).
      let a = both (eqb (get_or l.kinds i 0) 1) (leb banks (get_or l.operands i 0)) f in
      other_bank (eqb-true (get_or l.kinds i 0) 1 a.0) (leb-true banks (get_or l.operands i 0) a.1))
      (or-told (is_unknown (get_or l.kinds i 0)) (eqb (get_or l.kinds i 0) 1 && leb banks (get_or l.operands i 0)) e)

  row_told : (r : ℕ) → r < l.rows → row_fault (length l.values) (shown_in l r i) ≡ true → FaultAt banks l i
  row_told r h e =
      let kind = get_or l.kinds i 0 in
      let past = past_end (length l.values) (shown_in l r i) in
      ⊎_elim
      (λ (f : (ltb 2 (get_or l.kinds i 0) && ltb 2 (shown_in l r i).state) ≡ true).
      let a = both (ltb 2 kind) (ltb 2 (shown_in l r i).state) f in
      other_state r h (ltb-true 2 kind a.0) (ltb-true 2 (shown_in l r i).state a.1))
      (λ (f : (is_item (get_or l.kinds i 0) && past_end (length l.values) (shown_in l r i)) ≡ true).
      let a = both (is_item kind) past f in
      let b = both (leb 4 kind) (leb kind 6) a.0 in
      past_values r h (leb-true 4 kind b.0) (leb-true kind 6 b.1)
      (ltb-true (8 * length l.values) (get_or l.operands i 0 + (shown_in l r i).number) a.1))
      (or-told (ltb 2 kind && ltb 2 (shown_in l r i).state) (is_item kind && past) e)

  counts : FaultAt banks l i → node_fault banks l i ≡ true
  counts (other_kind h) = rw (lt-ltb last_kind (get_or l.kinds i 0) h)
  counts (other_bank e h) =
      or_left (head_fault banks (shown_in l 0 i)) (any_row_fault l i l.rows)
      (or_right (is_unknown (get_or l.kinds i 0)) (eqb (get_or l.kinds i 0) 1 && leb banks (get_or l.operands i 0))
      (rw (eq-eqb (get_or l.kinds i 0) 1 e) (le-leb banks (get_or l.operands i 0) h)))
  counts (other_state r h k s) =
      or_right (head_fault banks (shown_in l 0 i)) (any_row_fault l i l.rows)
      (row_counts l.rows r h (rw (lt-ltb 2 (get_or l.kinds i 0) k, lt-ltb 2 (shown_in l r i).state s)))
  counts (past_values r h k m s) =
      or_right (head_fault banks (shown_in l 0 i)) (any_row_fault l i l.rows)
      (row_counts l.rows r h
      (or_right (ltb 2 (get_or l.kinds i 0) && ltb 2 (shown_in l r i).state) (is_item (get_or l.kinds i 0) && past_end (length l.values) (shown_in l r i))
      (rw (le-leb 4 (get_or l.kinds i 0) k, le-leb (get_or l.kinds i 0) 6 m)
      (lt-ltb (8 * length l.values) (get_or l.operands i 0 + (shown_in l r i).number) s))))

  -- A node is at fault exactly when document 01 calls it malformed.
  pub fault-exactly : (node_fault banks l i ≡ true) ↔ FaultAt banks l i
  fault-exactly = (
    λ e.
        ⊎_elim (λ (f : head_fault banks (shown_in l 0 i) ≡ true). head-told f)
        (λ (f : any_row_fault l i l.rows ≡ true). let w = some-row l.rows f in row_told w.0 w.1 w.2)
        (or-told (head_fault banks (shown_in l 0 i)) (any_row_fault l i l.rows) e),
    counts,
  )
