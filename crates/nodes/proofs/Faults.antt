-- Laws of the list check: each way through the code ends in what the definition says of the node.
use Prim.Native.Nat.{ℕ, zero, suc, ◌+◌, ◌<◌}
use mathlib.Core.Path.{◌≡◌, refl, sym, ◌∙◌}
use Rattle.std.proofs.Math.Nat.{add-zero, zero-add}
use mathlib.Core.Bool.{Bool, false, ◌&&◌, ◌||◌}
use Rattle.std.proofs.Math.Bool.{or-false, or_assoc}
use native.Mathlib.Omega.{arith}
use lib.ListN.{length, get_or}
use Rattle.std.specs.List.{list_any, range_with_len}
use lib.Dec.{ltb, leb, eqb}
use Rattle.nodes.specs.declared.Node.{Node}
use Rattle.nodes.specs.Kinds.{is_unknown, reads_state, is_item}
use Rattle.nodes.specs.Lists.{Lists, node_of, past_end, row_fault, any_row_fault, node_fault}
use borrow.Author.Tests.{lt-ltb, lt-leb, leb-false, eq-eqb, ne_eqb}

-- a row at fault, by whether the node is an item: the kind is looked at once for all rows
pub read-fault : (bytes : ℕ) (node : Node) {item : Bool} → 2 < node.kind → is_item node.kind ≡ item
    → ltb 2 node.state || (item && past_end bytes node) ≡ row_fault bytes node
read-fault bytes node h e = rw (lt-ltb 2 node.kind, e)

-- one number more of a range that is tried
any-more : (test : ℕ → Bool) (a n : ℕ) → list_any test (range_with_len a (suc n)) ≡ list_any test (range_with_len a n) || test (a + n)
any-more test a zero = rw (add-zero a) (or-false (test a))
any-more test a (suc n) =
    let e : a + 1 + n ≡ a + suc n = omega arith in
    rw (any-more test (a + 1) n, e) (sym (or_assoc (test a) (list_any test (range_with_len (a + 1) n)) (test (a + suc n))))

module _ (l : Lists) (i : ℕ) where
  -- node i as row r shows it
  abbrev shown : ℕ → Node
  shown r = node_of l.kinds l.operands l.numbers l.states r i

  -- what the code asks of a row, at the flag that it has of the node
  abbrev pub asked : Bool → ℕ → Bool
  asked item r = ltb 2 (shown r).state || (item && past_end (length l.values) (shown r))

  pub rows-asked : (item : Bool) → (2 < get_or l.kinds i 0) × (is_item (get_or l.kinds i 0) ≡ item) → (n : ℕ)
      → list_any (asked item) (range_with_len 0 n) ≡ any_row_fault l i n
  unfolding any_row_fault
  rows-asked item k zero = refl
  rows-asked item k (suc n) =
      rw (any-more (asked item) 0 n, rows-asked item k n, zero-add n, read-fault (length l.values) (shown n) k.0 k.1)

-- what can be wrong at a node, by what its kind is
module _ (banks : ℕ) (l : Lists) (i : ℕ) {kind : ℕ} (k : kind ≡ get_or l.kinds i 0) where
  unread-row : (r : ℕ) → reads_state (get_or l.kinds i 0) ≡ false → row_fault (length l.values) (shown l i r) ≡ false
  unread-row r e =
      let h = leb-false 3 (get_or l.kinds i 0) e in
      let g : get_or l.kinds i 0 < 4 = omega arith in
      rw (e, lt-leb 4 (get_or l.kinds i 0))

  unread-rows : (r : ℕ) → reads_state (get_or l.kinds i 0) ≡ false → any_row_fault l i r ≡ false
  unfolding any_row_fault
  unread-rows zero e = refl
  unread-rows (suc r) e = rw (unread-rows r e, unread-row r e)

  module _ (u : is_unknown kind ≡ false) where
    known : is_unknown (get_or l.kinds i 0) ≡ false
    known = rw k at u

    pub switch-fault : kind ≡ 1 → {operand x : ℕ} → operand ≡ get_or l.operands i 0 → x ≡ operand → leb banks x ≡ node_fault banks l i
    switch-fault e o w =
        let f : get_or l.kinds i 0 ≡ 1 = omega arith in
        let s : reads_state (get_or l.kinds i 0) ≡ false = rw f in
        rw (w, o, known, eq-eqb (get_or l.kinds i 0) 1 f, unread-rows l.rows s) (sym (or-false _))

    module _ (n : kind ≡ 1 → ⊥) where
      no_switch : eqb (get_or l.kinds i 0) 1 ≡ false
      no_switch = ne_eqb (get_or l.kinds i 0) 1 (λ e. n (k ∙ e))

      pub no-fault : reads_state kind ≡ false → false ≡ node_fault banks l i
      no-fault e = let f : reads_state (get_or l.kinds i 0) ≡ false = rw k at e in rw (known, no_switch, unread-rows l.rows f)
