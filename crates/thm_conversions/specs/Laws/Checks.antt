-- The checks before the passes: of the table, where 2 names bank 1 for a filled bank of size 0 alone, and of the lists, where a field of 4 stays and a
-- node is one higher.
use Prim.Native.Nat.{ℕ, zero, suc, ◌+◌, ◌*◌, ◌≤◌, ◌<◌}
use Rattle.std.specs.Prelude.{◌≡◌, [], ◌∷◌, eqb, leb, ltb, get_or, length, Err}
use Rattle.std.proofs.Math.Path.{refl}
use Rattle.std.proofs.Common.{sym, ap, ◌∙◌, arith, eqb-true, eq-eqb, leb-true, le-leb}
use mathlib.Core.Bool.{Bool, true, false, not, ◌&&◌, ◌||◌}
use Rattle.prelude.specs.Laws.Bools.{either, both}
use Rattle.prelude.specs.Limits.{max_nodes, max_rows}
use Rattle.prelude.specs.Pick.{pick}
use Rattle.prelude.specs.declared.Refusal.TheVariants.{BankNumber, Malformed}
use Rattle.prelude.specs.Verdict.{Accepted, Verdict}
use Rattle.bankdef.specs.Check.{check_banks, first_pair}
use Rattle.bankdef.specs.Numbers.{start_sound, is_zero, fill_bit, bank_fault, zero_fault}
use Rattle.bankdef.specs.Search.{first_where}
use Rattle.bankdef.specs.declared.Bankdef.{Bankdef}
use Rattle.nodes.specs.Kinds.{is_item}
use Rattle.nodes.specs.declared.Node.{Node}
use Rattle.nodes.specs.Lists.{Lists, Row, node_at, node_of, row_at, row_fault, head_fault, any_row_fault, node_fault, first_of, nodes_to}
use Rattle.nodes.specs.Lists.{node_count_sound, row_count_sound, known_fill, lists_of}
use Rattle.thm_conversions.specs.Widened.{bare, turned, shifted, misplaced, with_switch}
use Rattle.thm_conversions.specs.Steps.{up}
use Rattle.thm_conversions.specs.Laws.Cells.{length-ahead, turned-length}
use Rattle.thm_conversions.specs.Cells.{Counted}
use Rattle.thm_conversions.specs.Theorems.Cells.{row-zeroed, node-up}

-- ---- the table

-- bank 0 with its unit and start alone is at fault for these alone
bare-fault : (d : Bankdef) → bank_fault (bare d) ≡ misplaced d
bare-fault d = go (eqb d.unit 0) (start_sound d.start)
  where
    go : (s t : Bool) → (s || (not t || (ltb 1 0 || (false && false)))) ≡ (s || not t)
    go true t = refl
    go false true = refl
    go false false = refl

-- a bank that is misplaced is at fault
misplaced-fault : (d : Bankdef) → misplaced d ≡ true → bank_fault d ≡ true
misplaced-fault d e = go (eqb d.unit 0) (not (start_sound d.start)) (ltb 1 (fill_bit d) || (d.fill && is_zero d.size)) e
  where
    go : (s t u : Bool) → (s || t) ≡ true → (s || (t || u)) ≡ true
    go true t u f = refl
    go false true u f = refl
    go false false u f = absurd (mathlib.Core.Bool.true≢false (sym f))

-- one bank without a fill bit
pub one-bank-check : (d : Bankdef) → fill_bit d ≡ 0 → check_banks (d ∷ []) ≡ pick (bank_fault d) (Err (BankNumber 0)) Accepted
unfolding first_where first_pair
one-bank-check d e = go (zero_fault d) (bank_fault d) (ap (λ (k : ℕ). eqb k 1) e)
  where
    go : (z f : Bool) → z ≡ false
        → pick (ltb (pick z 0 (pick f 0 1)) 1) (Err (BankNumber (pick z 0 (pick f 0 1)))) Accepted ≡ pick f (Err (BankNumber 0)) Accepted
    go true f g = absurd (mathlib.Core.Bool.true≢false g)
    go false true g = refl
    go false false g = refl

pub two-bank-check : (d : Bankdef) → check_banks (bare d ∷ d ∷ []) ≡ pick (bank_fault d) (Err (BankNumber (pick (misplaced d) 0 1))) Accepted
unfolding first_where first_pair
two-bank-check d =
    rw (bare-fault d)
    (either (misplaced d)
    (λ m. rw (m, misplaced-fault d m))
    (λ m. either (bank_fault d) (λ f. rw (m, f)) (λ f. rw (m, f))))

-- ---- the lists

abbrev pub shifted_verdict : Verdict → Verdict
shifted_verdict Accepted = Accepted
shifted_verdict (Err why) = Err (shifted why)

row-fault-alike : (bytes : ℕ) (n : Node) → row_fault bytes (up n) ≡ row_fault bytes n
row-fault-alike bytes n = go n.kind n.operand n.number (ltb 2 n.state)
  where
    go : (k o x : ℕ) (s : Bool)
        → ((ltb 2 k && s) || (is_item k && ltb (8 * bytes) (pick (eqb k 1) 1 o + x)))
        ≡ ((ltb 2 k && s) || (is_item k && ltb (8 * bytes) (o + x)))
    go k o x s = either (eqb k 1) (λ e. rw (eqb-true k 1 e)) (λ e. rw e)

head-fault-alike : (n : Node) → (n.kind ≡ 1 → n.operand ≡ 0) → head_fault 2 (up n) ≡ head_fault 1 n
head-fault-alike n home =
    either (eqb n.kind 1) (λ e. rw (e, home (eqb-true n.kind 1 e))) (λ e. rw e)

module _ (l : Lists) (c : Counted l) (switches : (i : ℕ) → get_or l.kinds i 0 ≡ 1 → get_or l.operands i 0 ≡ 0) where
  abbrev m : Lists
  m = with_switch l

  node-of : (r i : ℕ) → r < l.rows → node_of m.kinds m.operands m.numbers m.states r (suc i)
      ≡ up (node_of l.kinds l.operands l.numbers l.states r i)
  node-of r i h =
      same (row-zeroed l c 0 (some r h)) (row-zeroed l c r h) ∙ node-up l c (row_at l 0).numbers (row_at l r) i
    where
      some : (r : ℕ) → r < l.rows → 0 < l.rows
      some r h = omega arith

      same : {q s row other : Row} → q ≡ s → row ≡ other
          → node_at m.kinds m.operands q.numbers row (suc i) ≡ node_at m.kinds m.operands s.numbers other (suc i)
      same e f = rw (e, f)

  any-alike : (i r : ℕ) → r ≤ l.rows → any_row_fault m (suc i) r ≡ any_row_fault l i r
  unfolding any_row_fault
  any-alike i zero h = refl
  any-alike i (suc r) h =
      either_same (any-alike i r (omega arith))
      (ap (row_fault (length l.values)) (node-of r i h)
      ∙ row-fault-alike (length l.values) (node_of l.kinds l.operands l.numbers l.states r i))
    where
      either_same : {a b x y : Bool} → a ≡ x → b ≡ y → (a || b) ≡ (x || y)
      either_same e f = rw (e, f)

  -- the switch itself is at fault in no row
  no-fault : (r : ℕ) → any_row_fault m 0 r ≡ false
  unfolding any_row_fault
  no-fault zero = refl
  no-fault (suc r) = rw (no-fault r)

  module _ (some : 1 ≤ l.rows) where
    fault-alike : (i : ℕ) → node_fault 2 m (suc i) ≡ node_fault 1 l i
    fault-alike i =
        either_same
        (ap (head_fault 2) (node-of 0 i some) ∙ head-fault-alike (node_of l.kinds l.operands l.numbers l.states 0 i) (switches i))
        (any-alike i l.rows (omega arith))
      where
        either_same : {a b x y : Bool} → a ≡ x → b ≡ y → (a || b) ≡ (x || y)
        either_same e f = rw (e, f)

    nodes-shift : (i : ℕ) → nodes_to 2 m (suc i) ≡ shifted_verdict (nodes_to 1 l i)
    unfolding nodes_to
    nodes-shift zero = rw (no-fault l.rows)
    nodes-shift (suc i) = law (nodes-shift i) (fault-alike i) (nodes_to 1 l i) (node_fault 1 l i) refl refl
      where
        law : {v : Verdict} {t : Bool} → v ≡ shifted_verdict (nodes_to 1 l i) → t ≡ node_fault 1 l i → (u : Verdict) (s : Bool) → nodes_to 1 l i ≡ u
            → node_fault 1 l i ≡ s
            → first_of v (pick t (Err (Malformed (suc i))) Accepted)
            ≡ shifted_verdict (first_of (nodes_to 1 l i) (pick (node_fault 1 l i) (Err (Malformed i)) Accepted))
        law e f Accepted true g h = rw (e, f, g, h)
        law e f Accepted false g h = rw (e, f, g, h)
        law e f (Err why) s g h = rw (e, g)

  pub some-row : row_count_sound l ≡ true → 1 ≤ l.rows
  some-row e =
      leb-true 1 l.rows
      (both (leb 1 l.rows)
      (leb l.rows max_rows && (eqb (length l.numbers) (l.rows * length l.kinds) && eqb (length l.states) (l.rows * length l.kinds))) e).0

  row-count-alike : row_count_sound m ≡ row_count_sound l
  row-count-alike =
      rw (
        eq-eqb (length m.numbers) (l.rows * suc (length l.kinds)) (length-ahead (length l.kinds) l.rows l.numbers c.numbers),
        eq-eqb (length m.states) (l.rows * suc (length l.kinds)) (length-ahead (length l.kinds) l.rows l.states c.states),
        eq-eqb (length l.numbers) (l.rows * length l.kinds) c.numbers,
        eq-eqb (length l.states) (l.rows * length l.kinds) c.states,
      )

  module _ (room : suc (length l.kinds) ≤ max_nodes) where
    count-here : node_count_sound l ≡ true
    count-here = rw (le-leb (length l.kinds) max_nodes (omega arith), eq-eqb (length l.operands) (length l.kinds) c.operands)

    count-there : node_count_sound m ≡ true
    count-there =
        rw (
          le-leb (suc (length l.kinds)) max_nodes room,
          eq-eqb (suc (length (turned l.kinds l.operands))) (suc (length l.kinds)) (ap suc (turned-length l.kinds l.operands c.operands)),
        )

    -- Counts at fault: 4 with the same field, 1 for the rows and 3 for the fill.
    module _ (fill : ℕ) (e : (row_count_sound l && known_fill fill) ≡ false) where
      field : (s t : Bool) → (s && t) ≡ false → (u : Verdict)
          → pick s (pick t u (Err (Malformed 3))) (Err (Malformed 1)) ≡ Err (Malformed (pick s 3 1))
      field true true f u = absurd (mathlib.Core.Bool.true≢false f)
      field true false f u = refl
      field false t f u = refl

      pub field-here : lists_of 1 l fill ≡ Err (Malformed (pick (row_count_sound l) 3 1))
      unfolding lists_of
      field-here = rw count-here (field (row_count_sound l) (known_fill fill) e (nodes_to 1 l (length l.kinds)))

      pub field-there : lists_of 2 m fill ≡ Err (Malformed (pick (row_count_sound l) 3 1))
      unfolding lists_of
      field-there = rw (count-there, row-count-alike) (field (row_count_sound l) (known_fill fill) e (nodes_to 2 m (length m.kinds)))

    -- Sound counts: the same node, one higher.
    pub lists-shift : (fill : ℕ) → row_count_sound l ≡ true → known_fill fill ≡ true → lists_of 2 m fill ≡ shifted_verdict (lists_of 1 l fill)
    unfolding lists_of
    lists-shift fill e f = rw (count-here, count-there, row-count-alike, e, f) (nodes-shift (some-row e) (length l.kinds))
