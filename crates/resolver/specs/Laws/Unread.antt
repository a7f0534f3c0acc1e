-- Laws that Theorems/Unread rests on.
use Prim.Native.Nat.{ℕ, zero, suc, ◌+◌, ◌-◌, ◌*◌, ◌≤◌, ◌<◌, min}
use Rattle.std.specs.Prelude.{◌≡◌, Bool, ◌&&◌, ◌||◌, List, eqb, leb, ltb, get_or, length, Result, Ok, Err}
use Rattle.std.proofs.Math.Path.{refl, ap, fun_ext}
use Rattle.std.proofs.Common.{sym, ◌∙◌, ⊎_elim, arith, eq-eqb, eqb-true, leb-true, leb-false, lt-ltb, ltb-false, le-ltb}
use Rattle.std.proofs.lemmas.Bool.{eqb-false}
use Rattle.prelude.specs.Laws.Bools.{either, neither}
use Rattle.prelude.specs.Verdict.{Accepted, Verdict}
use Rattle.prelude.specs.declared.Refusal.{Refusal}
use Rattle.bankdef.specs.Check.{check_of}
use Rattle.bankdef.specs.declared.Bankdefs.{Bankdefs}
use Rattle.nodes.specs.Kinds.{is_item, ReadsNumber, last_kind, is_unknown}
use Rattle.nodes.specs.declared.Node.{Node}
use Rattle.iter.specs.declared.Stepped.{Stepped}
use Rattle.iter.specs.declared.Walk.{Walk}
use Rattle.iter.specs.declared.Pos.{Pos}
use Rattle.resolver.specs.Theorems.FirstRow.{state-of-its-row, number-of-its-row, declared-number-of-first-row}
use Rattle.resolver.specs.Layout.{unless, layout_of}
use Rattle.resolver.specs.Laws.Least.{or-past}
use Rattle.nodes.specs.Lists.{Lists, lists, row_at, past_end, row_fault, head_fault, any_row_fault, node_fault, nodes_to, lists_of}
use Rattle.resolver.specs.Once.{Going, on, off, node, bank_of, step_at, walk_to, label_state, state_of, met, meets, pass_to, closed}
use Rattle.resolver.specs.Passes.{program, pass_at, settled_by, resolution_of}
use Rattle.nodes.specs.Theorems.Sound.{accepted-node, accepted-lists}
use Rattle.resolver.specs.UnreadStep.{SameRead}
use Rattle.resolver.specs.Theorems.UnreadStep.{bank-same, step_same}
use Rattle.resolver.specs.declared.Choices.{Choices}

-- ---- the same, with the kinds and the rows in common

pub record Agree (kinds : List ℕ) (rows : ℕ) (operands numbers states values operands' numbers' states' values' : List ℕ) : Type 0 where
  pub operand-count : length operands ≡ length operands'
  pub number-count : length numbers ≡ length numbers'
  pub state-count : length states ≡ length states'
  pub value-count : length values ≡ length values'
  pub operand : (i : ℕ) → i < length kinds → 1 ≤ get_or kinds i 0 → get_or kinds i 0 ≤ 6 → get_or operands i 0 ≡ get_or operands' i 0
  pub number : (r i : ℕ) → r < rows → i < length kinds → ReadsNumber (get_or kinds i 0) → (get_or kinds i 0 ≡ 5 → r ≡ 0) →
      get_or numbers (r * length kinds + i) 0 ≡ get_or numbers' (r * length kinds + i) 0
  pub state : (r i : ℕ) → r < rows → i < length kinds → 3 ≤ get_or kinds i 0 → get_or kinds i 0 ≤ last_kind →
      get_or states (r * length kinds + i) 0 ≡ get_or states' (r * length kinds + i) 0

module _ (banks : Bankdefs) (kinds : List ℕ) (rows : ℕ) (operands numbers states values operands' numbers' states' values' : List ℕ)
    (agree : Agree kinds rows operands numbers states values operands' numbers' states' values') where
  abbrev pub one : Lists
  one = lists kinds operands numbers states rows values

  abbrev pub two : Lists
  two = lists kinds operands' numbers' states' rows values'

  abbrev node_one : ℕ → ℕ → Node
  node_one r i = node (program banks one) (row_at one r) i

  abbrev node_two : ℕ → ℕ → Node
  node_two r i = node (program banks two) (row_at two r) i

  number_read : (r i : ℕ) → r < rows → i < length kinds → ReadsNumber (get_or kinds i 0) → (node_one r i).number ≡ (node_two r i).number
  number_read r i h g reads =
      either (eqb (get_or kinds i 0) 5)
      (λ e.
      let k = eqb-true (get_or kinds i 0) 5 e in
      let z : 0 * length kinds + i ≡ i = omega arith in
      declared-number-of-first-row banks one r i g k
      ∙ ((rw z at (agree.number 0 i (omega arith) g reads (λ q. refl))) ∙ sym (declared-number-of-first-row banks two r i g k)))
      (λ e.
      let k = eqb-false (get_or kinds i 0) 5 e in
      number-of-its-row banks one r i g k ∙ (agree.number r i h g reads (λ q. absurd (k q)) ∙ sym (number-of-its-row banks two r i g k)))

  state-read : (r i : ℕ) → r < rows → i < length kinds → 3 ≤ get_or kinds i 0 → get_or kinds i 0 ≤ last_kind → (node_one r i).state ≡ (node_two r i).state
  state-read r i h g low high =
      state-of-its-row banks one r i g ∙ (agree.state r i h g low high ∙ sym (state-of-its-row banks two r i g))

  same-node : (r i : ℕ) → r < rows → i < length kinds → get_or kinds i 0 ≤ last_kind → SameRead (node_one r i) (node_two r i)
  same-node r i h g high =
      record {
        index = refl;
        kind = refl;
        operand = agree.operand i g;
        number = number_read r i h g;
        state = λ low. state-read r i h g low high;
      }

  -- ---- the list check

  switch-same : (i : ℕ) → i < length kinds → head_fault banks.len (node_one 0 i) ≡ head_fault banks.len (node_two 0 i)
  switch-same i g =
      either (eqb (get_or kinds i 0) 1)
      (λ e. let k = eqb-true (get_or kinds i 0) 1 e in rw (agree.operand i g (omega arith) (omega arith)))
      (λ e. rw e)

  row_same : (r i : ℕ) → r < rows → i < length kinds → get_or kinds i 0 ≤ last_kind
      → row_fault (length values) (node_one r i) ≡ row_fault (length values') (node_two r i)
  row_same r i h g high = either_same state-fault item-fault
    where
      either_same : {a b c d : Bool} → a ≡ c → b ≡ d → (a || b) ≡ (c || d)
      either_same e f = rw (e, f)

      state-fault : (ltb 2 (get_or kinds i 0) && ltb 2 (node_one r i).state) ≡ (ltb 2 (get_or kinds i 0) && ltb 2 (node_two r i).state)
      state-fault =
          ⊎_elim (λ (low : 3 ≤ get_or kinds i 0). rw (state-read r i h g low high))
          (λ (low : get_or kinds i 0 < 3). rw (le-ltb 2 (get_or kinds i 0) (omega arith)))
          (or-past 3 (get_or kinds i 0))

      item-fault : (is_item (get_or kinds i 0) && past_end (length values) (node_one r i)) ≡ (is_item (get_or kinds i 0) && past_end (length values') (node_two r i))
      item-fault =
          either (leb 4 (get_or kinds i 0))
          (λ e.
          let low = leb-true 4 (get_or kinds i 0) e in
          either (leb (get_or kinds i 0) 6)
          (λ f.
          let up = leb-true (get_or kinds i 0) 6 f in
          rw (agree.value-count, number_read r i h g (low, omega arith), agree.operand i g (omega arith) up))
          (λ f. rw (e, f)))
          (λ e. rw e)

  rows_same : (r i : ℕ) → r ≤ rows → i < length kinds → get_or kinds i 0 ≤ last_kind → any_row_fault one i r ≡ any_row_fault two i r
  unfolding any_row_fault
  rows_same zero i h g high = refl
  rows_same (suc r) i h g high = rw (rows_same r i (omega arith) g high, row_same r i h g high)

  fault-same : (i : ℕ) → i < length kinds → node_fault banks.len one i ≡ node_fault banks.len two i
  fault-same i g =
      ⊎_elim (λ (high : get_or kinds i 0 ≤ last_kind). rw (switch-same i g, rows_same rows i (omega arith) g high))
      (λ (past : last_kind < get_or kinds i 0). rw (lt-ltb last_kind (get_or kinds i 0) past))
      (or-past (get_or kinds i 0) last_kind)

  nodes-same : (n : ℕ) → n ≤ length kinds → nodes_to banks.len one n ≡ nodes_to banks.len two n
  unfolding nodes_to
  nodes-same zero h = refl
  nodes-same (suc n) h = rw (nodes-same n (omega arith), fault-same n h)

  check-same : (fill : ℕ) → lists_of banks.len one fill ≡ lists_of banks.len two fill
  unfolding lists_of
  check-same fill = rw (agree.operand-count, agree.number-count, agree.state-count, nodes-same (length kinds) (omega arith))

  -- ---- the passes of accepted lists

  module _ (fill : ℕ) (sound : lists_of banks.len one fill ≡ Accepted) where
    some-row : 1 ≤ rows
    some-row = (accepted-lists banks.len one fill sound).rows.some

    known-kind : (i : ℕ) → i < length kinds → get_or kinds i 0 ≤ last_kind
    known-kind i g =
        let s = accepted-lists banks.len one fill sound in
        let e = accepted-node banks.len one (length kinds) s.nodes i g in
        let a = neither (head_fault banks.len (node_one 0 i)) (any_row_fault one i rows) e in
        let b = neither (is_unknown (get_or kinds i 0)) (eqb (get_or kinds i 0) 1 && leb banks.len (get_or operands i 0)) a.0 in
        ltb-false last_kind (get_or kinds i 0) b.0

    step-at-same : (r : ℕ) → r < rows → (walk : Walk) (i : ℕ) → i < length kinds
        → step_at (program banks one) (row_at one r) walk i ≡ step_at (program banks two) (row_at two r) walk i
    step-at-same r h walk i g =
        let same = same-node r i h g (known-kind i g) in
        rw (bank-same (node_one r i) (node_two r i) same walk.bank) (step_same (node_one r i) (node_two r i) same (bank_of banks walk (node_two r i)) walk)

    walk_same : (r : ℕ) → r < rows → (i : ℕ) → i ≤ length kinds → walk_to (program banks one) (row_at one r) i ≡ walk_to (program banks two) (row_at two r) i
    unfolding walk_to
    walk_same r h zero g = refl
    walk_same r h (suc i) g =
        ap (λ (w : Walk). (step_at (program banks one) (row_at one r) w i).walk) (walk_same r h i (omega arith))
        ∙ ap (λ (s : Stepped). s.walk) (step-at-same r h (walk_to (program banks two) (row_at two r) i) i g)

    state-same : (r : ℕ) → r < rows → (i : ℕ) → i < length kinds → (label : ℕ) → state_of (node_one r i) label ≡ state_of (node_two r i) label
    state-same r h i g label =
        ⊎_elim (λ (low : 3 ≤ get_or kinds i 0). rw (state-read r i h g low (known-kind i g)))
        (λ (low : get_or kinds i 0 < 3).
        either (leb (get_or kinds i 0) 1) (λ e. rw e)
        (λ e. let l = leb-false (get_or kinds i 0) 1 e in rw (e, eq-eqb (get_or kinds i 0) 2 (omega arith))))
        (or-past 3 (get_or kinds i 0))

    module _ (r s : ℕ) (h : r < rows) (k : s < rows) (is_first is_last : Bool) where
      met-same : (i : ℕ) → i < length kinds → (walk : Walk) (before : Result Pos Refusal) (merged : ℕ) (seen : Result Pos Refusal) →
          met (bank_of banks walk (node_one r i)) (node_one r i) before is_first is_last merged seen ≡ met (bank_of banks walk (node_two r i))
          (node_two r i) before is_first is_last merged seen
      met-same i g walk before merged seen =
          rw (bank-same (node_one r i) (node_two r i) (same-node r i h g (known-kind i g)) walk.bank) (by-seen (bank_of banks walk (node_two r i)) seen)
        where
          by-seen : (def : _) (seen : Result Pos Refusal) → met def (node_one r i) before is_first is_last merged seen ≡ met def (node_two r i) before is_first is_last merged seen
          by-seen def (Ok now) = rw (state-same r h i g (label_state def now before is_first))
          by-seen def (Err why) = refl

      meets-same : (i : ℕ) → i < length kinds → (g : Going)
          → meets (program banks one) (row_at one r) (row_at one s) is_first is_last i g ≡ meets (program banks two) (row_at two r) (row_at two s) is_first
          is_last i g
      meets-same i g (off why) = refl
      meets-same i g (on walk merged) =
          rw (
            walk_same s k i (omega arith),
            step-at-same s k (walk_to (program banks two) (row_at two s) i) i g,
            step-at-same r h walk i g,
            met-same i g walk (step_at (program banks two) (row_at two s) (walk_to (program banks two) (row_at two s) i) i).seen merged
                (step_at (program banks two) (row_at two r) walk i).seen,
          )

      pass-to-same : (i : ℕ) → i ≤ length kinds
          → pass_to (program banks one) (row_at one r) (row_at one s) is_first is_last i ≡ pass_to (program banks two) (row_at two r) (row_at two s) is_first
          is_last i
      unfolding pass_to
      pass-to-same zero g = refl
      pass-to-same (suc i) g =
          ap (meets (program banks one) (row_at one r) (row_at one s) is_first is_last i) (pass-to-same i (omega arith))
          ∙ meets-same i g (pass_to (program banks two) (row_at two r) (row_at two s) is_first is_last i)

    in_rows : (n : ℕ) → min n rows - 1 < rows
    in_rows n = let h = some-row in omega arith

    pass_same : (n : ℕ) (is_last : Bool) → pass_at banks one n is_last ≡ pass_at banks two n is_last
    pass_same n is_last =
        ap closed (pass-to-same (min n rows - 1) (min (n - 1) rows - 1) (in_rows n) (in_rows (n - 1)) (eqb n 1) is_last (length kinds) (omega arith))

    settled_same : (m : ℕ) → resolution_of banks one m ≡ resolution_of banks two m
    settled_same m = ap (λ (pass : ℕ → Bool → Result ℕ Refusal). settled_by pass m) (fun_ext (λ n. fun_ext (λ b. pass_same n b)))

  pub layout-same : (choices : Choices) → layout_of banks one choices ≡ layout_of banks two choices
  unfolding layout_of
  layout-same choices = ap (unless (check_of banks)) (by-check (lists_of banks.len one choices.fill) refl)
    where
      by-check : (v : Verdict) → lists_of banks.len one choices.fill ≡ v →
          unless (lists_of banks.len one choices.fill) (resolution_of banks one choices.limit) ≡
          unless (lists_of banks.len two choices.fill) (resolution_of banks two choices.limit)
      by-check Accepted e = rw (← (check-same choices.fill), e) (settled_same choices.fill e choices.limit)
      by-check (Err why) e = rw (← (check-same choices.fill), e)
