-- Theorems about what OneWalk defines: what a pass over a row comes to, whatever the pass before reads.
use Rattle.std.specs.Prelude.{ℕ, ◌+◌, ◌/◌, ◌<◌, ◌≤◌, min, ◌≡◌, refl, Bool, true, false, not, ◌&&◌, eqb, leb, ltb, length, Result, Ok, Err}
use Rattle.std.proofs.Common.{sym, ap, ◌∙◌, ⊎_elim, arith, eqb-true, ltb-false, lt-ltb, eq-eqb}
use Rattle.std.proofs.lemmas.Bool.{eqb-false}
use Rattle.prelude.specs.Pick.{pick}
use Rattle.prelude.specs.Limits.{max_banks}
use Rattle.prelude.specs.Laws.Bools.{either, neither}
use Rattle.prelude.specs.declared.Refusal.{Refusal}
use Rattle.bankdef.specs.declared.Bankdef.{Bankdef}
use Rattle.bankdef.specs.declared.Bankdefs.{Bankdefs}
use Rattle.iter.specs.Address.{on_boundary}
use Rattle.iter.specs.Step.{bank_after, bad_state}
use Rattle.iter.specs.Theorems.StepFacts.{made-sound}
use Rattle.nodes.specs.declared.Node.{Node}
use Rattle.iter.specs.declared.Pos.{Pos}
use Rattle.nodes.specs.Lists.{Lists, Row}
use Rattle.resolver.specs.Laws.LabelStates.{settled-told, resolved-of}
use Rattle.resolver.specs.Laws.PassStates.{label-two, state-two, stood}
use Rattle.resolver.specs.NodeOrder.{GoesPast, def_at, seen_at}
use Rattle.resolver.specs.Once.{Program, node, same_address, label_state, state_of, walk_to, pass_to, pass_of}
use Rattle.resolver.specs.OneWalk.{in_doubt}
use Rattle.resolver.specs.Passes.{pass_at}
use Rattle.resolver.specs.Theorems.NodeOrder.{first-met, met-first, ran-to-end, runs-to-end}
use Rattle.resolver.specs.Theorems.Walked.{Largest, largest, state_at}
use Rattle.resolver.specs.Walked.{state_seen}

-- ---- one node, that sees a position

module _ (n : Node) (def : Bankdef) (now : Pos) where
  -- a label's state where it is resolved
  held : (before : Result Pos Refusal) (is_first : Bool) → n.kind ≡ 2 → state_of n (label_state def now before is_first) ≡ 0
      → (now.known && on_boundary def now.position) ≡ true
  held before is_first k e =
      resolved-of (now.known && on_boundary def now.position) (not is_first && same_address def now before) (rw k at e)

  -- a node that is resolved is so beside any other row
  zero_same : (before other : Result Pos Refusal) (is_first again : Bool) → state_of n (label_state def now before is_first) ≡ 0 → state_of n (label_state def now other again) ≡ 0
  zero_same before other is_first again e =
      either (leb n.kind 1) (λ t. rw t)
      (λ t.
      either (eqb n.kind 2) (λ u. let h = held before is_first (eqb-true n.kind 2 u) e in rw (t, u, h))
      (λ u. let h : n.state ≡ 0 = rw (t, u) at e in rw (t, u) h))

  -- a label is never unresolved beside its own row, so an unresolved node has its row's state
  two-same : (other : Result Pos Refusal) (again : Bool) → state_of n (label_state def now (Ok now) false) ≡ 2 → state_of n (label_state def now other again) ≡ 2
  two-same other again e =
      either (leb n.kind 1) (λ t. absurd (let z : ◌≡◌ {A = ℕ} 0 2 = rw t at e in let b : ⊥ = omega arith in b))
      (λ t.
      either (eqb n.kind 2)
      (λ u. absurd (own (now.known && on_boundary def now.position) (let z : label_state def now (Ok now) false ≡ 2 = rw (t, u) at e in z)))
      (λ u. let h : n.state ≡ 2 = rw (t, u) at e in rw (t, u) h))
    where
      own : (b : Bool) → ◌≡◌ {A = ℕ} (pick b 0 (pick (same_address def now (Ok now)) 1 2)) 2 → ⊥
      own true z = omega arith
      own false z = let h : ◌≡◌ {A = ℕ} 1 2 = rw (eq-eqb (now.position / def.unit) (now.position / def.unit) refl) at z in omega arith

module _ (p : Program) (row : Row) where
  -- Refused, whatever the pass before reads: 5 and 7 come from the row's own walk.
  pub refused-alike : (before other : Row) (is_first again is_last : Bool) {why : Refusal} → pass_of p row before is_first is_last ≡ Err why
      → pass_of p row other again is_last ≡ Err why
  refused-alike before other is_first again is_last {why} e =
      let m = first-met p row before is_first is_last why e in met-first p row other again is_last m.0 why m.1

  -- what a node's state is, by what it sees
  seen-state : (before : Row) (is_first is_last : Bool) (i : ℕ) {now : Pos} → seen_at p row i ≡ Ok now
      → state_at p row before is_first is_last i ≡ state_of (node p row i) (label_state (def_at p row i) now (seen_at p before i) is_first)
  seen-state before is_first is_last i seen = ap (state_seen (def_at p row i) (node p row i) (seen_at p before i) is_first) seen

  merged : (before : Row) (is_first is_last : Bool) {s : ℕ} → pass_of p row before is_first is_last ≡ Ok s
      → Largest p row before is_first is_last (length p.kinds) s
  merged before is_first is_last {s} e =
      let w = stood (pass_to p row before is_first is_last (length p.kinds)) e in
      largest p row before is_first is_last (length p.kinds) w.0 s w.1

  -- a state that a pass has read is 0, 1 or 2
  read_small : (i : ℕ) {now : Pos} → seen_at p row i ≡ Ok now → 2 < (node p row i).kind → (node p row i).state ≤ 2
  read_small i {now} seen k =
      let walk = walk_to p row i in
      let bank = bank_after walk.bank (node p row i) in
      small_of (node p row i) (neither (leb max_banks bank) (bad_state (node p row i)) (made-sound (def_at p row i) walk (node p row i) now seen)).1 k
    where
      small_of : (n : Node) → bad_state n ≡ false → 2 < n.kind → n.state ≤ 2
      small_of n e h = let f : ltb 2 n.state ≡ false = rw (lt-ltb 2 n.kind h) at e in ltb-false 2 n.state f

  small_at : (before : Row) (is_first is_last : Bool) (i : ℕ) {now : Pos} → seen_at p row i ≡ Ok now → state_at p row before is_first is_last i ≤ 2
  small_at before is_first is_last i {now} seen =
      rw (seen-state before is_first is_last i seen)
      (state-two (node p row i) (label_state (def_at p row i) now (seen_at p before i) is_first) (label-two (def_at p row i) now (seen_at p before i) is_first)
      (read_small i seen))

  module _ (before : Row) (is_first is_last : Bool) (other : Row) (again last : Bool) where
    -- Resolved, whatever the pass before reads, and as the last pass too: each label is on a boundary.
    pub resolved-alike : pass_of p row before is_first is_last ≡ Ok 0 → pass_of p row other again last ≡ Ok 0
    resolved-alike e =
        let all = merged before is_first is_last e in
        let past = ran-to-end p row before is_first is_last 0 e in
        let zero : (i : ℕ) (h : i < length p.kinds) → state_of (node p row i) (label_state (def_at p row i) (past i h).now (seen_at p before i) is_first) ≡ 0 =
        λ i h. sym (seen-state before is_first is_last i (past i h).seen) ∙ none (all.most i h) in
        let goes : (i : ℕ) → i < length p.kinds → GoesPast p row last i =
        λ i h. record {
          now = (past i h).now;
          seen = (past i h).seen;
          on = λ l k. (settled-told (def_at p row i) (past i h).now
              (held (node p row i) (def_at p row i) (past i h).now (seen_at p before i) is_first k (zero i h))).1;
        } in
        let r = runs-to-end p row other again last goes in
        let same : r.0 ≡ 0 =
        ⊎_elim (λ (z : r.0 ≡ 0). z)
        (λ (w : (i : ℕ) × (i < length p.kinds) × (state_at p row other again last i ≡ r.0)).
        sym w.2 ∙ seen-state other again last w.0 (past w.0 w.1).seen
        ∙ zero_same (node p row w.0) (def_at p row w.0) (past w.0 w.1).now (seen_at p before w.0) (seen_at p other w.0) is_first again
        (zero w.0 w.1))
        (merged other again last r.1).one in
        r.1 ∙ ap Ok same
      where
        none : {x : ℕ} → x ≤ 0 → x ≡ 0
        none h = omega arith

  -- Unresolved beside its own row, and so beside every other.
  pub unresolved-alike : (other : Row) (again is_last : Bool) → pass_of p row row false is_last ≡ Ok 2 → pass_of p row other again is_last ≡ Ok 2
  unresolved-alike other again is_last e =
      let past = ran-to-end p row row false is_last 2 e in
      let r = runs-to-end p row other again is_last past in
      let all = merged other again is_last r.1 in
      let two : 2 ≤ r.0 =
      ⊎_elim (λ (z : ◌≡◌ {A = ℕ} 2 0). absurd (let b : ⊥ = omega arith in b))
      (λ (w : (i : ℕ) × (i < length p.kinds) × (state_at p row row false is_last i ≡ 2)).
      let seen = (past w.0 w.1).seen in
      let here : state_of (node p row w.0) (label_state (def_at p row w.0) (past w.0 w.1).now (Ok (past w.0 w.1).now) false) ≡ 2 =
      ap (λ (m : Result Pos Refusal). state_of (node p row w.0) (label_state (def_at p row w.0) (past w.0 w.1).now m false)) (sym seen)
      ∙ sym (seen-state row false is_last w.0 seen) ∙ w.2 in
      let there = seen-state other again is_last w.0 seen
      ∙ two-same (node p row w.0) (def_at p row w.0) (past w.0 w.1).now (seen_at p other w.0) again here in
      let most = all.most w.0 w.1 in
      omega (arith, there, most))
      (merged row false is_last e).one in
      let few : r.0 ≤ 2 =
      ⊎_elim (λ (z : r.0 ≡ 0). omega arith)
      (λ (w : (i : ℕ) × (i < length p.kinds) × (state_at p row other again is_last i ≡ r.0)).
      let h = small_at other again is_last w.0 (past w.0 w.1).seen in let f = w.2 in omega (arith, h, f))
      all.one in
      r.1 ∙ ap Ok (let q : r.0 ≡ 2 = omega (arith, two, few) in q)

  -- A pass that is held against its own row tells, unless it is in doubt, what the pass comes to beside every other.
  pub told-alone : (other : Row) (is_last : Bool) (v : Result ℕ Refusal) → v ≡ pass_of p row row false is_last → in_doubt v ≡ false → v ≡ pass_of p row other false is_last
  told-alone other is_last (Err why) e d = sym (refused-alike row other false false is_last (sym e))
  told-alone other is_last (Ok s) e d =
      let pass = sym e in
      either (eqb s 0)
      (λ t. let z = eqb-true s 0 t in ap Ok z ∙ sym (resolved-alike row false is_last other false is_last (pass ∙ ap Ok z)))
      (λ t.
      let past = ran-to-end p row row false is_last s pass in
      let n0 = eqb-false s 0 t in
      let n1 = eqb-false s 1 d in
      let few : s ≤ 2 =
      ⊎_elim (λ (z : s ≡ 0). omega arith)
      (λ (w : (i : ℕ) × (i < length p.kinds) × (state_at p row row false is_last i ≡ s)).
      let h = small_at row false is_last w.0 (past w.0 w.1).seen in let f = w.2 in omega (arith, h, f))
      (merged row false is_last pass).one in
      let z : s ≡ 2 = omega (arith, n0, n1, few) in
      ap Ok z ∙ sym (unresolved-alike other false is_last (pass ∙ ap Ok z)))

-- A pass that read the last row and is resolved: the next one reads that row too, and is resolved as the last.
pub resolved-again : (banks : Bankdefs) (l : Lists) (k : ℕ) → l.rows ≤ k → pass_at banks l k false ≡ Ok 0 → pass_at banks l (k + 1) true ≡ Ok 0
resolved-again banks l k high e =
    let a : min k l.rows ≡ l.rows = omega arith in
    let b : min (k + 1) l.rows ≡ l.rows = omega arith in
    rw (b, ← a) (resolved-alike _ _ _ (eqb k 1) false _ (eqb (k + 1) 1) true e)
