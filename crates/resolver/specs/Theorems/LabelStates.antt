-- Theorems about what LabelStates defines.
use Prim.Native.Nat.{ℕ, zero, suc, ◌-◌, ◌<◌, ◌≤◌}
use Rattle.std.specs.Prelude.{◌≡◌, Bool, true, false, not, ◌&&◌, ◌↔◌, eqb, get_or, length, Ok, Result, Err}
use Rattle.std.proofs.Math.Path.{refl, ap}
use Rattle.std.proofs.Common.{sym, ◌∙◌, arith, ne_eqb}
use Rattle.prelude.specs.Pick.{pick}
use Rattle.prelude.specs.Laws.Bools.{both, clash}
use Rattle.prelude.specs.declared.Refusal.{Refusal}
use Rattle.bankdef.specs.declared.Bankdef.{Bankdef}
use Rattle.bankdef.specs.declared.Bankdefs.{Bankdefs}
use Rattle.iter.specs.Address.{on_boundary}
use Rattle.iter.specs.Step.{bank_after, start_of, step_of}
use Rattle.iter.specs.Laws.StepCases.{step-cases}
use Rattle.nodes.specs.declared.Node.{Node}
use Rattle.iter.specs.declared.Pos.{Pos}
use Rattle.iter.specs.declared.Stepped.{Stepped}
use Rattle.iter.specs.declared.Walk.{Walk}
use Rattle.resolver.specs.Ends.{Runs, after, at_limit}
use Rattle.nodes.specs.Lists.{Lists, Row}
use Rattle.resolver.specs.NodeOrder.{def_at, GoesPast}
use Rattle.resolver.specs.Theorems.NodeOrder.{ran-to-end}
use Rattle.resolver.specs.Laws.NodeOrder.{seen_apart}
use Rattle.resolver.specs.Once.{Program, node, same_address, label_state, state_of, walk_to}
use Rattle.resolver.specs.Laws.PassStates.{seen_in, def_in, state_in}
use Rattle.resolver.specs.PassStates.{node_in}
use Rattle.resolver.specs.Passes.{program, row_of_pass, pass_at, unresolved}
use Rattle.resolver.specs.Walked.{state_seen}
use Rattle.resolver.specs.LabelStates.{KnownOnBoundary, SameAddress}
use Rattle.resolver.specs.Laws.LabelStates.{not_first, not-held, resolved-of, same-told, settled-told, stable-of, told_same, told-settled}

module _ (banks : Bankdefs) (l : Lists) (n i : ℕ) (label : get_or l.kinds i 0 ≡ 2) (now : Pos) (seen : seen_in banks l n i ≡ Ok now) where
  -- what a label's state is, by what it sees
  of-label : state_in banks l n i ≡ label_state (def_in banks l n i) now (seen_in banks l (n - 1) i) (eqb n 1)
  of-label =
      ap (state_seen (def_in banks l n i) (node_in banks l n i) (seen_in banks l (n - 1) i) (eqb n 1)) seen
      ∙ labelled (node_in banks l n i) (label_state (def_in banks l n i) now (seen_in banks l (n - 1) i) (eqb n 1)) label
    where
      labelled : (x : Node) (s : ℕ) → x.kind ≡ 2 → state_of x s ≡ s
      labelled x s e = rw e

  -- "a label is resolved when its position is known and on a boundary"
  pub label-resolved-exactly : (state_in banks l n i ≡ 0) ↔ KnownOnBoundary (def_in banks l n i) now
  label-resolved-exactly = (
    λ e. settled-told (def_in banks l n i) now (resolved-of (now.known && on_boundary (def_in banks l n i) now.position)
        (not (eqb n 1) && same_address (def_in banks l n i) now (seen_in banks l (n - 1) i)) (sym of-label ∙ e)),
    λ h. of-label ∙ rw (told-settled (def_in banks l n i) now h),
  )

  -- "stable when its address equals that of the pass before (never in pass 1)"
  pub label-stable-exactly : (state_in banks l n i ≡ 1) ↔ ((KnownOnBoundary (def_in banks l n i) now → ⊥) × (n ≡ 1 → ⊥) × SameAddress
      (def_in banks l n i) now (seen_in banks l (n - 1) i))
  label-stable-exactly = (
    λ e.
        let a = stable-of (now.known && on_boundary (def_in banks l n i) now.position)
        (not (eqb n 1) && same_address (def_in banks l n i) now (seen_in banks l (n - 1) i)) (sym of-label ∙ e) in
        let b = both (not (eqb n 1)) (same_address (def_in banks l n i) now (seen_in banks l (n - 1) i)) a.1 in (
          λ h. clash (told-settled (def_in banks l n i) now h) a.0,
          not_first n b.0,
          same-told (def_in banks l n i) now (seen_in banks l (n - 1) i) b.1,
        ),
    λ h.
        of-label
        ∙ rw (
          not-held (now.known && on_boundary (def_in banks l n i) now.position) (λ e. h.0 (settled-told (def_in banks l n i) now e)),
          ne_eqb n 1 h.1,
          told_same (def_in banks l n i) now (seen_in banks l (n - 1) i) h.2,
        ),
  )

-- ---- the same bank

module _ (p : Program) where
  -- the bank that the walk stands in before node i, by the switches before it
  abbrev pub switched_to : ℕ → ℕ
  switched_to zero = 0
  switched_to (suc i) = pick (eqb (get_or p.kinds i 0) 1) (get_or p.operands i 0) (switched_to i)

  step-switches : (def : Bankdef) (walk : Walk) (x : Node) (now : Pos) → (step_of def walk x).seen ≡ Ok now
      → (step_of def walk x).walk.bank ≡ bank_after walk.bank x
  step-switches def walk x now =
      step-cases def walk x (λ (s : Stepped). s.seen ≡ Ok now → s.walk.bank ≡ bank_after walk.bank x) (λ why e. absurd (seen_apart e refl))
      (λ a b s m e. refl)

  -- A walk that no node before i stops stands in the bank that the switches say, whatever the row.
  pub bank-by-switches : (row : Row) (is_last : Bool) (i : ℕ) → ((j : ℕ) → j < i → GoesPast p row is_last j) → (walk_to p row i).bank ≡ switched_to i
  unfolding walk_to start_of
  bank-by-switches row is_last zero all = refl
  bank-by-switches row is_last (suc i) all =
      let this = all i (omega arith) in
      step-switches (def_at p row i) (walk_to p row i) (node p row i) this.now this.seen
      ∙ ap (λ (b : ℕ). bank_after b (node p row i)) (bank-by-switches row is_last i (λ j h. all j (omega arith)))

module _ (banks : Bankdefs) (l : Lists) (m n : ℕ) (is_last : Bool) (later : 2 ≤ n) where
  ended_so : (k : ℕ) (s : ℕ) → pass_at banks l k false ≡ Ok s → (i : ℕ) → i < length l.kinds → GoesPast (program banks l) (row_of_pass l k) false i
  ended_so k s e = ran-to-end (program banks l) (row_of_pass l k) (row_of_pass l (k - 1)) (eqb k 1) false s e

  two-of : (x : Result ℕ Refusal) → unresolved x ≡ true → (s : ℕ) × (x ≡ Ok s)
  two-of (Ok s) e = (s, refl)
  two-of (Err why) e = absurd (let z : ◌≡◌ {A = ℕ} 0 1 = cc in let b : ⊥ = omega arith in b)

  -- Where pass n runs, from pass 2 on, the pass before has gone past every node.
  pub before-ran : Runs (pass_at banks l) m n is_last → (i : ℕ) → i < length l.kinds → GoesPast (program banks l) (row_of_pass l (n - 1)) false i
  before-ran r = from is_last r
    where
      open-before : unresolved (pass_at banks l (n - 1) false) ≡ true → (i : ℕ) → i < length l.kinds
          → GoesPast (program banks l) (row_of_pass l (n - 1)) false i
      open-before u = let w = two-of (pass_at banks l (n - 1) false) u in ended_so (n - 1) w.0 w.1

      from : (b : Bool) → Runs (pass_at banks l) m n b → (i : ℕ) → i < length l.kinds → GoesPast (program banks l) (row_of_pass l (n - 1)) false i
      from true (after k s e) =
          let q : n - 1 ≡ k = omega arith in rw q (ended_so k s.settles.0 s.settles.1)
      from true (at_limit e u) = open-before (u (n - 1) (omega arith) (omega arith))
      from false r = open-before (r.unsettled (n - 1) (omega arith) (omega arith))
