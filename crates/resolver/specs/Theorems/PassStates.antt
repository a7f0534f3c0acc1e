-- Theorems about what PassStates defines.
use Rattle.std.specs.Prelude.{ℕ, ◌-◌, ◌<◌, ◌≤◌, min, ◌≡◌, Bool, true, false, ◌&&◌, ◌||◌, ◌⊎◌, ◌↔◌, eqb, ltb, length, Result, Ok, Err}
use Rattle.std.proofs.Common.{◌∙◌, ⊎_elim, arith, lt-ltb, ltb-false}
use Rattle.iter.specs.declared.Pos.{Pos}
use Rattle.prelude.specs.Laws.Bools.{neither}
use Rattle.prelude.specs.Verdict.{Accepted}
use Rattle.prelude.specs.declared.Refusal.{Refusal}
use Rattle.bankdef.specs.declared.Bankdefs.{Bankdefs}
use Rattle.nodes.specs.Kinds.{is_item}
use Rattle.nodes.specs.declared.Node.{Node}
use Rattle.nodes.specs.Lists.{Lists, past_end, row_fault, lists_of}
use Rattle.resolver.specs.Once.{label_state, pass_to}
use Rattle.resolver.specs.Passes.{program, row_of_pass, pass_at}
use Rattle.nodes.specs.Theorems.Sound.{accepted-row, accepted-lists}
use Rattle.resolver.specs.Walked.{state_seen}
use Rattle.resolver.specs.Theorems.Walked.{Largest, largest}
use Rattle.resolver.specs.Laws.PassStates.{def_in, label-two, seen_in, state-two, state_in, stood}
use Rattle.resolver.specs.PassStates.{node_in}

sound-state : (bytes : ℕ) (n : Node) → row_fault bytes n ≡ false → 2 < n.kind → n.state ≤ 2
sound-state bytes n e h =
    let a : (true && ltb 2 n.state) || (is_item n.kind && past_end bytes n) ≡ false = rw (lt-ltb 2 n.kind h) at e in
    ltb-false 2 n.state (neither (ltb 2 n.state) (is_item n.kind && past_end bytes n) a).0

module _ (banks : Bankdefs) (l : Lists) (fill : ℕ) (sound : lists_of banks.len l fill ≡ Accepted) (n : ℕ) where
  -- a state that is read is at most 2, as the list check has it of every row
  pub sound-state-of-row : (i : ℕ) → i < length l.kinds → 2 < (node_in banks l n i).kind → (node_in banks l n i).state ≤ 2
  sound-state-of-row i h k =
      let s = accepted-lists banks.len l fill sound in
      let some = s.rows.some in
      let row : min n l.rows - 1 < l.rows = omega arith in
      sound-state (length l.values) (node_in banks l n i)
      (accepted-row banks.len l (length l.kinds) s.nodes i h (min n l.rows - 1) row) k

  -- and so is every state that a node has in a pass
  pub small : (i : ℕ) → i < length l.kinds → state_in banks l n i ≤ 2
  small i h = seen-two (seen_in banks l n i)
    where
      seen-two : (m : Result Pos Refusal) → state_seen (def_in banks l n i) (node_in banks l n i) (seen_in banks l (n - 1) i) (eqb n 1) m ≤ 2
      seen-two (Ok now) =
          state-two (node_in banks l n i) (label_state (def_in banks l n i) now (seen_in banks l (n - 1) i) (eqb n 1))
          (label-two (def_in banks l n i) now (seen_in banks l (n - 1) i) (eqb n 1)) (sound-state-of-row i h)
      seen-two (Err why) = omega arith

  module _ (is_last : Bool) (s : ℕ) (comes : pass_at banks l n is_last ≡ Ok s) where
    merged : Largest (program banks l) (row_of_pass l n) (row_of_pass l (n - 1)) (eqb n 1) is_last (length l.kinds) s
    merged =
        let p = program banks l in
        let g = pass_to p (row_of_pass l n) (row_of_pass l (n - 1)) (eqb n 1) is_last (length l.kinds) in
        let w = stood g comes in
        largest p (row_of_pass l n) (row_of_pass l (n - 1)) (eqb n 1) is_last (length l.kinds) w.0 s w.1

    -- each node's state is at most what the pass comes to
    pub most : (i : ℕ) → i < length l.kinds → state_in banks l n i ≤ s
    most i h = merged.most i h

    -- which is 0 or the state of one of them
    pub one : (s ≡ 0) ⊎ ((i : ℕ) × (i < length l.kinds) × (state_in banks l n i ≡ s))
    one = merged.one

    two-at-most : s ≤ 2
    two-at-most =
        ⊎_elim (λ (z : s ≡ 0). omega arith)
        (λ (w : (i : ℕ) × (i < length l.kinds) × (state_in banks l n i ≡ s)). let h = small w.0 w.1 in let e = w.2 in omega arith)
        one

    -- "A pass is unresolved if any state is 2"
    pub unresolved-exactly : (s ≡ 2) ↔ ((i : ℕ) × (i < length l.kinds) × (state_in banks l n i ≡ 2))
    unresolved-exactly = (
      λ e.
          ⊎_elim (λ (z : s ≡ 0). absurd (let b : ⊥ = omega arith in b))
          (λ (w : (i : ℕ) × (i < length l.kinds) × (state_in banks l n i ≡ s)). (w.0, w.1, w.2 ∙ e))
          one,
      λ w. let h = most w.0 w.1 in let e = w.2 in let t = two-at-most in omega arith,
    )
