-- A pass that has run to its end: a label is resolved, and stable, where the sentences say so, and the pass is unresolved exactly when they say that it is.
use Rattle.std.specs.Prelude.{◌≡◌, refl, Bool, true, false, ◌⊎◌, ◌↔◌, ℕ, zero, suc, ◌+◌, ◌-◌, ◌/◌, ◌%◌, ◌≤◌, ◌<◌, min, eqb, ℤ, pos, ◌+ℤ◌, get_or, Result, Ok}
use Rattle.std.proofs.Common.{sym, ap, subst, ◌∙◌, inl, inr, ⊎_elim, arith, eqb-true, ne_eqb, le-leb}
use Rattle.std.proofs.lemmas.Bool.{eqb-false, lt-leb}
use Rattle.prelude.specs.Laws.Bools.{either}
use Rattle.prelude.specs.declared.Refusal.{Refusal}
use Rattle.bankdef.specs.declared.Bankdef.{Bankdef}
use Rattle.bankdef.specs.declared.Bankdefs.{Bankdefs}
use Rattle.iter.specs.Address.{units_from}
use Rattle.nodes.specs.declared.Node.{Node}
use Rattle.iter.specs.declared.Pos.{Pos}
use Rattle.resolver.specs.LabelStates.{KnownOnBoundary, SameAddress}
use Rattle.resolver.specs.Theorems.LabelStates.{label-resolved-exactly, label-stable-exactly}
use Rattle.resolver.specs.Layout.{Checked}
use Rattle.resolver.specs.Laws.Least.{or-past}
use Rattle.resolver.specs.NodeOrder.{GoesPast}
use Rattle.resolver.specs.Theorems.NodeOrder.{ran-to-end}
use Rattle.resolver.specs.Once.{Program, state_of, label_state}
use Rattle.resolver.specs.Laws.PassStates.{seen_in, def_in, state_in}
use Rattle.resolver.specs.PassStates.{node_in}
use Rattle.resolver.specs.Theorems.PassStates.{small, unresolved-exactly}
use Rattle.resolver.specs.Passes.{row_of_pass, pass_at}
use Rattle.resolver.specs.Walked.{state_seen}
use Rattle.says.specs.Build as says
use Rattle.says.specs.Build.{Given, nodes, kind, unit, start, state, In, Sees, Reads, Resolved, Stable, Unresolved}
use Rattle.meets_sentences.specs.Laws.One.{in_one, sees-one, reads-one}
use Rattle.meets_build.specs.Laws.Shown.{Shown, Tells, listed, walked, row_no, node_no, state-is}
use Rattle.meets_build.specs.Laws.Walk.{bank_no, Goes, stands-in, tells-here, sees-seen}
use Rattle.meets_build.specs.Laws.Stops.{row_for, reads-row}

-- addresses of a bank, by its record
units_of : (g : Given) (b : ℕ) (def : Bankdef) → Tells g b def → (x : ℕ) → units_from def x ≡ start g b +ℤ pos (x / unit g b)
units_of g b def t x = ap (λ (z : ℤ). z +ℤ pos (x / def.unit)) t.of-start ∙ ap (λ (u : ℕ). start g b +ℤ pos (x / u)) t.of-unit

on-boundary : {x y u v : ℕ} → x ≡ y → u ≡ v → y % v ≡ 0 → x % u ≡ 0
on-boundary e f k = rw (e, f) k

module _ (g : Given) (banks : Bankdefs) (shown : Shown g banks) (c : Checked banks (listed g) g.fill) where
  abbrev p : Program
  p = walked g banks

  -- pass n goes past every node
  abbrev pub Passes : ℕ → Bool → Type 0
  Passes n last = (i : ℕ) → i < nodes g → GoesPast p (row_of_pass (listed g) n) last i

  module _ (n : ℕ) (counted : 1 ≤ n) (last : Bool) (all : Passes n last) (prior : 2 ≤ n → Passes (n - 1) false) (i : ℕ) (h : i < nodes g) where
    abbrev r : ℕ
    r = row_for g banks shown c n counted

    abbrev now : Pos
    now = (all i h).now

    abbrev def : Bankdef
    def = def_in banks (listed g) n i

    goes : Goes g banks shown c r i
    goes j k = ((all j (omega arith)).now, (all j (omega arith)).seen)

    abbrev b : ℕ
    b = bank_no g banks shown c r i

    sees-now : Sees g r i b now.position now.known
    sees-now = sees-seen g banks shown c r i h goes now (all i h).seen

    tells : Tells g b def
    tells = tells-here g banks shown c r i h goes

    -- "a label is resolved when its position is known and on a boundary"
    pub resolved-when : KnownOnBoundary def now → Resolved g n i
    resolved-when k =
        says.resolved (reads-row g banks shown c n counted) (subst (Sees g r i b now.position) k.0 sees-now)
        (on-boundary refl (sym tells.of-unit) k.1)

    pub resolved-only : Resolved g n i → KnownOnBoundary def now
    resolved-only (says.resolved reads sight on) =
        let row = reads-one g reads (reads-row g banks shown c n counted) in
        let same = sees-one g (rw row at sight) sees-now in
        (sym same.2, on-boundary (sym same.1) (tells.of-unit ∙ ap (unit g) (sym same.0)) on)

    module _ (later : 2 ≤ n) where
      abbrev r' : ℕ
      r' = row_for g banks shown c (n - 1) (omega arith)

      goes' : Goes g banks shown c r' i
      goes' j k = ((prior later j (omega arith)).now, (prior later j (omega arith)).seen)

      abbrev was : Pos
      was = (prior later i h).now

      sees-was : Sees g r' i b was.position was.known
      sees-was =
          subst (λ (x : ℕ). Sees g r' i x was.position was.known)
          (in_one g (stands-in g banks shown c r' i goes') (stands-in g banks shown c r i goes))
          (sees-seen g banks shown c r' i h goes' was (prior later i h).seen)

      to_same : {x y : Pos} → ◌≡◌ {A = Result Pos Refusal} (Ok x) (Ok y) → x ≡ y
      to_same e = cc

      -- "stable when its address equals that of the pass before (never in pass 1)"
      pub stable-when : SameAddress def now (seen_in banks (listed g) (n - 1) i) → Stable g n i
      stable-when s =
          let same : s.0 ≡ was = to_same (sym s.1 ∙ (prior later i h).seen) in
          let e : units_from def now.position ≡ units_from def was.position = s.2 ∙ ap (λ (x : Pos). units_from def x.position) same in
          says.stable (omega arith) (reads-row g banks shown c n counted) (reads-row g banks shown c (n - 1) (omega arith)) sees-now sees-was
          (sym (units_of g b def tells now.position) ∙ e ∙ units_of g b def tells was.position)

      pub stable-only : Stable g n i → SameAddress def now (seen_in banks (listed g) (n - 1) i)
      stable-only (says.stable {b = x} more reads reads' sight sight' e) =
          let row = reads-one g reads (reads-row g banks shown c n counted) in
          let row' = reads-one g reads' (reads-row g banks shown c (n - 1) (omega arith)) in
          let same = sees-one g (rw row at sight) sees-now in
          let same' = sees-one g (rw row' at sight') sees-was in (
            was,
            (prior later i h).seen,
            units_of g b def tells now.position ∙ moved same.0 same.1 same'.1 e ∙ sym (units_of g b def tells was.position),
          )
        where
          moved : {x y u v u' v' : ℕ} → x ≡ y → u ≡ v → u' ≡ v' → start g x +ℤ pos (u / unit g x) ≡ start g x +ℤ pos (u' / unit g x)
              → start g y +ℤ pos (v / unit g y) ≡ start g y +ℤ pos (v' / unit g y)
          moved e f k m = rw (← e, ← f, ← k) m

    never-in-1 : Stable g n i → 2 ≤ n
    never-in-1 (says.stable more reads reads' sight sight' e) = more

    -- ---- the state

    state-label : kind g i ≡ 2 → (state_in banks (listed g) n i ≡ 2 → (Resolved g n i → ⊥) × (Stable g n i → ⊥))
    state-label k two =
        let exact = label-resolved-exactly banks (listed g) n i k now (all i h).seen in
        let stable = label-stable-exactly banks (listed g) n i k now (all i h).seen in
        let unknown : KnownOnBoundary def now → ⊥ = λ x. let e = exact.1 x in omega arith in (
          λ x. unknown (resolved-only x),
          λ x.
              let more = never-in-1 x in
              let e = stable.1 (unknown, (λ q. omega arith), stable-only more x) in
              omega arith,
        )

    state-unresolved : kind g i ≡ 2 → (Resolved g n i → ⊥) → (Stable g n i → ⊥) → state_in banks (listed g) n i ≡ 2
    state-unresolved k no-resolved no-stable =
        let exact = label-resolved-exactly banks (listed g) n i k now (all i h).seen in
        let stable = label-stable-exactly banks (listed g) n i k now (all i h).seen in
        let not-0 : state_in banks (listed g) n i ≡ 0 → ⊥ = λ e. no-resolved (resolved-when (exact.0 e)) in
        let not-1 : state_in banks (listed g) n i ≡ 1 → ⊥ = λ e.
        let x = stable.0 e in
        let more : 2 ≤ n = omega (arith, x.1) in
        no-stable (stable-when more x.2) in
        let most = small banks (listed g) g.fill c.lists n i h in
        omega arith

    -- the other kinds
    other-of : (x : Node) (label : ℕ) → 3 ≤ x.kind → state_of x label ≡ x.state
    other-of x label k = rw (lt-leb x.kind 1 (omega arith), ne_eqb x.kind 2 (λ e. omega arith))

    early-of : (x : Node) (label : ℕ) → x.kind ≤ 1 → state_of x label ≡ 0
    early-of x label k = rw (le-leb x.kind 1 k)

    state-found : state_in banks (listed g) n i ≡ state_of (node_in banks (listed g) n i) (label_state def now (seen_in banks (listed g) (n - 1) i) (eqb n 1))
    state-found = ap (state_seen def (node_in banks (listed g) n i) (seen_in banks (listed g) (n - 1) i) (eqb n 1)) (all i h).seen

    state-other : 3 ≤ kind g i → state_in banks (listed g) n i ≡ state g r i
    state-other k = state-found ∙ other-of (node_in banks (listed g) n i) _ k ∙ state-is g banks r i h

    two-says : state_in banks (listed g) n i ≡ 2 → Unresolved g n
    two-says two =
        ⊎_elim
        (λ (l : kind g i ≤ 1). absurd (let z = state-found ∙ early-of (node_in banks (listed g) n i) _ l in let b : ⊥ = omega arith in b))
        (λ (l : 1 < kind g i).
        ⊎_elim
        (λ (m : kind g i ≤ 2).
        let label : kind g i ≡ 2 = omega arith in
        let x = state-label label two in
        says.label h label x.0 x.1)
        (λ (m : 2 < kind g i). says.by_state h m (reads-row g banks shown c n counted) (sym (state-other m) ∙ two))
        (or-past (kind g i) 2))
        (or-past (kind g i) 1)

  -- ---- what is promised

  module _ (n : ℕ) (counted : 1 ≤ n) (last : Bool) (s : ℕ) (comes : pass_at banks (listed g) n last ≡ Ok s) (prior : 2 ≤ n → Passes (n - 1) false) where
    pub past_all : Passes n last
    past_all = ran-to-end p (row_of_pass (listed g) n) (row_of_pass (listed g) (n - 1)) (eqb n 1) last s comes

    -- "A pass is unresolved if any state is 2"
    pub unresolved-when : s ≡ 2 → Unresolved g n
    unresolved-when two =
        let x = (unresolved-exactly banks (listed g) g.fill c.lists n last s comes).0 two in two-says n counted last past_all prior x.0 x.1 x.2

    pub unresolved-only : Unresolved g n → s ≡ 2
    unresolved-only (says.label {i = i} h k no-resolved no-stable) =
        (unresolved-exactly banks (listed g) g.fill c.lists n last s comes).1
        (i, h, state-unresolved n counted last past_all prior i h k no-resolved no-stable)
    unresolved-only (says.by_state {i = i} h k reads e) =
        let row = reads-one g reads (reads-row g banks shown c n counted) in
        (unresolved-exactly banks (listed g) g.fill c.lists n last s comes).1
        (i, h, state-other n counted last past_all prior i h k ∙ rw row at e)
