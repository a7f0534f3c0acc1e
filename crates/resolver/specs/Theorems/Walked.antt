-- Theorems about what Walked defines.
use Prim.Native.Nat.{ℕ, zero, suc, ◌<◌, ◌≤◌, max}
use Rattle.std.specs.Prelude.{◌≡◌, Bool, ◌⊎◌, Result, Ok, Err}
use Rattle.std.proofs.Math.Path.{refl}
use Rattle.std.proofs.Common.{sym, ◌∙◌, inl, inr, ⊎_elim, eq-or-lt_of_le, le_of_suc-le-suc, arith}
use Rattle.prelude.specs.declared.Refusal.TheVariants.{LabelOffBoundary}
use Rattle.prelude.specs.declared.Refusal.{Refusal}
use Rattle.bankdef.specs.declared.Bankdef.{Bankdef}
use Rattle.nodes.specs.declared.Node.{Node}
use Rattle.iter.specs.declared.Walk.{Walk}
use Rattle.iter.specs.declared.Pos.{Pos}
use Rattle.resolver.specs.Laws.Least.{or-past}
use Rattle.nodes.specs.Lists.{Row}
use Rattle.resolver.specs.Once.{Program, Going, on, off, node, bank_of, step_at, walk_to, label_state, state_of, off_boundary, met, meets, pass_to}
use Rattle.resolver.specs.Laws.Walked.{goes-walk, taken-state}
use Rattle.resolver.specs.Walked.{state_seen}

met-max : (def : Bankdef) (n : Node) (before : Result Pos Refusal) (is_first is_last : Bool) (merged : ℕ) (seen : Result Pos Refusal) {s : ℕ}
    → met def n before is_first is_last merged seen ≡ Ok s → s ≡ max merged (state_seen def n before is_first seen)
met-max def n before is_first is_last merged (Ok now) e =
    taken-state (off_boundary def n now is_last) (LabelOffBoundary n.index) (max merged (state_of n (label_state def now before is_first))) e
met-max def n before is_first is_last merged (Err why) e = cc

module _ (p : Program) (row before : Row) (is_first is_last : Bool) where
  none-merged : (w : Walk) (s : ℕ) → pass_to p row before is_first is_last 0 ≡ on w s → s ≡ 0
  unfolding pass_to
  none-merged w s e = cc

  meets-walk : (i : ℕ) (g : Going) {w : Walk} {s : ℕ} → ((x : Walk) (t : ℕ) → g ≡ on x t → x ≡ walk_to p row i)
      → meets p row before is_first is_last i g ≡ on w s → w ≡ (step_at p row (walk_to p row i) i).walk
  meets-walk i (on x t) walked e =
      rw (← (walked x t refl)) (goes-walk (step_at p row x i).walk
      (met (bank_of p.banks x (node p row i)) (node p row i) (step_at p before (walk_to p before i) i).seen is_first is_last t
      (step_at p row x i).seen) e).0
  meets-walk i (off why) walked e = cc

  -- A pass that goes on stands where the walk of its row does: its positions come from its row alone.
  pub same-walk : (i : ℕ) (w : Walk) (s : ℕ) → pass_to p row before is_first is_last i ≡ on w s → w ≡ walk_to p row i
  unfolding pass_to walk_to
  same-walk zero w s e = cc
  same-walk (suc i) w s e = meets-walk i (pass_to p row before is_first is_last i) (same-walk i) e

  -- the state that node i has in the pass
  abbrev pub state_at : ℕ → ℕ
  state_at i =
      state_seen (bank_of p.banks (walk_to p row i) (node p row i)) (node p row i) (step_at p before (walk_to p before i) i).seen is_first
      (step_at p row (walk_to p row i) i).seen

  -- a pass that went on past node i had gone on to it
  pub record Prior (i s : ℕ) : Type 0 where
    pub merged : ℕ
    pub pass : pass_to p row before is_first is_last i ≡ on (walk_to p row i) merged
    pub more : s ≡ max merged (state_at i)

  prior-of : (i : ℕ) (w : Walk) (s : ℕ) (g : Going) → pass_to p row before is_first is_last i ≡ g → meets p row before is_first is_last i g ≡ on w s → Prior i s
  prior-of i w s (on x t) f e =
      let walked = same-walk i x t f in
      let went = goes-walk (step_at p row x i).walk (met (bank_of p.banks x (node p row i)) (node p row i)
      (step_at p before (walk_to p before i) i).seen is_first is_last t (step_at p row x i).seen) e in
      record {
        merged = t;
        pass = f ∙ rw walked;
        more = rw (← walked) (met-max (bank_of p.banks x (node p row i)) (node p row i) (step_at p before (walk_to p before i) i).seen is_first
            is_last t (step_at p row x i).seen went.1);
      }
  prior-of i w s (off why) f e = absurd (let z : ◌≡◌ {A = ℕ} 0 1 = cc in let b : ⊥ = omega arith in b)

  prior : (i : ℕ) (w : Walk) (s : ℕ) → pass_to p row before is_first is_last (suc i) ≡ on w s → Prior i s
  unfolding pass_to
  prior i w s e = prior-of i w s (pass_to p row before is_first is_last i) refl e

  -- s is the largest state of the first n nodes: each is at most s, and s is 0 or one of them
  pub record Largest (n s : ℕ) : Type 0 where
    pub most : (i : ℕ) → i < n → state_at i ≤ s
    pub one : (s ≡ 0) ⊎ ((i : ℕ) × (i < n) × (state_at i ≡ s))

  larger : (n s : ℕ) (b : Prior n s) → Largest n b.merged → Largest (suc n) s
  larger n s b a =
      let more = b.more in
      record {
        most = λ i. λ h. ⊎_elim (λ (q : i ≡ n). rw q (omega arith)) (λ (g : i < n). omega (arith, a.most i g)) (eq-or-lt_of_le (le_of_suc-le-suc h));
        one =
            ⊎_elim
            (λ (g : state_at n ≤ b.merged).
            let e : s ≡ b.merged = omega arith in
            ⊎_elim (λ (z : b.merged ≡ 0). inl (omega arith)) (λ (w : (i : ℕ) × (i < n) × (state_at i ≡ b.merged)). inr
            (w.0, omega (arith, w.1), w.2 ∙ sym e)) a.one)
            (λ (g : b.merged < state_at n). inr (n, omega arith, omega arith))
            (or-past (state_at n) b.merged);
      }

  -- What a pass that is not refused comes to is the largest of its nodes' states.
  pub largest : (n : ℕ) (w : Walk) (s : ℕ) → pass_to p row before is_first is_last n ≡ on w s → Largest n s
  largest zero w s e = record { most = λ i. λ h. absurd (let b : ⊥ = omega arith in b); one = inl (none-merged w s e) }
  largest (suc n) w s e = let b = prior n w s e in larger n s b (largest n (walk_to p row n) b.merged b.pass)
