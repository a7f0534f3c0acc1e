-- Laws of a pass: what a node adds, and the pass from node to node.
use Rattle.std.specs.Prelude.{Result, Ok, Err}
use Prim.Native.Nat.{ℕ, zero, suc, ◌+◌, ◌<◌, max}
use mathlib.Core.Path.{◌≡◌, refl, sym, ap, ◌∙◌}
use mathlib.Core.Logic.{⊎_elim}
use mathlib.Core.Bool.{Bool, true, false}
use native.Mathlib.Nat.{le_of_suc-le-suc, not-suc-le-zero, eq-or-lt_of_le}
use native.Mathlib.Numerals.{add-one}
use lib.Dec.{eqb}
use lib.ListN.{length}
use Rattle.prelude.specs.Laws.Bools.{either}
use Rattle.prelude.specs.declared.Refusal.{Refusal}
use Rattle.prelude.specs.declared.Refusal.TheVariants.{LabelOffBoundary}
use Rattle.bankdef.specs.declared.Bankdef.{Bankdef}
use Rattle.iter.specs.Pace.{seen_by}
use Rattle.iter.specs.declared.Paced.{Paced}
use Rattle.iter.specs.declared.Pos.{Pos}
use Rattle.nodes.specs.declared.Node.{Node}
use Rattle.iter.specs.declared.Walk.{Walk}
use Rattle.nodes.specs.Lists.{Row}
use Rattle.resolver.specs.Once.{bank_of, label_state, state_of, off_boundary, met, goes_on, Program, node, step_at, walk_to, pass_to, pass_of, on, off}

-- whatever node it is, a step that is refused tells no address
label-any : (def : Bankdef) (now : Pos) (before : Paced) (is_first : Bool) (i j : ℕ)
    → label_state def now (seen_by before i) is_first ≡ label_state def now (seen_by before j) is_first
label-any def now before is_first i j = either (eqb before.fault 0) (λ t. rw t) (λ t. rw t)

-- what a node adds to the states merged so far
module _ (def : Bankdef) (node : Node) (before : Result Pos Refusal) (is_first is_last : Bool) (merged : ℕ) where
  module _ {seen : Result Pos Refusal} {now : Pos} (sees : seen ≡ Ok now) {t : Bool} (edge : t ≡ off_boundary def node now is_last) where
    pub met-off : t ≡ true → Err (LabelOffBoundary node.index) ≡ met def node before is_first is_last merged seen
    met-off y = rw (sees, sym edge ∙ y)

    pub met-state : t ≡ false → {state : ℕ} → state ≡ state_of node (label_state def now before is_first) → {r : ℕ} → r ≡ max merged state
        → Ok r ≡ met def node before is_first is_last merged seen
    met-state n e f = rw (sees, sym edge ∙ n, f, e)

-- the same by the step of the pass before, whatever node it names
pub met-paced : (def : Bankdef) (node : Node) (b : Paced) (j : ℕ) (is_first is_last : Bool) (merged : ℕ) {seen : Result Pos Refusal} {now : Pos} → seen ≡ Ok now
    → {t : Bool} → t ≡ off_boundary def node now is_last → t ≡ false
    → {state : ℕ} → state ≡ state_of node (label_state def now (seen_by b 0) is_first) → {r : ℕ} → r ≡ max merged state
    → Ok r ≡ met def node (seen_by b j) is_first is_last merged seen
met-paced def node b j is_first is_last merged {now = now} s e n f g =
    met-state def node (seen_by b j) is_first is_last merged s e n (f ∙ ap (λ (x : ℕ). state_of node x) (label-any def now b is_first 0 j)) g

-- the pass from node to node
module _ (p : Program) (row before : Row) (is_first is_last : Bool) where
  pub pass-start : pass_to p row before is_first is_last 0 ≡ on (walk_to p row 0) 0
  unfolding pass_to walk_to
  pass-start = refl

  pub pass_meets : (i : ℕ) {merged : ℕ} {def : Bankdef} {n : Node} {s sb : Result Pos Refusal} {r : Result ℕ Refusal} →
      pass_to p row before is_first is_last i ≡ on (walk_to p row i) merged →
      n ≡ node p row i →
      def ≡ bank_of p.banks (walk_to p row i) (node p row i) →
      s ≡ (step_at p row (walk_to p row i) i).seen →
      sb ≡ (step_at p before (walk_to p before i) i).seen →
      r ≡ met def n sb is_first is_last merged s →
      pass_to p row before is_first is_last (i + 1) ≡ goes_on (walk_to p row (i + 1)) r
  unfolding pass_to walk_to
  pass_meets i g n d s b m = rw (add-one, g, m, n, d, s, b)

  -- what ends a pass stays its end
  pub pass-stopped : (n i : ℕ) {why : Refusal} → i < n → pass_to p row before is_first is_last (i + 1) ≡ off why → pass_to p row before is_first is_last n ≡ off why
  unfolding pass_to
  pass-stopped zero i h e = absurd (not-suc-le-zero h)
  pass-stopped (suc n) i h e =
      ⊎_elim (λ (q : i ≡ n). rw (← q) (rw add-one at e)) (λ (g : i < n). rw (pass-stopped n i g e)) (eq-or-lt_of_le (le_of_suc-le-suc h))

  -- a node that sees none ends it
  pub pass-halts : (i : ℕ) {merged : ℕ} {s : Result Pos Refusal} {why : Refusal} → pass_to p row before is_first is_last i ≡ on (walk_to p row i) merged →
      s ≡ (step_at p row (walk_to p row i) i).seen → s ≡ Err why → i < length p.kinds → Err why ≡ pass_of p row before is_first is_last
  unfolding pass_to
  pass-halts i {why = why} g e f h =
      let stop : pass_to p row before is_first is_last (i + 1) ≡ off why = rw (add-one, g, sym e ∙ f) in rw (pass-stopped (length p.kinds) i h stop)

  pub pass-goes : (i : ℕ) {state : ℕ} {w : Walk} {r : Result ℕ Refusal} → pass_to p row before is_first is_last i ≡ goes_on w r → r ≡ Ok state
      → pass_to p row before is_first is_last i ≡ on w state
  pass-goes i e f = e ∙ rw f

  pub pass-refused : (i : ℕ) (w : Walk) {r : Result ℕ Refusal} {why : Refusal} → pass_to p row before is_first is_last (i + 1) ≡ goes_on w r → r ≡ Err why
      → i < length p.kinds → Err why ≡ pass_of p row before is_first is_last
  pass-refused i w {why = why} e f h =
      let stop : pass_to p row before is_first is_last (i + 1) ≡ off why = e ∙ rw f in rw (pass-stopped (length p.kinds) i h stop)
