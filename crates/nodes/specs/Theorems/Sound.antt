-- Theorems about what Sound defines.
use Prim.Native.Nat.{ℕ, zero, suc, ◌*◌, ◌<◌}
use Rattle.std.proofs.Math.Path.{◌≡◌, refl}
use Rattle.std.proofs.Common.{sym, subst, ◌∙◌, eq-or-lt_of_le, le_of_suc-le-suc, leb-true, eqb-true, le-leb}
use Rattle.std.specs.Prelude.{Bool, false, ◌&&◌, leb, eqb, length, Err}
use Rattle.std.proofs.Math.Bool.{true}
use Rattle.std.proofs.Math.Logic.{⊎_elim}
use native.Mathlib.Omega.{arith}
use Rattle.std.proofs.lemmas.Bool.{lt-leb}
use Rattle.prelude.specs.Limits.{max_nodes, max_rows}
use Rattle.prelude.specs.Pick.{pick}
use Rattle.prelude.specs.declared.Refusal.{Refusal}
use Rattle.prelude.specs.declared.Refusal.TheVariants.{Malformed}
use Rattle.prelude.specs.Laws.Bools.{both}
use Rattle.prelude.specs.Verdict.{Accepted, Verdict}
use Rattle.nodes.specs.Lists.{Lists, Rows, known_fill, lists_of, node_of}
use Rattle.nodes.specs.Lists.{row_fault, head_fault, any_row_fault, node_fault, first_of, nodes_to}
use Rattle.nodes.specs.Laws.Sound.{both-accept, both_false, none-taken, through}
use Rattle.nodes.specs.Sound.{ListFigures, Lowest, SoundLists}

module _ (banks : ℕ) (l : Lists) where
  -- no node is at fault
  pub accepted-node : (n : ℕ) → nodes_to banks l n ≡ Accepted → (i : ℕ) → i < n → node_fault banks l i ≡ false
  unfolding nodes_to
  accepted-node zero e i h = absurd (let b : ⊥ = omega arith in b)
  accepted-node (suc n) e i h =
      let v = both-accept (nodes_to banks l n) (pick (node_fault banks l n) (Err (Malformed n)) Accepted) e in
      ⊎_elim (λ (q : i ≡ n). rw q (none-taken (node_fault banks l n) (Malformed n) v.1)) (λ (g : i < n). accepted-node n v.0 i g)
      (eq-or-lt_of_le (le_of_suc-le-suc h))

  -- "in any row"
  pub no-row-fault : (i rows : ℕ) → any_row_fault l i rows ≡ false → (r : ℕ) → r < rows
      → row_fault (length l.values) (node_of l.kinds l.operands l.numbers l.states r i) ≡ false
  unfolding any_row_fault
  no-row-fault i zero e r h = absurd (let b : ⊥ = omega arith in b)
  no-row-fault i (suc rows) e r h =
      let v = both_false (any_row_fault l i rows) (row_fault (length l.values) (node_of l.kinds l.operands l.numbers l.states rows i)) e in
      ⊎_elim (λ (q : r ≡ rows). rw q v.1) (λ (g : r < rows). no-row-fault i rows v.0 r g) (eq-or-lt_of_le (le_of_suc-le-suc h))

  pub accepted-row : (n : ℕ) → nodes_to banks l n ≡ Accepted → (i : ℕ) → i < n → (r : ℕ) → r < l.rows
      → row_fault (length l.values) (node_of l.kinds l.operands l.numbers l.states r i) ≡ false
  accepted-row n e i h r g =
      let v = both_false (head_fault banks (node_of l.kinds l.operands l.numbers l.states 0 i)) (any_row_fault l i l.rows) (accepted-node n e i h) in
      no-row-fault i l.rows v.1 r g

  later : {n i : ℕ} → (Lowest banks l) n i → (Lowest banks l) (suc n) i
  later a = record { listed = omega (arith, a.listed); fault = a.fault; none = a.none }

  taken_at : (n : ℕ) (t : Bool) {why : Refusal} → pick t (Err (Malformed n)) Accepted ≡ Err why → (t ≡ true) × (why ≡ Malformed n)
  taken_at n true e = (refl, cc)
  taken_at n false e = (cc, cc)

  lowest-of : (n : ℕ) (why : Refusal) (v : Verdict) → nodes_to banks l n ≡ v → (v ≡ Err why → (i : ℕ) × (Lowest banks l) n i × (why ≡ Malformed i))
      → first_of v (pick (node_fault banks l n) (Err (Malformed n)) Accepted) ≡ Err why → (i : ℕ) × (Lowest banks l) (suc n) i × (why ≡ Malformed i)
  lowest-of n why Accepted f rest e =
      let w = taken_at n (node_fault banks l n) e in
      (n, record { listed = omega arith; fault = w.0; none = accepted-node n f }, w.1)
  lowest-of n why (Err x) f rest e = let a = rest e in (a.0, later a.1, a.2)

  -- "then the lowest node"
  pub lowest-node : (n : ℕ) (why : Refusal) → nodes_to banks l n ≡ Err why → (i : ℕ) × (Lowest banks l) n i × (why ≡ Malformed i)
  unfolding nodes_to
  lowest-node zero why e = absurd (let z : ◌≡◌ {A = ℕ} 0 1 = cc in let b : ⊥ = omega arith in b)
  lowest-node (suc n) why e = lowest-of n why (nodes_to banks l n) refl (lowest-node n why) e

  -- where no node is at fault, none is refused
  pub none-refused : (n : ℕ) → ((i : ℕ) → i < n → node_fault banks l i ≡ false) → nodes_to banks l n ≡ Accepted
  unfolding nodes_to
  none-refused zero all = refl
  none-refused (suc n) all = rw (none-refused n (λ i h. all i (omega arith)), all n (omega arith))

  -- and the lowest at fault is the one that is
  pub lowest-refused : (n i : ℕ) → (Lowest banks l) n i → nodes_to banks l n ≡ Err (Malformed i)
  unfolding nodes_to
  lowest-refused zero i a = absurd (let h = a.listed in let b : ⊥ = omega arith in b)
  lowest-refused (suc n) i a =
      ⊎_elim
      (λ (q : i ≡ n).
      let none : nodes_to banks l n ≡ Accepted = none-refused n (rw q at a.none) in
      let fault : node_fault banks l n ≡ true = rw q at a.fault in
      rw (none, fault, q))
      (λ (g : i < n). rw (lowest-refused n i (record { listed = g; fault = a.fault; none = a.none })))
      (eq-or-lt_of_le (le_of_suc-le-suc a.listed))

pub lists-figures : (banks : ℕ) (l : Lists) (fill : ℕ) → ListFigures banks l fill (lists_of banks l fill)
unfolding lists_of
lists-figures banks l fill =
    record {
      nodes = λ a. rw a;
      rows = λ a b. rw (a, b);
      choice = λ a b h. rw (a, b, lt-leb fill 1 h);
      lowest = λ a b h i w. rw (a, b, le-leb fill 1 h, lowest-refused banks l (length l.kinds) i w);
      none = λ a b h all. rw (a, b, le-leb fill 1 h, none-refused banks l (length l.kinds) all);
    }

-- a verdict that is the definition's tells them
pub lists-told : (banks : ℕ) (l : Lists) (fill : ℕ) {v : Verdict} → v ≡ lists_of banks l fill → (v ≡ lists_of banks l fill) × ListFigures banks l fill v
lists-told banks l fill e = (e, subst (ListFigures banks l fill) (sym e) (lists-figures banks l fill))

pub accepted-lists : (banks : ℕ) (l : Lists) (fill : ℕ) → lists_of banks l fill ≡ Accepted → SoundLists banks l fill
unfolding lists_of
accepted-lists banks l fill e =
    let n = length l.kinds in
    let fits = eqb (length l.operands) n in
    let numbered = eqb (length l.numbers) (l.rows * n) in
    let stated = eqb (length l.states) (l.rows * n) in
    let counts = leb 1 l.rows && (leb l.rows max_rows && (numbered && stated)) in
    let chosen = pick (known_fill fill) (nodes_to banks l n) (Err (Malformed 3)) in
    let a = through (leb n max_nodes && fits) (pick counts chosen (Err (Malformed 1))) (Malformed 0) e in
    let b = through counts chosen (Malformed 1) a.1 in
    let h = through (known_fill fill) (nodes_to banks l n) (Malformed 3) b.1 in
    let c = both (leb n max_nodes) fits a.0 in
    let d = both (leb 1 l.rows) (leb l.rows max_rows && (numbered && stated)) b.0 in
    let f = both (leb l.rows max_rows) (numbered && stated) d.1 in
    let g = both numbered stated f.1 in
    record {
      few = leb-true n max_nodes c.0;
      operands = eqb-true (length l.operands) n c.1;
      rows = record {
        some = leb-true 1 l.rows d.0;
        few = leb-true l.rows max_rows f.0;
        numbered = eqb-true (length l.numbers) (l.rows * n) g.0;
        stated = eqb-true (length l.states) (l.rows * n) g.1;
      };
      choice = leb-true fill 1 h.0;
      nodes = h.1;
    }

pub accepted-rows : (banks : ℕ) (l : Lists) (fill : ℕ) {v : Verdict} → v ≡ lists_of banks l fill → v ≡ Accepted
    → Rows (length l.kinds) l.rows l.numbers l.states
accepted-rows banks l fill g h = (accepted-lists banks l fill (sym g ∙ h)).rows
