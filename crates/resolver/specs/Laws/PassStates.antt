-- Laws that Theorems/PassStates rests on.
use Rattle.std.specs.Prelude.{ℕ, ◌-◌, ◌<◌, ◌≤◌, ◌≡◌, Bool, true, false, not, ◌&&◌, eqb, leb, Result, Ok}
use Rattle.std.proofs.Common.{arith, leb-false}
use Rattle.std.proofs.lemmas.Bool.{eqb-false}
use Rattle.prelude.specs.Pick.{pick}
use Rattle.prelude.specs.Laws.Bools.{either}
use Rattle.prelude.specs.declared.Refusal.{Refusal}
use Rattle.bankdef.specs.declared.Bankdef.{Bankdef}
use Rattle.bankdef.specs.declared.Bankdefs.{Bankdefs}
use Rattle.iter.specs.Address.{on_boundary}
use Rattle.nodes.specs.declared.Node.{Node}
use Rattle.iter.specs.declared.Pos.{Pos}
use Rattle.iter.specs.declared.Walk.{Walk}
use Rattle.nodes.specs.Lists.{Lists}
use Rattle.resolver.specs.NodeOrder.{seen_at, def_at}
use Rattle.resolver.specs.Once.{Going, on, off, closed, same_address, label_state, state_of}
use Rattle.resolver.specs.Passes.{program, row_of_pass}
use Rattle.resolver.specs.Walked.{state_seen}
use Rattle.resolver.specs.PassStates.{node_in}

module _ (banks : Bankdefs) (l : Lists) where
  -- the position that node i sees in pass n
  abbrev pub seen_in : ℕ → ℕ → Result Pos Refusal
  seen_in n i = seen_at (program banks l) (row_of_pass l n) i

  -- the record of the bank that node i stands in, in pass n
  abbrev pub def_in : ℕ → ℕ → Bankdef
  def_in n i = def_at (program banks l) (row_of_pass l n) i

  -- the state of node i in pass n, by what it sees there and what it saw in the pass before
  abbrev pub state_in : ℕ → ℕ → ℕ
  state_in n i = state_seen (def_in n i) ((node_in banks l) n i) (seen_in (n - 1) i) (eqb n 1) (seen_in n i)

pub stood : (g : Going) {s : ℕ} → closed g ≡ Ok s → (w : Walk) × (g ≡ on w s)
stood (on w t) e = (w, cc)
stood (off why) e = absurd (let z : ◌≡◌ {A = ℕ} 0 1 = cc in let b : ⊥ = omega arith in b)

-- ---- no state passes 2

pick_two : (b : Bool) {x y : ℕ} → x ≤ 2 → y ≤ 2 → pick b x y ≤ 2
pick_two true p q = p
pick_two false p q = q

pub label-two : (def : Bankdef) (now : Pos) (before : Result Pos Refusal) (is_first : Bool) → label_state def now before is_first ≤ 2
label-two def now before is_first =
    pick_two (now.known && on_boundary def now.position) (omega arith) (pick_two (not is_first && same_address def now before) (omega arith) (omega arith))

pub state-two : (n : Node) (label : ℕ) → label ≤ 2 → (2 < n.kind → n.state ≤ 2) → state_of n label ≤ 2
state-two n label h k =
    either (leb n.kind 1) (λ e. rw e (omega arith))
    (λ e.
    rw e
    (either (eqb n.kind 2) (λ f. rw f h)
    (λ f. rw f (k (let low = leb-false n.kind 1 e in let other = eqb-false n.kind 2 f in let g : 2 < n.kind = omega arith in g)))))
