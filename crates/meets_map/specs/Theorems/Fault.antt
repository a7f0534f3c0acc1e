-- The node at fault, from the sentences alone: where a layout is refused for 9 to 13, the map names the first node that the build refuses in the row of the
-- last pass, and shows the nodes up to and with it. So the node of a 12 is learnt, whose own place is what it meets.
use Rattle.std.specs.Prelude.{◌≡◌, refl, ◌⊎◌, ℕ, suc, ◌≤◌}
use Rattle.std.proofs.Common.{⊎_elim, arith}
use Rattle.says.specs.Words as w
use Rattle.says.specs.Words.{First}
use Rattle.says.specs.Build.{Given, Reads, Refuses}
use Rattle.meets_sentences.specs.Theorems.Outcomes.{stops-five-or-seven}
use Rattle.says.specs.Map as m
use Rattle.says.specs.Map.{Lent, Outcome, Shows, Mapped, MapSays}
use Rattle.meets_map.specs.Places.{nothing}

module _ (g : Given) (old : Lent) where
  pub record FaultAt (o : Outcome) : Type 0 where
    pub row : ℕ
    pub reads : Reads g o.answer.passes row
    pub first : First (Refuses g row) o.answer.node
    pub last-shown : o.answer.nodes ≡ suc o.answer.node

  -- a map that tells 8 or less has no such node
  few : {n r c stopped place second node : ℕ} (o : Outcome) → Shows g old n r c stopped place second node o → stopped ≤ 8 → 9 ≤ o.answer.stopped → FaultAt o
  few o (m.shows s l) h k = absurd (let z : ⊥ = omega arith in z)

  five-or-seven : {number : ℕ} → (number ≡ 5) ⊎ (number ≡ 7) → number ≤ 8
  five-or-seven two = ⊎_elim (λ e. omega arith) (λ e. omega arith) two

  at-node : {n r i number place second : ℕ} (o : Outcome) → Shows g old n r (suc i) number place second i o → Reads g n r → First (Refuses g r) i → FaultAt o
  at-node {r = r} o (m.shows s l) q f = record { row = r; reads = q; first = f; last-shown = refl }

  mapped-fault : (o : Outcome) → Mapped g old o → 9 ≤ o.answer.stopped → FaultAt o
  mapped-fault o (m.stops h l go f s q u t) k = few o t (five-or-seven (stops-five-or-seven g nothing s)) k
  mapped-fault o (m.last-stops p f s q u t) k = few o t (five-or-seven (stops-five-or-seven g nothing s)) k
  mapped-fault o (m.unresolved p run v q t) k = few o t (omega arith) k
  mapped-fault o (m.tried p run v q (m.refused f t)) k = at-node o t q f.first
  mapped-fault o (m.tried p run v q (m.placed none t)) k = few o t (omega arith) k

  pub fault-is-first-refused : (o : Outcome) → MapSays g old o → 9 ≤ o.answer.stopped → FaultAt o
  fault-is-first-refused o (w.refused x h) k = absurd (let z : ⊥ = omega arith in z)
  fault-is-first-refused o (w.passed a (w.refused x h)) k = absurd (let z : ⊥ = omega arith in z)
  fault-is-first-refused o (w.passed a (w.passed b (w.refused x h))) k = absurd (let z : ⊥ = omega arith in z)
  fault-is-first-refused o (w.passed a (w.passed b (w.passed c (w.refused x h)))) k = absurd (let z : ⊥ = omega arith in z)
  fault-is-first-refused o (w.passed a (w.passed b (w.passed c (w.passed d (w.refused x h))))) k = absurd (let z : ⊥ = omega arith in z)
  fault-is-first-refused o (w.passed a (w.passed b (w.passed c (w.passed d (w.passed e t))))) k = mapped-fault o t k
