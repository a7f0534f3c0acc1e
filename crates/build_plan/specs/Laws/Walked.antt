-- How many visits are met when they are placed one after another: those up to and with the first that is refused, or all.
use Rattle.std.specs.Prelude.{◌≡◌, refl, Bool, List, [], ◌∷◌, ◌++◌, length}
use Rattle.std.proofs.Common.{sym, subst, ◌∙◌, append-nil, append_assoc, arith, length-append}
use Rattle.std.proofs.Math.Path.{ap}
use Prim.Native.Nat.{ℕ, zero, suc, ◌+◌, ◌≤◌, ◌<◌}
use Rattle.prelude.specs.Laws.Bools.{unlike}
use Rattle.prelude.specs.declared.Refusal.{Refusal}
use Rattle.overlap_checker.specs.State.{State, empty_state}
use Rattle.nodes.specs.Lists.{Row}
use Rattle.resolver.specs.Once.{Program}
use Rattle.build_visits.specs.declared.Visit.{Visit}
use Rattle.build_visits.specs.Visits.{visit_at, visits_to, visits}
use Rattle.build_visits.specs.Laws.VisitLaws.{visits-none, visits-next, visits-split}
use Rattle.build_plan.specs.Placing.{Placed, holds, stops, placed_next, placed_from, placed_all, walked_from, walked_all}
use Rattle.build_plan.specs.Laws.PlacingLaws.{placed-append, stops-stay, before-holds}

-- nothing is met past a refusal
walked-stops : (closed : Bool) (why : Refusal) (l : List Visit) → walked_from closed (stops why) l ≡ 0
unfolding walked_from
walked-stops closed why [] = refl
walked-stops closed why (v ∷ l) = refl

walked-first : (closed : Bool) (s : State) (v : Visit) (l : List Visit)
    → walked_from closed (holds s) (v ∷ l) ≡ suc (walked_from closed (placed_next closed v (holds s)) l)
unfolding walked_from
walked-first closed s v l = refl

walked_none : (closed : Bool) (q : Placed) → walked_from closed q [] ≡ 0
unfolding walked_from
walked_none closed q = refl

-- visits that were all accepted are all met, and those behind them after them
walked-append : (closed : Bool) (s t : State) (k l : List Visit) → placed_from closed (holds s) k ≡ holds t
    → walked_from closed (holds s) (k ++ l) ≡ length k + walked_from closed (holds t) l
unfolding placed_from
walked-append closed s t [] l e = ap (λ (q : Placed). walked_from closed q l) e ∙ omega arith
walked-append closed s t (v ∷ k) l e =
    let (u, is) = before-holds closed (placed_next closed v (holds s)) t k e in
    let on = walked-append closed u t k l (subst (λ (q : Placed). placed_from closed q k ≡ holds t) is e) in
    walked-first closed s v (k ++ l)
    ∙ ap (λ (q : Placed). suc (walked_from closed q (k ++ l))) is
    ∙ omega (arith, on)

-- no more are met than there are
pub walked-few : (closed : Bool) (q : Placed) (l : List Visit) → walked_from closed q l ≤ length l
unfolding walked_from
walked-few closed q [] = omega arith
walked-few closed (stops why) (v ∷ l) = omega arith
walked-few closed (holds s) (v ∷ l) = omega (arith, walked-few closed (placed_next closed v (holds s)) l)

-- where one is refused, it is met
pub refused-walked : (closed : Bool) (vs : List Visit) (why : Refusal) → placed_all closed vs ≡ stops why → 1 ≤ walked_all closed vs
unfolding placed_from walked_from
refused-walked closed [] why e = unlike cc
refused-walked closed (v ∷ l) why e = omega arith

module _ (p : Program) (row : Row) where
  pub visits-long : (n : ℕ) → length (visits_to p row n) ≡ n
  visits-long zero = ap length (visits-none p row)
  visits-long (suc n) =
      ap length (visits-next p row n) ∙ omega (arith, length-append (visits_to p row n) (visit_at p row n ∷ []), visits-long n)

  module _ (closed : Bool) where
    -- the nodes up to and with one that is refused, all before it being accepted
    visits-around : (i : ℕ) → i < length p.kinds → (rest : List Visit) × (visits p row ≡ visits_to p row i ++ visit_at p row i ∷ rest)
    visits-around i b =
        let (rest, split) = visits-split p row (suc i) (length p.kinds) b in (
          rest,
          split
              ∙ ap (λ (l : List Visit). l ++ rest) (visits-next p row i)
              ∙ append_assoc (visits_to p row i) (visit_at p row i ∷ []) rest,
        )

    pub stopped-at : (i : ℕ) (s : State) (why : Refusal) → i < length p.kinds → placed_all closed (visits_to p row i) ≡ holds s
        → placed_next closed (visit_at p row i) (holds s) ≡ stops why
        → (placed_all closed (visits p row) ≡ stops why) × (walked_all closed (visits p row) ≡ i + 1)
    unfolding placed_from
    stopped-at i s why b held stop =
        let (rest, around) = visits-around i b in
        let whole : placed_all closed (visits p row) ≡ stops why =
        ap (placed_all closed) around
        ∙ placed-append closed (holds empty_state) (visits_to p row i) (visit_at p row i ∷ rest)
        ∙ ap (λ (q : Placed). placed_from closed q (visit_at p row i ∷ rest)) held
        ∙ ap (λ (q : Placed). placed_from closed q rest) stop
        ∙ stops-stay closed why rest in
        let far =
        ap (walked_all closed) around
        ∙ walked-append closed empty_state s (visits_to p row i) (visit_at p row i ∷ rest) held in
        let one =
        walked-first closed s (visit_at p row i) rest
        ∙ ap (λ (q : Placed). suc (walked_from closed q rest)) stop
        ∙ ap suc (walked-stops closed why rest) in
        (whole, omega (arith, far, one, visits-long i))

    -- all nodes, none of which is refused
    pub all-walked : (s : State) → placed_all closed (visits p row) ≡ holds s → walked_all closed (visits p row) ≡ length p.kinds
    all-walked s held =
        let far =
        ap (walked_all closed) (sym (append-nil (visits p row)))
        ∙ walked-append closed empty_state s (visits p row) [] held in
        omega (arith, far, walked_none closed (holds s), visits-long (length p.kinds))
