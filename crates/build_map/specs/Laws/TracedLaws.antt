-- How far visits go that are placed one after another: up to and with the first that is refused, or to the end.
use Rattle.std.specs.Prelude.{◌≡◌, refl, Bool, List, ℕ, ◌+◌, ◌≤◌, ◌<◌, length, Err}
use Rattle.std.proofs.Common.{sym, ap, ap₂, ◌∙◌, arith}
use Rattle.prelude.specs.Laws.Bools.{unlike}
use Rattle.prelude.specs.declared.Refusal.{Refusal}
use Rattle.prelude.specs.Verdict.{Verdict, Accepted}
use Rattle.iter.specs.declared.Lost.{Lost}
use Rattle.nodes.specs.Lists.{Row}
use Rattle.resolver.specs.Once.{Program}
use Rattle.overlap_checker.specs.State.{State, empty_state}
use Rattle.build_visits.specs.declared.Visit.{Visit}
use Rattle.build_visits.specs.Visits.{visit_at, visits_to, visits}
use Rattle.build_plan.specs.Laws.Walked.{walked-few, refused-walked, stopped-at, all-walked}
use Rattle.build_plan.specs.Placing.{Placed, holds, stops, placed_next, placed_all, walked_all}
use Rattle.build_plan.specs.Plan.{plan_by}
use Rattle.build_map.specs.Map.{whole_reach, stopped_reach, traced_by, traced}

pub traced-nodes : (closed : Bool) (vs : List Visit) → (traced closed vs).nodes ≡ walked_all closed vs
traced-nodes closed vs = either (placed_all closed vs)
  where
    either : (q : Placed) → (traced_by (walked_all closed vs) q).nodes ≡ walked_all closed vs
    either (holds s) = refl
    either (stops why) = refl

pub traced-few : (closed : Bool) (vs : List Visit) → (traced closed vs).nodes ≤ length vs
traced-few closed vs = omega (arith, traced-nodes closed vs, walked-few closed (holds empty_state) vs)

module _ (p : Program) (row : Row) (closed : Bool) where
  pub traced-stopped : (i : ℕ) (s : State) (why : Refusal) → i < length p.kinds → placed_all closed (visits_to p row i) ≡ holds s
      → placed_next closed (visit_at p row i) (holds s) ≡ stops why
      → traced closed (visits p row) ≡ stopped_reach (Err why) (i + 1)
  traced-stopped i s why b held stop = let (whole, far) = stopped-at p row closed i s why b held stop in ap₂ traced_by far whole

  -- all nodes, none of which is refused
  pub traced-whole : (s : State) → placed_all closed (visits p row) ≡ holds s → traced closed (visits p row) ≡ whole_reach (length p.kinds)
  traced-whole s held = ap₂ traced_by (all-walked p row closed s held) held

-- ---- by a plan's verdict, and how many visits are met

module _ (closed : Bool) (vs : List Visit) (bits spans : ℕ) (sums : List Lost) (r : Verdict)
    (is : r ≡ (plan_by bits spans sums (placed_all closed vs)).verdict) where
  pub traced-accepted : r ≡ Accepted → whole_reach (walked_all closed vs) ≡ traced closed vs
  traced-accepted e = by (placed_all closed vs) is
    where
      by : (q : Placed) → r ≡ (plan_by bits spans sums q).verdict → whole_reach (walked_all closed vs) ≡ traced_by (walked_all closed vs) q
      by (holds s) h = refl
      by (stops why) h = absurd (differ (sym h ∙ e))
        where
          differ : Err why ≡ Accepted → ⊥
          differ x = unlike cc

  pub traced-refused : (why : Refusal) → r ≡ Err why → stopped_reach (Err why) (walked_all closed vs) ≡ traced closed vs
  traced-refused why e = by (placed_all closed vs) is
    where
      by : (q : Placed) → r ≡ (plan_by bits spans sums q).verdict
          → stopped_reach (Err why) (walked_all closed vs) ≡ traced_by (walked_all closed vs) q
      by (holds s) h = absurd (differ (sym h ∙ e))
        where
          differ : Accepted ≡ Err why → ⊥
          differ x = unlike cc
      by (stops w) h = ap (λ (x : Verdict). stopped_reach x (walked_all closed vs)) (sym e ∙ h)

  -- one that is refused is met
  pub some-walked : (why : Refusal) → r ≡ Err why → 1 ≤ walked_all closed vs
  some-walked why e = by (placed_all closed vs) refl is
    where
      by : (q : Placed) → placed_all closed vs ≡ q → r ≡ (plan_by bits spans sums q).verdict → 1 ≤ walked_all closed vs
      by (holds s) f h = absurd (differ (sym h ∙ e))
        where
          differ : Accepted ≡ Err why → ⊥
          differ x = unlike cc
      by (stops w) f h = refused-walked closed vs w f
