-- What each node offers to the store: "Written items, and reserves in banks with an offset", at "offset plus position"; and where a build that
-- is refused was refused.
use Rattle.std.specs.Prelude.{◌≡◌, ℕ, ◌<◌, Err}
use Rattle.prelude.specs.declared.Refusal.{Refusal}
use Rattle.overlap_checker.specs.State.{State}
use Rattle.build_plan.specs.Placing.{verdict_on}
use Rattle.build_plan.specs.Placing.{holds, placed_all}
use Rattle.output.specs.Calls.{Call, nodes_in, closed_in, visit_in, visits_before}

-- ---- where a build is refused

-- node n is the first that is refused
pub record FirstRefused (c : Call) (why : Refusal) : Type 0 where
  pub n : ℕ
  pub listed : n < nodes_in c
  pub stored : State
  pub before : placed_all (closed_in c) (visits_before c n) ≡ holds stored
  pub verdict : verdict_on (closed_in c) stored (visit_in c n) ≡ Err why
