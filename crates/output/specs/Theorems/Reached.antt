-- A build whose passes settled gets to every node that it meets after accepted ones: in the row of the last pass each node sees a position, so that a
-- build is refused there for 9 to 13 alone.
use Rattle.std.specs.Prelude.{◌≡◌, ℕ, ◌<◌, Ok}
use Rattle.std.proofs.Common.{sym, subst}
use Rattle.iter.specs.declared.Pos.{Pos}
use Rattle.resolver.proofs.LastPass.{sees-in-last}
use Rattle.resolver.specs.Passes.{row_of_pass}
use Rattle.overlap_checker.specs.State.{State}
use Rattle.build_plan.specs.Placing.{holds, placed_all}
use Rattle.build_visits.specs.Visits.{visit_at}
use Rattle.output.specs.Output.{settled_of}
use Rattle.output.specs.Calls.{Call, nodes_in, closed_in, program_in, visit_in, visits_before}
use Rattle.output.specs.Laws.Calls.{passes-are}
use Rattle.output.specs.RefusedAtNode.{Reaches}

module _ (c : Call) (k : ℕ) (settled : settled_of c.given ≡ Ok k) (n : ℕ) (listed : n < nodes_in c) where
  pub sees-a-position : (at : Pos) × ((visit_in c n).seen ≡ Ok at)
  sees-a-position =
      subst (λ (passes : ℕ). (at : Pos) × ((visit_at (program_in c) (row_of_pass c.given.lists passes) n).seen ≡ Ok at)) (sym (passes-are c))
      (sees-in-last c.given.banks c.given.lists c.given.choices k settled n listed)

  -- So all that 9 to 13 ask of a call, at node n, is that the passes settled and every node before it was accepted.
  pub reached : (stored : State) → placed_all (closed_in c) (visits_before c n) ≡ holds stored → Reaches c n
  reached stored before =
      record {
        k = k;
        settled = settled;
        listed = listed;
        stored = stored;
        before = before;
        at = sees-a-position.0;
        sees = sees-a-position.1;
      }
