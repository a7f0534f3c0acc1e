-- `put_runs` meets its contract: what is left to write shrinks by a line in each turn.
use lib.ListN.{length, drop}
use Rattle.print_bench.specs.Program.{run_lines}
use Rattle.print_bench.proofs.Laws.{Going}
use Rattle.print_bench.proofs.put_runs.Given as goal

abbrev pub invariant-loop-first : goal.invariant-loop-first
invariant-loop-first l = Going (run_lines l.load l.released l.overlay l.firsts l.counts) l.initial.out (run_lines l.load l.released l.overlay
    (drop (length l.yielded) l.firsts) (drop (length l.yielded) l.counts)) l.out l.end
