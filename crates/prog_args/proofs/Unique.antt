-- Uniqueness: each function's own contract has one outcome. `Learnt` is what the check reads off its `ensures`.
use denote.Param.Laws.{Laws}
use denote.RattleType.{RattleType}
use mir.Syntax.{Dict}
use Rattle.std.specs.Prelude.{List, ℕ}
use Rattle.std.specs.declared.io.Print.{Ghosts}
use Rattle.prelude.specs.Laws.Outcome.{OneOutcome, OneView}
use Rattle.prelude.specs.Laws.Pick.{determined, paired}
use Rattle.prog_args.proofs.number.Kinds as number-kinds
use Rattle.prog_args.proofs.number.Reads as number-reads
use Rattle.prog_args.proofs.within.Kinds as within-kinds
use Rattle.prog_args.proofs.within.Reads as within-reads
use Rattle.prog_args.proofs.print.Kinds as print-kinds
use Rattle.prog_args.proofs.print.Reads as print-reads
use Rattle.prog_args.proofs.put_refusal.Kinds as put-refusal-kinds
use Rattle.prog_args.proofs.put_refusal.Reads as put-refusal-reads
use Rattle.prog_args.proofs.print_refusal.Kinds as print-refusal-kinds
use Rattle.prog_args.proofs.print_refusal.Reads as print-refusal-reads
use Rattle.prog_args.proofs.refuse.Kinds as refuse-kinds
use Rattle.prog_args.proofs.refuse.Reads as refuse-reads

pub number-unique : OneOutcome 1 number-kinds.ps number-kinds.r number-reads.Learnt
number-unique κs a x y e f p q = determined p q

pub within-unique : OneOutcome 1 within-kinds.ps within-kinds.r within-reads.Learnt
within-unique κs a x y e f p q = determined p.0 q.0

-- What prints takes a handle: its type, the laws of that, what it says of printing, and its row of functions.
pub print-unique : (T : RattleType) (l : Laws T) (g : Ghosts T.Denot) (d : Dict)
    → OneOutcome 3 (print-kinds.ps T l) (print-kinds.r T l) (print-reads.Learnt T l g d)
print-unique T l g d κs a x y e f p q = determined p q

pub put-refusal-unique : OneView 1 put-refusal-kinds.ps put-refusal-kinds.r put-refusal-reads.Learnt (ℕ × List ℕ) (λ κs x e. (x, e.1.0.now))
put-refusal-unique κs a x y e f p q = paired (determined p.0.counted q.0.counted) (determined p.0.buffer q.0.buffer)

pub print-refusal-unique : (T : RattleType) (l : Laws T) (g : Ghosts T.Denot) (d : Dict)
    → OneOutcome 2 (print-refusal-kinds.ps T l) (print-refusal-kinds.r T l) (print-refusal-reads.Learnt T l g d)
print-refusal-unique T l g d κs a x y e f p q = determined p q

pub refuse-unique : (T : RattleType) (l : Laws T) (g : Ghosts T.Denot) (d : Dict)
    → OneOutcome 2 (refuse-kinds.ps T l) (refuse-kinds.r T l) (refuse-reads.Learnt T l g d)
refuse-unique T l g d κs a x y e f p q = determined p q
