-- Uniqueness: the contract of each public function has one outcome, over its own clause: the answer, and the lent record afterwards.
use mathlib.Core.Path.{◌≡◌, refl}
use seplogic.Ra.Ura.{Ura}
use base.Logic.{SProp}
use prog.Memory.{Memory}
use prog.Routine.{Routine}
use types.Logic.{Logic}
use contract.Lifetimes.{Lfts}
use contract.Monad.{Fun, fact}
use denote.Triple.Clauses.{AtExit}
use denote.Triple.Entry.{Args}
use Rattle.prelude.specs.Laws.Outcome.{OneOutcome}
use Rattle.prelude.specs.Laws.Pick.{determined}
use Rattle.iter_lent.specs.Lent.{Advanced}
use Rattle.iter.specs.declared.Paced.{Paced}
use Rattle.iter_lent.proofs.advanced.Kinds as advanced-kinds
use Rattle.iter_lent.proofs.advanced.Reads as advanced-reads
use Rattle.iter_lent.specs.contracts.advance_lent as lent

pub advanced-unique : OneOutcome 0 advanced-kinds.ps advanced-kinds.r advanced-reads.Learnt
advanced-unique κs a x y e f p q = determined p q

-- What `advance_lent` ensures is `Advanced`, of the record that it was lent and of the record as it leaves it, and nothing less:
-- specs/Theorems/Lent.antt has `advance-lent-unique` of it.
pub advance-lent-ensures : {M : Type 1} {𝓤 : Ura M} (𝓛 : Logic 𝓤) (at_mem : Memory → SProp 𝓤) (run : Routine → Fun 𝓤)
    (κs : Lfts 1) (a : Args lent.signature κs) (r : Paced) (e : AtExit lent.ended κs)
    → (lent.clauses 𝓛 at_mem run κs a).ensures tt r e ≡ fact 𝓤 (Advanced a.0 a.1.0.now a.1.1.0 e.1.0.now r)
advance-lent-ensures 𝓛 at_mem run κs a r e = refl
