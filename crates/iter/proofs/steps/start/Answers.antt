-- The walk at its start, by computation.
use borrow.Author.Rules.{rules}
use Rattle.iter.specs.Step.{start_of}
use Rattle.iter.proofs.steps.start.Goals as goal

pub returns : goal.returns
unfolding start_of
returns c =
    search rules
