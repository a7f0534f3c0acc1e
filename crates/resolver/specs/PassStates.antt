-- "A pass is unresolved if any state is 2, stable if any is 1, otherwise resolved", of the passes of lists that the list check accepts; and the state that
-- each node has in a pass: "0, 1 and 2 don't read the state", a label's is found, every other kind has its row's.
use Rattle.std.specs.Prelude.{ℕ}
use Rattle.bankdef.specs.declared.Bankdefs.{Bankdefs}
use Rattle.nodes.specs.declared.Node.{Node}
use Rattle.nodes.specs.Lists.{Lists}
use Rattle.resolver.specs.Once.{node}
use Rattle.resolver.specs.Passes.{program, row_of_pass}

module _ (banks : Bankdefs) (l : Lists) where
  abbrev pub node_in : ℕ → ℕ → Node
  node_in n i = node (program banks l) (row_of_pass l n) i
