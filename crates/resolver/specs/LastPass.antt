-- The last pass of an accepted layout has gone past every node: its banks and lists are sound, and each node sees a position in the row that the
-- last pass reads.
use Rattle.bankdef.specs.declared.Bankdefs.{Bankdefs}
use Rattle.resolver.specs.Layout.{layout_of}
use Rattle.nodes.specs.Lists.{Lists, Row}
use Rattle.resolver.specs.Passes.{row_of_pass}
use Rattle.resolver.specs.declared.Choices.{Choices}

-- the row that the last pass reads
abbrev pub last_row : Bankdefs → Lists → Choices → Row
last_row banks l choices = row_of_pass l (layout_of banks l choices).passes
