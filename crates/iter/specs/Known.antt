-- Known-ness over an item or an alignment, as one function of the kind (document 01, "The walk").
use Rattle.std.specs.Prelude.{Bool, ◌&&◌}
use Rattle.prelude.specs.Pick.{pick}
use Rattle.iter.specs.Step.{resolved}
use Rattle.nodes.specs.Kinds.{is_declared}
use Rattle.nodes.specs.declared.Node.{Node}

-- "4, 6, 7, 8 keep it only if state is 0; 5 .. leave it"
abbrev pub stays_known : Bool → Node → Bool
stays_known known node = pick (is_declared node.kind) known (known && resolved node)
