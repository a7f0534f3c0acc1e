-- A line of the map's text, read back: what a line is made of, and which columns a node's line has.
use Rattle.std.specs.Prelude.{◌≡◌, List, [], ◌∷◌, ℕ}
use Rattle.bankdef.specs.declared.Bankdefs.{Bankdefs}
use Rattle.print_map.specs.Text.{node_line}

-- the columns of a node's line but its address, which its bank and position tell
pub record Columns : Type 0 where
  pub node : ℕ
  pub kind : ℕ
  pub bank : ℕ
  pub position : ℕ
  pub output : ℕ
  pub size : ℕ

abbrev pub line_for : Bankdefs → Columns → List ℕ
line_for banks c = node_line banks c.node c.kind c.bank c.position c.output c.size

-- two nodes whose columns are the same
abbrev pub SameColumns : Columns → Columns → Type 0
SameColumns c d =
    (c.node ≡ d.node) × (c.kind ≡ d.kind) × (c.bank ≡ d.bank) × (c.position ≡ d.position) × (c.output ≡ d.output) × (c.size ≡ d.size)
