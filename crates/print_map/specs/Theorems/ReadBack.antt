-- A line of the map's text can be read back: it has one word's cells, and a node's line one node's columns.
use Rattle.std.specs.Prelude.{◌≡◌, List, [], ◌++◌, ℕ}
use Rattle.std.proofs.Common.{sym, ap, ◌∙◌}
use Rattle.bankdef.specs.declared.Bankdefs.{Bankdefs}
use Rattle.print_text.specs.Ascii.{ascii}
use Rattle.print_map.specs.Cells.{Cell, line_of}
use Rattle.print_map.specs.Laws.ReadBack.{cells-then, after_same, line-ended, cells_of, columns-told}
use Rattle.print_map.specs.ReadBack.{Columns, SameColumns, line_for}

-- Two lines of one word that read the same have the same cells, in number and in order.
pub line-tells-cells : (word : List ℕ) (cs ds : List Cell) → line_of word cs ≡ line_of word ds → cs ≡ ds
line-tells-cells word cs ds e =
    (cells-then cs ds [] [] (ap (λ (l : List ℕ). l ++ []) (after_same word _ _ (sym (line-ended word cs) ∙ e ∙ line-ended word ds)))).0

-- A node's line tells each of its columns: the node, its kind, its bank, its position, its place in the output and its size.
pub node-line-tells-columns : (banks : Bankdefs) (c d : Columns) → line_for banks c ≡ line_for banks d → SameColumns c d
node-line-tells-columns banks c d e = columns-told banks banks c d (line-tells-cells (ascii "node") (cells_of banks c) (cells_of banks d) e)
