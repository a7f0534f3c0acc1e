-- What the map shows of a layout's nodes, by the definitions, is what the sentences print of its outcome, node by node.
use Rattle.std.specs.Prelude.{◌≡◌}
use Rattle.std.proofs.Common.{sym, subst, arith}
use Prim.Native.Nat.{ℕ, zero, suc, ◌-◌, ◌≤◌, ◌<◌}
use Rattle.nodes.specs.Lists.{Row}
use Rattle.resolver.specs.Once.{Program}
use Rattle.resolver.specs.Passes.{row_of_pass}
use Rattle.output.specs.Output.{Input}
use Rattle.build_map.specs.Map.{map_of, bank_shown, position_shown, output_shown, size_shown}
use Rattle.build_map.specs.Laws.Entries.{shown-at}
use Rattle.print_text.specs.Ascii.{ascii}
use Rattle.print_map.specs.Text.{node_line, nodes_text}
use Rattle.says.specs.Build.{Given, kind}
use Rattle.says.specs.Map.{Lent, Outcome}
use Rattle.says.specs.MapText as says
use Rattle.says.specs.MapText.{Optional, Word, NodeLine, NodeLines}
use Rattle.meets_sentences.specs.Typed.{Typed}
use Rattle.meets_build.specs.Laws.Contract.{input_of}
use Rattle.meets_build.specs.Laws.Shown.{listed, walked}
use Rattle.meets_build.specs.Laws.Table.{table}
use Rattle.meets_map.specs.Places.{Places}
use Rattle.meets_map.specs.Theorems.Promised.{outcome_of}
use Rattle.meets_map_text.specs.Laws.Records.{record-meets}
use Rattle.meets_map_text.specs.Laws.Shown.{word-column, address-column, columns-same}

module _ (g : Given) (typed : Typed g) (old : Lent) (places : Places old) where
  abbrev b : Input
  b = input_of g typed

  abbrev y : Outcome
  y = outcome_of g typed old places

  abbrev count : ℕ
  count = (map_of b).nodes

  abbrev p : Program
  p = walked g (table g)

  abbrev row : Row
  row = row_of_pass (listed g) (map_of b).passes

  node-meets : (i : ℕ) → i < count
      → NodeLine g y.lent i (node_line (table g) i (kind g i) (bank_shown p row i) (position_shown p row i) (output_shown p row i) (size_shown p row i))
  unfolding map_of
  node-meets i h =
      let a = address-column g typed old places i h in
      let o = word-column (output_shown p row i) in
      let out = shown-at count (output_shown p row) old.outputs i h in
      says.node (sym (shown-at count (bank_shown p row) old.banks i h)) (sym (shown-at count (position_shown p row) old.positions i h)) a.1
      (subst (λ (w : ℕ). Optional (Word w) o.0) (sym out) o.1)
      (record-meets (ascii "node") _ _
      (columns-same g typed old places i (bank_shown p row i) (position_shown p row i) a.0 o.0 a.2 o.2 (sym (shown-at count (size_shown p row) old.sizes i h))))

  pub nodes-meet : (n : ℕ) → n ≤ count → NodeLines g y.lent n (nodes_text p row n)
  unfolding nodes_text
  nodes-meet zero h = says.no-node
  nodes-meet (suc i) h = says.more (nodes-meet i (omega (arith, h))) (node-meets i h)
