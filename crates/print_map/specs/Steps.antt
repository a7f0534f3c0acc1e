-- What the inner functions promise one another. A reader of the public contract needs none of it.
use Rattle.std.specs.Prelude.{List, [], ◌++◌, ℕ, zero, suc, min, get_or}
use Rattle.prelude.specs.Limits.{max_banks}
use Rattle.bankdef.specs.declared.Bankdefs.{Bankdefs}
use Rattle.form_fields.specs.declared.Shape.{Shape}
use Rattle.build_map.specs.declared.Map.{Map}
use Rattle.print_map.specs.Text.{file_line, banks_text, node_line, fault_text, verdict_text}

-- the lines of the first n nodes, from lists
unfoldable pub nodes_held : Bankdefs → List ℕ → List ℕ → List ℕ → List ℕ → List ℕ → ℕ → List ℕ
nodes_held banks kinds banked positions outputs sizes zero = []
nodes_held banks kinds banked positions outputs sizes (suc i) =
    nodes_held banks kinds banked positions outputs sizes i
    ++ node_line banks i (get_or kinds i 0) (get_or banked i 0) (get_or positions i 0) (get_or outputs i 0) (get_or sizes i 0)

abbrev pub text_held : Shape → Bankdefs → Map → List ℕ → List ℕ → List ℕ → List ℕ → List ℕ → List ℕ
text_held s banks m kinds banked positions outputs sizes =
    file_line s m.passes
    ++ banks_text banks m.padding (min banks.len max_banks)
    ++ nodes_held banks kinds banked positions outputs sizes m.nodes
    ++ fault_text m.fault
    ++ verdict_text m.verdict
