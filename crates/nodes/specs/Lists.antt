-- The lists that a layout is given by, a node as a row shows it, and the list check (document 01, "The walk" and refusal 4).
use Rattle.std.specs.Prelude.{ℕ, zero, suc, ◌+◌, ◌*◌, ◌≤◌, ◌≡◌, Bool, false, ◌&&◌, ◌||◌, List, eqb, leb, ltb, get_or, length, take, drop, Err}
use Rattle.prelude.specs.Limits.{max_nodes, max_rows}
use Rattle.prelude.specs.Pick.{pick}
use Rattle.prelude.specs.declared.Refusal.TheVariants.{Malformed}
use Rattle.prelude.specs.Verdict.{Verdict, Accepted}
use Rattle.nodes.specs.declared.Node.{Node}
use Rattle.nodes.specs.Kinds.{is_unknown, is_switch, is_item, is_declared, reads_state}

-- The lent lists: a kind and an operand for each node; a number and a state for each node of each row, row after row; the value bytes.
pub record Lists : Type 0 where
  pub kinds : List ℕ
  pub operands : List ℕ
  pub numbers : List ℕ
  pub states : List ℕ
  pub rows : ℕ
  pub values : List ℕ

-- the lists by their parts
abbrev pub lists : List ℕ → List ℕ → List ℕ → List ℕ → ℕ → List ℕ → Lists
lists kinds operands numbers states rows values =
    record { kinds = kinds; operands = operands; numbers = numbers; states = states; rows = rows; values = values }

-- "A row gives each node a number and a state"
pub record Row : Type 0 where
  pub numbers : List ℕ
  pub states : List ℕ

-- a row by its parts
abbrev pub row_with : List ℕ → List ℕ → Row
row_with numbers states = record { numbers = numbers; states = states }

-- row r, from 0, of lists that hold row after row, each as long as the n nodes
abbrev pub row_of : ℕ → List ℕ → List ℕ → ℕ → Row
row_of n numbers states r = record { numbers = take n (drop (r * n) numbers); states = take n (drop (r * n) states) }

abbrev pub row_at : Lists → ℕ → Row
row_at l r = row_of (length l.kinds) l.numbers l.states r

-- "Kind 5 takes its number from the first row."
abbrev pub number_at : List ℕ → List ℕ → Row → ℕ → ℕ
number_at kinds first row i = pick (is_declared (get_or kinds i 0)) (get_or first i 0) (get_or row.numbers i 0)

-- node i as a row shows it; `first` is the first row's numbers
abbrev pub node_at : List ℕ → List ℕ → List ℕ → Row → ℕ → Node
node_at kinds operands first row i =
    record {
      index = i;
      kind = get_or kinds i 0;
      operand = get_or operands i 0;
      number = number_at kinds first row i;
      state = get_or row.states i 0;
    }

-- node i as row r of the lists shows it
abbrev pub node_of : List ℕ → List ℕ → List ℕ → List ℕ → ℕ → ℕ → Node
node_of kinds operands numbers states r i =
    node_at kinds operands (row_of (length kinds) numbers states 0).numbers (row_of (length kinds) numbers states r) i

-- "The item's starting bit plus its number must not pass the end of the value bytes"
abbrev pub past_end : ℕ → Node → Bool
past_end bytes node = ltb (8 * bytes) (node.operand + node.number)

-- "state (0 resolved, 1 stable, 2 unresolved)"; "0, 1 and 2 don't read the state". "The item's starting bit plus its number must not pass the end
-- of the value bytes, in any row."
abbrev pub row_fault : ℕ → Node → Bool
row_fault bytes node = (reads_state node.kind && ltb 2 node.state) || (is_item node.kind && past_end bytes node)

-- "Any other kind number is refused. The operand is a bank for 1"
abbrev pub head_fault : ℕ → Node → Bool
head_fault banks node = is_unknown node.kind || (is_switch node.kind && leb banks node.operand)

-- whether a row below `rows` is at fault at node i
unfoldable pub any_row_fault : Lists → ℕ → ℕ → Bool
any_row_fault l i zero = false
any_row_fault l i (suc r) =
    any_row_fault l i r
    || row_fault (length l.values) (node_of l.kinds l.operands l.numbers l.states r i)

abbrev pub node_fault : ℕ → Lists → ℕ → Bool
node_fault banks l i =
    head_fault banks (node_of l.kinds l.operands l.numbers l.states 0 i) || any_row_fault l i l.rows

-- the earlier of two verdicts that refuses
abbrev pub first_of : Verdict → Verdict → Verdict
first_of Accepted later = later
first_of (Err why) later = Err why

-- "then the lowest node": the verdict on the first i nodes
unfoldable pub nodes_to : ℕ → Lists → ℕ → Verdict
nodes_to banks l zero = Accepted
nodes_to banks l (suc i) = first_of (nodes_to banks l i) (pick (node_fault banks l i) (Err (Malformed i)) Accepted)

-- "node count": no more nodes than the limit, and an operand for each
abbrev pub node_count_sound : Lists → Bool
node_count_sound l = leb (length l.kinds) max_nodes && eqb (length l.operands) (length l.kinds)

-- "row count": 1 to 16 rows, and a number and a state for each node in each
abbrev pub row_count_sound : Lists → Bool
row_count_sound l =
    let cells = l.rows * length l.kinds in
    leb 1 l.rows && (leb l.rows max_rows && (eqb (length l.numbers) cells && eqb (length l.states) cells))

-- "inherited fill .. or full fill" (document 02, Ticket 8): 0 or 1
abbrev pub known_fill : ℕ → Bool
known_fill fill = leb fill 1

-- "then 4: node count, row count, limit, then the lowest node, its kind, operand and rows in order." "field 0, 1, 2 for node count, row count,
-- limit"; "4 for an unknown choice, after the limit (field 3)" (document 02, Ticket 8). The lists must be as long as the counts say. The limit is a
-- byte, so 0 to 255 by its type.
unfoldable pub lists_of : ℕ → Lists → ℕ → Verdict
lists_of banks l fill =
    pick (node_count_sound l)
    (pick (row_count_sound l) (pick (known_fill fill) (nodes_to banks l (length l.kinds)) (Err (Malformed 3))) (Err (Malformed 1)))
    (Err (Malformed 0))

-- Rows whose lengths agree with the counts: what the list check has shown before it looks at a node.
pub record Rows (n rows : ℕ) (numbers states : List ℕ) : Type 0 where
  pub some : 1 ≤ rows
  pub few : rows ≤ max_rows
  pub numbered : length numbers ≡ rows * n
  pub stated : length states ≡ rows * n
