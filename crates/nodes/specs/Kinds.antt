-- What a kind does, told once: each number of a kind stands here alone, and the definitions that tell kinds apart go by these names. "Kinds: 0 nothing, 1 bank
-- switch, 2 label, 3 constant, 4 instruction, 5 data of declared size, 6 data of open size, 7 reserve, 8 align, 9 addr, 10 assert."
use Rattle.std.specs.Prelude.{ℕ, ◌≤◌, Bool, ◌&&◌, ◌||◌, eqb, leb, ltb}
use Rattle.prelude.specs.Pick.{pick}
use Rattle.nodes.specs.declared.kinds.Doing.{Doing}
use Rattle.nodes.specs.declared.kinds.Doing.TheVariants.{Stays, Switches, Symbol, Adds, Aligns, Sets, Unknown}
use Rattle.nodes.specs.declared.Node.{Node}

-- ---- the kinds by their numbers

-- "Any other kind number is refused."
abbrev pub last_kind : ℕ
last_kind = 10

abbrev pub is_unknown : ℕ → Bool
is_unknown kind = ltb last_kind kind

abbrev pub is_switch : ℕ → Bool
is_switch kind = eqb kind 1

abbrev pub is_label : ℕ → Bool
is_label kind = eqb kind 2

-- "a symbol (label or constant)"
abbrev pub is_symbol : ℕ → Bool
is_symbol kind = eqb kind 2 || eqb kind 3

-- "0, 1 and 2 don't read the state"
abbrev pub reads_state : ℕ → Bool
reads_state kind = leb 3 kind

-- "Kinds 0 to 3 and 10 don't read the number"
abbrev pub ReadsNumber : ℕ → Type 0
ReadsNumber kind = (4 ≤ kind) × (kind ≤ 9)

-- "written items (4, 5, 6)"; "a starting bit in the value bytes for 4 to 6"
abbrev pub is_item : ℕ → Bool
is_item kind = leb 4 kind && leb kind 6

-- "5 data of declared size": "Kind 5 takes its number from the first row", and leaves known-ness
abbrev pub is_declared : ℕ → Bool
is_declared kind = eqb kind 5

abbrev pub is_reserve_kind : ℕ → Bool
is_reserve_kind kind = eqb kind 7

-- "4 to 7 add their number"
abbrev pub adds_number : ℕ → Bool
adds_number kind = leb 4 kind && leb kind 7

-- "8 adds the distance to alignment"
abbrev pub is_align : ℕ → Bool
is_align kind = eqb kind 8

-- "9 sets the position"
abbrev pub is_addr : ℕ → Bool
is_addr kind = eqb kind 9

-- ---- what they do

-- "Spans are labels (size 0) and written items"
abbrev pub is_span_kind : ℕ → Bool
is_span_kind kind = is_label kind || is_item kind

-- "labels (size 0), written items (4, 5, 6) and reserves"
abbrev pub is_placed_kind : ℕ → Bool
is_placed_kind kind = is_label kind || (is_item kind || is_reserve_kind kind)

-- the bits of a written item or a reserve; any other node has none: "labels (size 0)"
abbrev pub size_of : Node → ℕ
size_of n = pick (adds_number n.kind) n.number 0

-- What a kind does with its bank's position; one that is known and none of these leaves it.
abbrev pub does_of : ℕ → Doing
does_of kind =
    pick (is_switch kind) Switches
    (pick (is_symbol kind) Symbol
    (pick (adds_number kind) Adds
    (pick (is_align kind) Aligns
    (pick (is_addr kind) Sets
    (pick (is_unknown kind) Unknown Stays)))))

-- a case for each: where the position stays, where a number is added, where a distance is, where it is set, and where the kind is refused
abbrev pub by_doing {ℓ} : {X : Type ℓ} → Doing → X → X → X → X → X → X
by_doing Stays stays adds aligns sets unknown = stays
by_doing Switches stays adds aligns sets unknown = stays
by_doing Symbol stays adds aligns sets unknown = stays
by_doing Adds stays adds aligns sets unknown = adds
by_doing Aligns stays adds aligns sets unknown = aligns
by_doing Sets stays adds aligns sets unknown = sets
by_doing Unknown stays adds aligns sets unknown = unknown
