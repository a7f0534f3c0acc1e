-- A writer of either form: the file of a layout, from document 01's words, and what it means to read a layout back out of a file.
use Rattle.std.specs.Prelude.{Bool, true, false, List, [], ◌∷◌, ◌++◌, map, ◌≡◌, ℕ, ◌+◌, ◌*◌, ◌-◌, ◌≤◌, ltb, length, Option, None, Some, Ok}
use Rattle.std.specs.Int.{w64}
use Rattle.std.proofs.Common.{of_z, SFits}
use Rattle.prelude.specs.Pick.{pick}
use Rattle.bankdef.specs.Numbers.{fill_bit}
use Rattle.bankdef.specs.declared.Bankdef.{Bankdef}
use Rattle.form_fields.specs.declared.Kind.{Kind}
use Rattle.form_fields.specs.declared.Shape.{Shape}
use Rattle.form_fields.specs.Banks.{banks_in}
use Rattle.form_fields.specs.Contents.{bytes16, bytes32, bytes64, flat, Contents, written, Each}
use Rattle.form_fields.specs.Shape.{form_in}
use Rattle.form_fields.specs.Lists.{kinds_in, operands_in, numbers_in, states_in, values_by}

-- ---- what a layout is

pub record Node : Type 0 where
  pub kind : ℕ
  pub operand : ℕ

-- What a row gives a node.
pub record Cell : Type 0 where
  pub number : ℕ
  pub state : ℕ

pub record Layout : Type 0 where
  pub banks : List Bankdef
  pub nodes : List Node
  pub rows : List (List Cell)
  pub values : List ℕ
  pub limit : ℕ

-- ---- its file

-- A number that may be absent is written as 0 with its flag clear.
abbrev pub number_in : Option ℕ → ℕ
number_in None = 0
number_in (Some n) = n

-- A flag is set, 1, or clear, 0.
abbrev pub present : Option ℕ → ℕ
present None = 0
present (Some n) = 1

abbrev pub filled : Bool → ℕ
filled true = 1
filled false = 0

-- "flags 1: size 1, offset 2, label alignment 4, fill 8"
unfoldable pub flags_of : Bankdef → ℕ
flags_of b = present b.size + 2 * present b.offset + 4 * present b.align + 8 * filled b.fill

-- "a payload one byte longer (fill bit, 0 or 1)", in the form whose banks are longer
abbrev pub fill_bytes : Kind → Bankdef → List ℕ
fill_bytes k b = pick (ltb 23 k.bank) (fill_bit b ∷ []) []

-- "1 bank (unit 2 bytes, signed start 8, size 4, offset 4, label alignment 4, flags 1)". `of_z w64` is two's complement.
unfoldable pub bank_bytes : Kind → Bankdef → List ℕ
bank_bytes k b =
    bytes16 b.unit ++ (bytes64 (of_z w64 b.start)
    ++ (bytes32 (number_in b.size) ++ (bytes32 (number_in b.offset) ++ (bytes32 (number_in b.align) ++ (flags_of b ∷ fill_bytes k b)))))

-- "2 node (kind 1, operand 4)"
abbrev pub node_bytes : Node → List ℕ
node_bytes n = n.kind ∷ bytes32 n.operand

-- "3 row (number 4 and state 1 for each node)"
abbrev pub cell_bytes : Cell → List ℕ
cell_bytes c = bytes32 c.number ++ (c.state ∷ [])

abbrev pub contents : Kind → Layout → Contents
contents k l =
    record {
      banks = map (bank_bytes k) l.banks;
      nodes = map node_bytes l.nodes;
      rows = map (flat cell_bytes) l.rows;
      values = l.values;
      limit = l.limit;
    }

unfoldable pub encode : Kind → Layout → List ℕ
encode k l = written k (contents k l)

-- ---- which layouts have a file

-- A start has room in eight bytes, a fill bit is one that the form has (0 in form 1; 0 or 1 in form 2, whose banks are a byte longer), a row has
-- a cell for each node, and the file is no longer than a file of the form may be. A number too large for its bytes would make a byte above 255,
-- which no file holds; what follows holds of it all the same, so nothing more is asked.
abbrev pub Writes : Kind → Bankdef → Type 0
Writes k b = SFits w64 b.start × (fill_bit b ≤ k.bank - 23)

abbrev pub Full : ℕ → List Cell → Type 0
Full nodes row = length row ≡ nodes

pub record Writable (k : Kind) (l : Layout) : Type 0 where
  pub banks : Each (Writes k) l.banks
  pub full : Each (Full (length l.nodes)) l.rows
  pub short : length (encode k l) ≤ k.longest

-- ---- reading back

-- What a file of the form with these contents says, but for its lists.
abbrev pub shape_for : Kind → Contents → Shape
shape_for k c =
    record {
      form = k.form;
      banks = length c.banks;
      nodes = length c.nodes;
      rows = length c.rows;
      values = k.heads * 4 + length c.banks * (3 + k.bank) + length c.nodes * 8 + length c.rows * (3 + 5 * length c.nodes) + 3;
      size = length c.values;
      limit = c.limit;
    }

-- A file says what a layout holds: it is sound with these counts and this limit, and its banks, lists and values are the layout's.
pub record Says (k : Kind) (file : List ℕ) (l : Layout) : Type 0 where
  pub form : form_in k file ≡ Ok (shape_for k (contents k l))
  pub of-banks : banks_in k file (length l.banks) ≡ l.banks
  pub of-kinds : kinds_in k file ≡ map (λ (n : Node). n.kind) l.nodes
  pub of-operands : operands_in k file ≡ map (λ (n : Node). n.operand) l.nodes
  pub of-numbers : numbers_in k file ≡ flat (map (λ (c : Cell). c.number)) l.rows
  pub of-states : states_in k file ≡ flat (map (λ (c : Cell). c.state)) l.rows
  pub of_values : values_by file (form_in k file) ≡ l.values
