-- A file as its fields: the payload of each, bank bytes whole, and the writer of either form. Document 01: "Fields have a one-byte tag and a
-- two-byte length, big-endian throughout, in this order: 1 bank ..; 2 node ..; 3 row ..; 4 values, one field; 5 pass limit, 1 byte."
use Rattle.std.specs.Prelude.{true, List, [], ◌∷◌, ◌++◌, ◌≡◌, ℕ, ◌*◌, ◌-◌, ◌/◌, ◌%◌, eqb, length, get_or}
use Rattle.prelude.specs.Pick.{pick}
use Rattle.form_fields.specs.declared.Kind.{Kind}
use Rattle.form_fields.specs.Fields.{ends_well}

-- ---- the writer

-- "big-endian throughout"
unfoldable pub bytes16 : ℕ → List ℕ
bytes16 n = n / 256 ∷ n % 256 ∷ []

unfoldable pub bytes32 : ℕ → List ℕ
bytes32 n = bytes16 (n / 65536) ++ bytes16 (n % 65536)

unfoldable pub bytes64 : ℕ → List ℕ
bytes64 n = bytes32 (n / 4294967296) ++ bytes32 (n % 4294967296)

-- "Fields have a one-byte tag and a two-byte length"
unfoldable pub field : ℕ → List ℕ → List ℕ
field tag payload = tag ∷ (bytes16 (length payload) ++ payload)

-- Things one behind the other.
unfoldable pub flat : {X : Type 0} {A : Type 0} → (X → List A) → List X → List A
flat write [] = []
flat write (x ∷ xs) = write x ++ flat write xs

-- What a file holds, field by field: the payloads of its banks, nodes and rows, its values and its limit.
pub record Contents : Type 0 where
  pub banks : List (List ℕ)
  pub nodes : List (List ℕ)
  pub rows : List (List ℕ)
  pub values : List ℕ
  pub limit : ℕ

-- "Form 2 begins with a field of tag 16 holding one byte, 2."
abbrev pub head_bytes : Kind → List ℕ
head_bytes k = pick (eqb k.heads 0) [] (field 16 (2 ∷ []))

-- The file of a form with these contents.
unfoldable pub written : Kind → Contents → List ℕ
written k c =
    head_bytes k
    ++ (flat (field k.tag) c.banks
    ++ (flat (field 2) c.nodes ++ (flat (field 3) c.rows ++ (field 4 c.values ++ field 5 (c.limit ∷ [])))))

-- ---- which contents a file may have

-- Every thing of a list is so.
abbrev pub Each : {X : Type 0} → (X → Type 0) → List X → Type 0
Each P [] = Unit {0}
Each P (x ∷ xs) = P x × Each P xs

-- as long as this
abbrev pub Long : ℕ → List ℕ → Type 0
Long n payload = length payload ≡ n

-- A bank has its form's length, and its flags, and in form 2 its fill bit, are within their limits.
abbrev pub BankFits : Kind → List ℕ → Type 0
BankFits k b = Long k.bank b × (ends_well k.tag (get_or b (k.bank - 2) 0) (get_or b (k.bank - 1) 0) ≡ true)

-- "2 node (kind 1, operand 4); 3 row (number 4 and state 1 for each node)"
pub record Fits (k : Kind) (c : Contents) : Type 0 where
  pub of-banks : Each (BankFits k) c.banks
  pub of-nodes : Each (Long 5) c.nodes
  pub of-rows : Each (Long (5 * length c.nodes)) c.rows
