-- What a layout file is, from documents 01 and 02: its fields and their bytes, the two forms, what a sound file holds, and the field at which a broken
-- one breaks. A byte of a list l is `get_or l i 0`, counted from 0.
use Rattle.std.specs.Prelude.{◌≡◌, List, [], ◌∷◌, ◌++◌, ℕ, suc, ◌+◌, ◌*◌, ◌≤◌, ◌<◌, ◌/◌, ◌%◌, length, get_or}
use Rattle.says.specs.Words.{First}

-- "Fields have a one-byte tag and a two-byte length, big-endian throughout": the tag, the two bytes, the payload
abbrev pub field : ℕ → List ℕ → List ℕ
field tag payload = tag ∷ length payload / 256 ∷ length payload % 256 ∷ payload

-- fields of one tag, one behind the other
unfoldable pub fields : ℕ → List (List ℕ) → List ℕ
fields tag [] = []
fields tag (payload ∷ more) = field tag payload ++ fields tag more

-- "big-endian throughout": two, four and eight bytes of a payload, from byte `at` on
abbrev pub two : List ℕ → ℕ → ℕ
two p at = get_or p at 0 * 256 + get_or p (at + 1) 0

abbrev pub four : List ℕ → ℕ → ℕ
four p at = two p at * 65536 + two p (at + 2)

abbrev pub eight : List ℕ → ℕ → ℕ
eight p at = four p at * 4294967296 + four p (at + 4)

-- what a file holds, field by field: the payload of each bank, node and row, the values, the limit
pub record Held : Type 0 where
  pub banks : List (List ℕ)
  pub nodes : List (List ℕ)
  pub rows : List (List ℕ)
  pub values : List ℕ
  pub limit : ℕ

-- ---- the two forms
pub data Form : Type 0 where
  form-1 : Form
  form-2 : Form

-- "at most 65,000 bytes"; "Form 2 may have 65,536 bytes"
abbrev pub longest : Form → ℕ
longest form-1 = 65000
longest form-2 = 65536

-- "1 bank"; "Its banks use tag 17"
abbrev pub bank_tag : Form → ℕ
bank_tag form-1 = 1
bank_tag form-2 = 17

-- "Form 2 begins with a field of tag 16 holding one byte, 2."
abbrev pub head : Form → List ℕ
head form-1 = []
head form-2 = field 16 (2 ∷ [])

-- "in this order: 1 bank ..; 2 node ..; 3 row ..; 4 values, one field; 5 pass limit, 1 byte"; "fields 2 to 5 stay"
abbrev pub bytes : Form → Held → List ℕ
bytes f h =
    head f
    ++ (fields (bank_tag f) h.banks ++ (fields 2 h.nodes ++ (fields 3 h.rows ++ (field 4 h.values ++ field 5 (h.limit ∷ [])))))

-- "unit 2 bytes, signed start 8, size 4, offset 4, label alignment 4, flags 1": 23; "flags above 15" break a file; "a payload one byte longer (fill
-- bit, 0 or 1)"
pub data Bank (payload : List ℕ) : Form → Type 0 where
  of-1 : length payload ≡ 23 → get_or payload 22 0 ≤ 15 → Bank payload form-1
  of-2 : length payload ≡ 24 → get_or payload 22 0 ≤ 15 → get_or payload 23 0 ≤ 1 → Bank payload form-2

-- "2 node (kind 1, operand 4); 3 row (number 4 and state 1 for each node)"
pub record Fits (f : Form) (h : Held) : Type 0 where
  pub banks : (b : ℕ) → b < length h.banks → Bank (get_or h.banks b []) f
  pub nodes : (i : ℕ) → i < length h.nodes → length (get_or h.nodes i []) ≡ 5
  pub rows : (r : ℕ) → r < length h.rows → length (get_or h.rows r []) ≡ 5 * length h.nodes

-- A sound file of a form.
pub record Sound (f : Form) (file : List ℕ) (h : Held) : Type 0 where
  pub is : file ≡ bytes f h
  pub short : length file ≤ longest f
  pub fits : Fits f h

-- ---- broken files. A whole field of this tag and length begins at byte `at`.
abbrev pub FieldAt : (file : List ℕ) (at tag len : ℕ) → Type 0
FieldAt file at tag len =
    (at + 3 + len ≤ length file) × (get_or file at 0 ≡ tag) × (get_or file (at + 1) 0 * 256 + get_or file (at + 2) 0 ≡ len)

-- The first `count` fields are a head, banks, nodes and rows with which a file of the form may begin, so many of each; the next field begins at `at`.
-- A bank comes before nodes and rows, a node before rows.
pub data Front (file : List ℕ) : Form → (count at banks nodes rows : ℕ) → Type 0 where
  begins-1 : Front file form-1 0 0 0 0 0
  begins-2 : FieldAt file 0 16 1 → get_or file 3 0 ≡ 2 → Front file form-2 1 4 0 0 0
  bank-1 : {c at b : ℕ} → Front file form-1 c at b 0 0 → FieldAt file at 1 23 → get_or file (at + 25) 0 ≤ 15 → Front file form-1 (suc c) (at + 26) (suc b) 0 0
  bank-2 : {c at b : ℕ} → Front file form-2 c at b 0 0 → FieldAt file at 17 24 → get_or file (at + 25) 0 ≤ 15 → get_or file (at + 26) 0 ≤ 1
      → Front file form-2 (suc c) (at + 27) (suc b) 0 0
  node : {f : Form} {c at b n : ℕ} → Front file f c at b n 0 → FieldAt file at 2 5 → Front file f (suc c) (at + 8) b (suc n) 0
  row : {f : Form} {c at b n r : ℕ} → Front file f c at b n r → FieldAt file at 3 (5 * n) → Front file f (suc c) (at + (3 + 5 * n)) b n (suc r)

-- Field i, from 0, and all before it are such as a file of the form may begin with.
pub data GoodField (f : Form) (file : List ℕ) : ℕ → Type 0 where
  front : {i at b n r : ℕ} → Front file f (suc i) at b n r → GoodField f file i
  values : {i at b n r v : ℕ} → Front file f i at b n r → FieldAt file at 4 v → GoodField f file i
  limit : {i at b n r v : ℕ} → Front file f i at b n r → FieldAt file at 4 v → FieldAt file (at + 3 + v) 5 1 → GoodField f file (suc i)

-- "A broken file (a field missing, unknown, out of order or extra, a wrong length, flags above 15) is 4 with the first such field's index, from 0";
-- "longer: 4, place 0"
pub data Broken (f : Form) (file : List ℕ) : ℕ → Type 0 where
  long : longest f < length file → Broken f file 0
  at_field : {i : ℕ} → length file ≤ longest f → ((h : Held) → Sound f file h → ⊥) → First (λ k. GoodField f file k → ⊥) i → Broken f file i
