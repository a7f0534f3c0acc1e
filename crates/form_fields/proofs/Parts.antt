-- A field that was written, read back by its tests; a bank, a node and a row of a layout, number by number.
use Rattle.std.specs.Prelude.{Bool, true, false, ◌≡◌, ℕ, ◌+◌, ◌*◌, ◌-◌, ◌/◌, ◌%◌, ◌≤◌, ◌<◌, eqb, length, Option, None, Some}
use mathlib.Core.List.{List, [], ◌∷◌, ◌++◌, map}
use Rattle.std.proofs.Math.Path.{refl, ap, ap₂}
use Rattle.std.proofs.Common.{sym, ◌∙◌, add-zero, get_or-drop, to_z, of_z}
use native.Mathlib.Omega.{arith}
use Rattle.std.proofs.Math.ListN.{get_or, get_or-append}
use borrow.Author.Tests.{le-leb}
use mir.Syntax.{w64}
use mir.ValLaws.{to_z-of_z}
use Rattle.prelude.specs.Pick.{pick}
use Rattle.bankdef.specs.Numbers.{fill_bit}
use Rattle.bankdef.specs.declared.Bankdef.{Bankdef}
use Rattle.form_fields.specs.declared.Kind.{Kind}
use Rattle.form_fields.specs.Words.{byte, word32}
use Rattle.form_fields.specs.Fields.{field_at, sound_at, ends_well}
use Rattle.form_fields.specs.Kind.{Known, is1, is2}
use Rattle.form_fields.specs.Laws.Kind.{known-bank}
use Rattle.form_fields.specs.Banks.{is_set, opt_of, fill_bit_at, bank_at}
use Rattle.form_fields.specs.Columns.{column}
use Rattle.form_fields.specs.Contents.{bytes16, bytes32, bytes64, field, flat, Each, Long, BankFits}
use Rattle.form_fields.specs.Lists.{cells}
use Rattle.form_fields.specs.Writer.{Node, Cell, number_in, present, filled, flags_of, fill_bytes, bank_bytes, node_bytes, cell_bytes, Writes, Full}
use Rattle.form_fields.specs.Has.{Has}
use Rattle.form_fields.proofs.Has.{has_left, has_right, has-byte, has-word16, has-word32, has-word64, field-payload, field-there}
use Rattle.form_fields.specs.Laws.Has.{field-length}
use Rattle.form_fields.proofs.Written.{flat-length, column-of}

-- ---- fields

module _ (file : List ℕ) where
  pub has-at : (payload : List ℕ) (at i : ℕ) → i < length payload → Has file at payload → byte file (at + i) ≡ get_or payload i 0
  has-at payload at i less h =
      sym (get_or-drop at file i 0) ∙ ap (λ (l : List ℕ). get_or l i 0) h.is ∙ get_or-append payload h.rest 0 i less

  there : (tag n : ℕ) (payload : List ℕ) (at : ℕ) → Long n payload → Has file at (field tag payload) → field_at file tag n at ≡ true
  there tag n payload at e h = ap (λ (k : ℕ). field_at file tag k at) (sym e) ∙ field-there tag payload h

  -- A field whose last two bytes are as its tag asks is sound.
  pub payload-sound : (tag n : ℕ) (payload : List ℕ) (at : ℕ) → 2 ≤ n → Long n payload
      → ends_well tag (get_or payload (n - 2) 0) (get_or payload (n - 1) 0) ≡ true → Has file at (field tag payload) → sound_at file tag n at ≡ true
  unfolding sound_at
  payload-sound tag n payload at some e ends h =
      let p = field-payload tag payload h in
      let before : byte file (at + 1 + n) ≡ get_or payload (n - 2) 0 =
      ap (byte file) {x = at + 1 + n} {y = at + 3 + (n - 2)} (omega arith) ∙ has-at payload (at + 3) (n - 2) (omega (arith, e)) p in
      let last : byte file (at + 2 + n) ≡ get_or payload (n - 1) 0 =
      ap (byte file) {x = at + 2 + n} {y = at + 3 + (n - 1)} (omega arith) ∙ has-at payload (at + 3) (n - 1) (omega (arith, e)) p in
      rw (there tag n payload at e h, before, last) ends

  pub bank-sound : {k : Kind} → Known k → (b : List ℕ) → BankFits k b → (at : ℕ) → Has file at (field k.tag b) → sound_at file k.tag k.bank at ≡ true
  bank-sound {k} known b fits at h =
      payload-sound k.tag k.bank b at (omega (arith, (known-bank known).0)) fits.0 fits.1 h

  pub node-sound : (n : List ℕ) → Long 5 n → (at : ℕ) → Has file at (field 2 n) → sound_at file 2 5 at ≡ true
  unfolding sound_at
  node-sound n e at h = rw (there 2 5 n at e h) refl

  pub row-sound : (nodes : ℕ) (row : List ℕ) → Long (5 * nodes) row → (at : ℕ) → Has file at (field 3 row) → sound_at file 3 (5 * nodes) at ≡ true
  unfolding sound_at
  row-sound nodes row e at h = rw (there 3 (5 * nodes) row at e h) refl

pub field-long : (tag n : ℕ) (payload : List ℕ) → Long n payload → length (field tag payload) ≡ 3 + n
field-long tag n payload e = field-length tag payload ∙ ap (λ (m : ℕ). 3 + m) e

-- ---- banks

present-le : (o : Option ℕ) → present o ≤ 1
present-le None = omega arith
present-le (Some n) = omega arith

filled-le : (f : Bool) → filled f ≤ 1
filled-le true = omega arith
filled-le false = omega arith

-- a number and its flag say whether it is there
opt-back : (o : Option ℕ) (flags flag : ℕ) → flags / flag % 2 ≡ present o → opt_of flags flag (number_in o) ≡ o
opt-back None flags flag e = rw e refl
opt-back (Some n) flags flag e = rw e refl

fill-back : (f : Bool) (bit : ℕ) → bit ≡ filled f → eqb bit 1 ≡ f
fill-back true bit e = rw e refl
fill-back false bit e = rw e refl

module _ (b : Bankdef) where
  flags-le : flags_of b ≤ 15
  unfolding flags_of
  flags-le = omega (arith, present-le b.size, present-le b.offset, present-le b.align, filled-le b.fill)

  -- each flag by itself
  flags-are : (flags_of b / 1 % 2 ≡ present b.size) × (flags_of b / 2 % 2 ≡ present b.offset) × (flags_of b / 4 % 2 ≡ present b.align) ×
      (flags_of b / 8 % 2 ≡ filled b.fill)
  unfolding flags_of
  flags-are =
      let s = present-le b.size in
      let o = present-le b.offset in
      let a = present-le b.align in
      let f = filled-le b.fill in
      (omega arith, omega arith, omega arith, omega arith)

  -- the bytes of a bank are as many as its form has, and end as they should
  pub bank-fits : {k : Kind} → Known k → Writes k b → BankFits k (bank_bytes k b)
  unfolding bank_bytes bytes64 bytes32 bytes16
  bank-fits is1 w = (refl, le-leb (flags_of b) 15 flags-le)
  bank-fits is2 w = (refl, rw (le-leb (flags_of b) 15 flags-le, le-leb (fill_bit b) 1 w.1) refl)

-- the fill bit, where the form has one
bit_at : (file : List ℕ) (b : Bankdef) (at : ℕ) (t : Bool) → fill_bit b ≤ pick t 1 0 → Has file (at + 25) (flags_of b ∷ pick t (fill_bit b ∷ []) [])
    → pick t (byte file (at + 26)) 0 ≡ fill_bit b
bit_at file b at true le g = has-byte (fill_bit b) [] (has_right {at = at + 25} (flags_of b ∷ []) (fill_bit b ∷ []) (at + 26) (omega arith) g)
bit_at file b at false le g = omega (arith, le)

bit_in : {k : Kind} → Known k → (file : List ℕ) (b : Bankdef) (at : ℕ) → fill_bit b ≤ k.bank - 23 → Has file (at + 25) (flags_of b ∷ fill_bytes k b)
    → fill_bit_at k file at ≡ fill_bit b
bit_in is1 file b at le g = bit_at file b at false le g
bit_in is2 file b at le g = bit_at file b at true le g

module _ (file : List ℕ) (k : Kind) (b : Bankdef) (at : ℕ) (h : Has file at (field k.tag (bank_bytes k b))) where
  abbrev tail : List ℕ
  tail = flags_of b ∷ fill_bytes k b

  -- where each number of a bank stands
  tail_at : Has file (at + 25) tail
  unfolding bank_bytes bytes64 bytes32 bytes16
  tail_at =
      let start = bytes64 (of_z w64 b.start) in
      let numbers = bytes32 (number_in b.size) ++ (bytes32 (number_in b.offset) ++ bytes32 (number_in b.align)) in
      has_right (bytes16 b.unit ++ (start ++ numbers)) tail (at + 25) (omega arith) (field-payload k.tag (bank_bytes k b) h)

  flags-at : byte file (at + 25) ≡ flags_of b
  flags-at = has-byte (flags_of b) (fill_bytes k b) tail_at

  fill-bit-at : Known k → fill_bit b ≤ k.bank - 23 → fill_bit_at k file at ≡ fill_bit b
  fill-bit-at known le = bit_in known file b at le tail_at

  pub bank-back : Known k → Writes k b → bank_at k file at ≡ b
  unfolding bank_at bank_bytes bytes64 bytes32 bytes16
  bank-back known fits =
      let payload = field-payload k.tag (bank_bytes k b) h in
      let unit = bytes16 b.unit in
      let start = bytes64 (of_z w64 b.start) in
      let size = bytes32 (number_in b.size) in
      let offset = bytes32 (number_in b.offset) in
      let align = bytes32 (number_in b.align) in
      let from_start = has_right unit (start ++ (size ++ (offset ++ (align ++ tail)))) (at + 5) (omega arith) payload in
      let from-size = has_right start (size ++ (offset ++ (align ++ tail))) (at + 13) (omega arith) from_start in
      let from-offset = has_right size (offset ++ (align ++ tail)) (at + 17) (omega arith) from-size in
      let from-align = has_right offset (align ++ tail) (at + 21) (omega arith) from-offset in
      let bits = flags-are b in
      let start_is = ap (to_z w64) (has-word64 (at + 5) (of_z w64 b.start) (has_left start (size ++ (offset ++ (align ++ tail))) from_start)) ∙ to_z-of_z w64
      b.start fits.0 in
      let size_is = ap₂ (λ (f n : ℕ). opt_of f 1 n) flags-at (has-word32 (at + 13) (number_in b.size) (has_left size (offset ++ (align ++ tail)) from-size))
      ∙ opt-back b.size (flags_of b) 1 bits.0 in
      let offset-is = ap₂ (λ (f n : ℕ). opt_of f 2 n) flags-at (has-word32 (at + 17) (number_in b.offset) (has_left offset (align ++ tail) from-offset))
      ∙ opt-back b.offset (flags_of b) 2 bits.1 in
      let align_is = ap₂ (λ (f n : ℕ). opt_of f 4 n) flags-at (has-word32 (at + 21) (number_in b.align) (has_left align tail from-align)) ∙ opt-back
      b.align (flags_of b) 4 bits.2 in
      let fill_is = ap (λ (f : ℕ). is_set f 8) flags-at ∙ fill-back b.fill (flags_of b / 8 % 2) bits.3 in
      let bit_is = fill-bit-at known fits.1 in
      let unit-is = has-word16 (at + 3) b.unit (has_left unit (start ++ (size ++ (offset ++ (align ++ tail)))) payload) in
      λ i.
      record {
        unit = unit-is i;
        start = start_is i;
        size = size_is i;
        offset = offset-is i;
        align = align_is i;
        fill = fill_is i;
        fill_bit = bit_is i;
      }

-- ---- nodes

pub node-length : (n : Node) → length (node_bytes n) ≡ 5
unfolding bytes32 bytes16
node-length n = refl

-- a thing may be any
abbrev pub Any : {X : Type 0} → X → Type 0
Any x = Unit {0}

pub each-any : {X : Type 0} (xs : List X) → Each Any xs
each-any [] = tt
each-any (x ∷ xs) = (tt, each-any xs)

module _ (file : List ℕ) (n : Node) (at : ℕ) (h : Has file at (field 2 (node_bytes n))) where
  pub kind-back : byte file (at + 3) ≡ n.kind
  kind-back = has-byte n.kind (bytes32 n.operand) (field-payload 2 (node_bytes n) h)

  pub operand-back : word32 file (at + 4) ≡ n.operand
  operand-back =
      has-word32 (at + 4) n.operand
      (has_right (n.kind ∷ []) (bytes32 n.operand) (at + 4) (omega arith) (field-payload 2 (node_bytes n) h))

-- ---- rows

cell-length : (c : Cell) → Any c → length (cell_bytes c) ≡ 5
unfolding bytes32 bytes16
cell-length c e = refl

module _ (file : List ℕ) (nodes : ℕ) where
  pub row-length : (row : List Cell) → Full nodes row → length (flat cell_bytes row) ≡ 5 * nodes
  row-length row full = omega (arith, full, flat-length file cell_bytes Any 5 cell-length row (each-any row))

  abbrev row_field : List Cell → List ℕ
  row_field row = field 3 (flat cell_bytes row)

  row-long : (row : List Cell) → Full nodes row → length (row_field row) ≡ 3 + 5 * nodes
  row-long row full = field-long 3 (5 * nodes) (flat cell_bytes row) (row-length row full)

  -- what is read of each cell, row by row
  pub cells_of : (read : ℕ → ℕ) (off : ℕ) (what : Cell → ℕ) → ((c : Cell) → Any c → (at : ℕ) → Has file at (cell_bytes c) → read (at + off) ≡ what c)
      → (rows : List (List Cell)) → Each (Full nodes) rows → (at : ℕ) → Has file at (flat row_field rows)
      → cells read nodes (at + 3 + off) (length rows) ≡ flat (map what) rows
  unfolding cells flat
  cells_of read off what reads [] e at h = refl
  cells_of read off what reads (row ∷ rows) e at h =
      let step = 3 + 5 * nodes in
      let next : at + 3 + off + step ≡ at + step + 3 + off = omega arith in
      let tail = cells_of read off what reads rows e.1 (at + step) (has_right (row_field row) (flat row_field rows) (at + step) (ap (λ (n : ℕ). at + n) (sym
      (row-long row e.0))) h) in
      let here = column-of file cell_bytes Any 5 cell-length read off what reads row (each-any row) (at + 3) (field-payload 3 (flat cell_bytes row) (has_left
      (row_field row) (flat row_field rows) h)) in
      ap₂ ◌++◌
      (ap (λ (n : ℕ). column read 5 (at + 3 + off) n) (sym e.0) ∙ here)
      (ap (λ (k : ℕ). cells read nodes k (length rows)) next ∙ tail)

module _ (file : List ℕ) (c : Cell) (any : Any c) (at : ℕ) (h : Has file at (cell_bytes c)) where
  pub number-back : word32 file (at + 0) ≡ c.number
  number-back = ap (word32 file) (add-zero at) ∙ has-word32 at c.number (has_left (bytes32 c.number) (c.state ∷ []) h)

  pub state-back : byte file (at + 4) ≡ c.state
  unfolding bytes32 bytes16
  state-back = has-byte c.state [] (has_right (bytes32 c.number) (c.state ∷ []) (at + 4) refl h)
