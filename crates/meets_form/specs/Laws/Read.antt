-- The layout of a sound file: what the definitions read of it is what the sentences say of it, number by number, and the build of the file is the build
-- of that layout.
use Rattle.std.specs.Prelude.{◌≡◌, Bool, List, [], ◌++◌, ℕ, ◌+◌, ◌*◌, ◌-◌, ◌≤◌, ◌<◌, min, pos, get_or, drop, replicate, Ok}
use Rattle.std.proofs.Math.Path.{refl, ap, ap₂}
use Rattle.std.proofs.Common.{sym, subst, ◌∙◌, arith, get_or-take, get_or-drop, eq-eqb, le-leb}
use Rattle.std.proofs.Math.Dec.{eqb, leb}
use Rattle.std.proofs.Math.ListN.{length}
use mir.Syntax.{w64}
use mir.Val.{to_z}
use Rattle.prelude.specs.Limits.{max_banks}
use Rattle.prelude.specs.Pick.{pick}
use Rattle.bankdef.specs.Check.{no_bank}
use Rattle.bankdef.specs.declared.Bankdef.{Bankdef}
use Rattle.bankdef.specs.declared.Bankdefs.{Bankdefs}
use Rattle.form_fields.specs.declared.Kind.{Kind}
use Rattle.form_fields.specs.declared.Shape.{Shape}
use Rattle.form_fields.specs.Banks as file-banks
use Rattle.form_fields.specs.Banks.{opt_of, is_set, bank_at, fill_bit_at}
use Rattle.form_fields.specs.Columns.{column}
use Rattle.form_fields.specs.Laws.Columns.{column-length}
use Rattle.form_fields.specs.Laws.Cells.{cells-length}
use Rattle.form_fields.specs.Lists.{cells, kinds_in, operands_in, numbers_in, states_in, values_by}
use Rattle.form_fields.specs.Shape.{bank_count_in, nodes_start_in, node_count_in, rows_start_in, row_count_in, limit_start_in, shape_in}
use Rattle.form_fields.specs.Whole.{Bytes, part, contents_in}
use Rattle.form_fields.specs.Words.{byte, word16, word32, word64}
use Rattle.form_build.specs.Filed.{choices_of}
use Rattle.nodes.specs.Lists.{lists}
use Rattle.output.specs.Output.{Input, input}
use Rattle.c_tables.specs.Tables.{given, bank_in, agree, count_of, table_of, choices_by}
use Rattle.c_tables.specs.Tables as tables
use Rattle.says.specs.Build.{Given}
use Rattle.meets_sentences.specs.Typed.{Typed}
use Rattle.says.specs.Files.{two, four, eight, Form, form-1, form-2, Held, Sound, Bank, of-1, of-2}
use Rattle.says.specs.Form.{Signed, fill_bit, closes, Column, Cells, Layout}
use Rattle.meets_form.specs.Laws.Numbers.{Stands, two_at, four-at, eight-at, signed_is, column-from, columns-same, cells_at, small-column, small-cells}
use Rattle.meets_form.specs.Laws.Written.{kind, held}

part-stands : (file : List ℕ) (len at : ℕ) → Stands file at len (part file len at)
part-stands file len at i less = get_or-take len (drop at file) i 0 less ∙ get_or-drop at file i 0

-- numbers of bytes are within their width
module _ (file : List ℕ) (small : Bytes file) where
  pub word16-small : (at : ℕ) → word16 file at < 65536
  unfolding word16
  word16-small at = omega (arith, small at, small (at + 1))

  pub word32-small : (at : ℕ) → word32 file at < 4294967296
  unfolding word32
  word32-small at = omega (arith, word16-small at, word16-small (at + 2))

  pub word64-small : (at : ℕ) → word64 file at < 18446744073709551616
  unfolding word64
  word64-small at = omega (arith, word32-small at, word32-small (at + 4))

-- the fill bit of a bank whose field stands at `at`
fill-at : (f : Form) (file p : List ℕ) (at : ℕ) → Stands file (at + 3) (kind f).bank p → fill_bit_at (kind f) file at ≡ fill_bit f p
fill-at form-1 file p at s = refl
fill-at form-2 file p at s = ap (byte file) {x = at + 26} {y = at + 3 + 23} (omega arith) ∙ sym (s 23 (omega arith))

module _ (f : Form) (file : List ℕ) (fill : ℕ) where
  abbrev k : Kind
  k = kind f

  abbrev base : ℕ
  base = k.heads * 4

  abbrev step : ℕ
  step = 3 + k.bank

  abbrev count : ℕ
  count = bank_count_in k file

  abbrev nodes : ℕ
  nodes = node_count_in k file

  -- what the file gives the build
  abbrev pub given_by : Given
  given_by =
      record {
        units = column (word16 file) step (base + 3) count;
        starts = column (λ (at : ℕ). to_z w64 (word64 file at)) step (base + 5) count;
        bank_sizes = column (word32 file) step (base + 13) count;
        bank_offsets = column (word32 file) step (base + 17) count;
        aligns = column (word32 file) step (base + 21) count;
        flags = column (byte file) step (base + 25) count;
        fill_bits = column (fill_bit_at k file) step (base + 0) count;
        kinds = kinds_in k file;
        operands = operands_in k file;
        numbers = numbers_in k file;
        states = states_in k file;
        rows = row_count_in k file;
        values = (contents_in k file).values;
        limit = (contents_in k file).limit;
        fill = fill;
        closed = closes f;
      }

  abbrev h : Held
  h = held (contents_in k file)

  -- ---- the payloads, where they stand

  bank-stands : (b : ℕ) → b < count → Stands file (base + b * step + 3) k.bank (get_or h.banks b [])
  bank-stands b less =
      subst (Stands file (base + b * step + 3) k.bank) (sym (column-from (part file k.bank) step base 3 count [] b less))
      (part-stands file k.bank (base + b * step + 3))

  node-stands : (i : ℕ) → i < nodes → Stands file (nodes_start_in k file + i * 8 + 3) 5 (get_or h.nodes i [])
  node-stands i less =
      subst (Stands file (nodes_start_in k file + i * 8 + 3) 5) (sym (column-from (part file 5) 8 (nodes_start_in k file) 3 nodes [] i less))
      (part-stands file 5 (nodes_start_in k file + i * 8 + 3))

  row-stands : (r : ℕ) → r < row_count_in k file → Stands file (rows_start_in k file + r * (3 + 5 * nodes) + 3) (5 * nodes) (get_or h.rows r [])
  row-stands r less =
      subst (Stands file (rows_start_in k file + r * (3 + 5 * nodes) + 3) (5 * nodes))
      (sym (column-from (part file (5 * nodes)) (3 + 5 * nodes) (rows_start_in k file) 3 (row_count_in k file) [] r less))
      (part-stands file (5 * nodes) (rows_start_in k file + r * (3 + 5 * nodes) + 3))

  long-bank : 23 ≤ k.bank
  long-bank = go f
    where
      go : (f : Form) → 23 ≤ (kind f).bank
      go form-1 = omega arith
      go form-2 = omega arith

  banks-many : length h.banks ≡ count
  banks-many = column-length (part file k.bank) step (base + 3) count

  nodes-many : length h.nodes ≡ nodes
  nodes-many = column-length (part file 5) 8 (nodes_start_in k file + 3) nodes

  rows-many : length h.rows ≡ row_count_in k file
  rows-many = column-length (part file (5 * nodes)) (3 + 5 * nodes) (rows_start_in k file + 3) (row_count_in k file)

  -- a number of each bank
  bank-column : (read : ℕ → ℕ) (off o : ℕ) (what : List ℕ → ℕ) → off ≡ 3 + o
      → ((p : List ℕ) (at : ℕ) → Stands file at k.bank p → what p ≡ read (at + o)) → Column (column read step (base + off) count) h.banks what
  bank-column read off o what e same = (
    column-length read step (base + off) count ∙ sym banks-many,
    λ b less.
        let there : b < count = omega (arith, banks-many) in
        column-from read step base off count 0 b there
        ∙ ap read {x = base + b * step + off} {y = base + b * step + 3 + o} (omega (arith, e))
        ∙ sym (same (get_or h.banks b []) (base + b * step + 3) (bank-stands b there)),
  )

  fill-bits : Column (column (fill_bit_at k file) step (base + 0) count) h.banks (fill_bit f)
  fill-bits = (
    column-length (fill_bit_at k file) step (base + 0) count ∙ sym banks-many,
    λ b less.
        let there : b < count = omega (arith, banks-many) in
        column-from (fill_bit_at k file) step base 0 count 0 b there
        ∙ ap (fill_bit_at k file) {x = base + b * step + 0} {y = base + b * step} (omega arith)
        ∙ fill-at f file (get_or h.banks b []) (base + b * step) (bank-stands b there),
  )

  starts-are : Bytes file → (length given_by.starts ≡ length h.banks)
      × ((b : ℕ) → b < length h.banks → Signed (eight (get_or h.banks b []) 2) (get_or given_by.starts b (pos 0)))
  starts-are small = (
    column-length (λ (at : ℕ). to_z w64 (word64 file at)) step (base + 5) count ∙ sym banks-many,
    λ b less.
        let there : b < count = omega (arith, banks-many) in
        let at = base + b * step + 5 in
        let bits : eight (get_or h.banks b []) 2 ≡ word64 file at =
        eight-at file (base + b * step + 3) k.bank (get_or h.banks b []) (bank-stands b there) 2 (omega (arith, long-bank))
        ∙ ap (word64 file) {x = base + b * step + 3 + 2} {y = at} (omega arith) in
        let number : get_or given_by.starts b (pos 0) ≡ to_z w64 (word64 file at) =
        column-from (λ (p : ℕ). to_z w64 (word64 file p)) step base 5 count (pos 0) b there in
        subst (λ (n : ℕ). Signed n (get_or given_by.starts b (pos 0))) (sym bits)
        (subst (Signed (word64 file at)) (sym number) (signed_is (word64 file at) (word64-small file small at))),
  )

  -- a number of each node
  node-column : (read : ℕ → ℕ) (off o : ℕ) (what : List ℕ → ℕ) → off ≡ 3 + o
      → ((p : List ℕ) (at : ℕ) → Stands file at 5 p → what p ≡ read (at + o)) → Column (column read 8 (nodes_start_in k file + off) nodes) h.nodes what
  node-column read off o what e same = (
    column-length read 8 (nodes_start_in k file + off) nodes ∙ sym nodes-many,
    λ i less.
        let there : i < nodes = omega (arith, nodes-many) in
        column-from read 8 (nodes_start_in k file) off nodes 0 i there
        ∙ ap read {x = nodes_start_in k file + i * 8 + off} {y = nodes_start_in k file + i * 8 + 3 + o} (omega (arith, e))
        ∙ sym (same (get_or h.nodes i []) (nodes_start_in k file + i * 8 + 3) (node-stands i there)),
  )

  -- and of each node in each row
  row-cells : (read : ℕ → ℕ) (off o : ℕ) (what : List ℕ → ℕ → ℕ) → off ≡ 3 + o
      → ((p : List ℕ) (at i : ℕ) → i < nodes → Stands file at (5 * nodes) p → what p (5 * i) ≡ read (at + (5 * i + o)))
      → Cells (cells read nodes (rows_start_in k file + off) (row_count_in k file)) h what
  row-cells read off o what e same = (
    cells-length read nodes (rows_start_in k file + off) (row_count_in k file) ∙ ap₂ (λ (r n : ℕ). r * n) (sym rows-many) (sym nodes-many),
    λ r i less few.
        let row : r < row_count_in k file = omega (arith, rows-many) in
        let there : i < nodes = omega (arith, nodes-many) in
        let at = rows_start_in k file + r * (3 + 5 * nodes) + 3 in
        ap (λ (n : ℕ). get_or (cells read nodes (rows_start_in k file + off) (row_count_in k file)) (r * n + i) 0) nodes-many
        ∙ cells_at read nodes (row_count_in k file) (rows_start_in k file + off) r i row there
        ∙ ap read {x = rows_start_in k file + off + r * (3 + 5 * nodes) + i * 5} {y = at + (5 * i + o)} (omega (arith, e))
        ∙ sym (same (get_or h.rows r []) at i there (row-stands r row)),
  )

  -- What is given is the layout that the sentences say.
  pub layout_is : Bytes file → Layout f h fill given_by
  layout_is small =
      record {
        units = bank-column (word16 file) 3 0 (λ p. two p 0) refl (λ p at s. two_at file at k.bank p s 0 (omega (arith, long-bank)));
        starts = starts-are small;
        sizes = bank-column (word32 file) 13 10 (λ p. four p 10) refl (λ p at s. four-at file at k.bank p s 10 (omega (arith, long-bank)));
        offsets = bank-column (word32 file) 17 14 (λ p. four p 14) refl (λ p at s. four-at file at k.bank p s 14 (omega (arith, long-bank)));
        aligns = bank-column (word32 file) 21 18 (λ p. four p 18) refl (λ p at s. four-at file at k.bank p s 18 (omega (arith, long-bank)));
        flags = bank-column (byte file) 25 22 (λ p. get_or p 22 0) refl (λ p at s. s 22 (omega (arith, long-bank)));
        fill_bits = fill-bits;
        kinds = node-column (byte file) 3 0 (λ p. get_or p 0 0) refl (λ p at s. s 0 (omega arith));
        operands = node-column (word32 file) 4 1 (λ p. four p 1) refl (λ p at s. four-at file at 5 p s 1 (omega arith));
        numbers = row-cells (word32 file) 3 0 four refl (λ p at i less s.
            four-at file at (5 * nodes) p s (5 * i) (omega arith) ∙ ap (word32 file) {x = at + 5 * i} {y = at + (5 * i + 0)} (omega arith));
        states = row-cells (byte file) 7 4 (λ p at. get_or p (at + 4) 0) refl (λ p at i less s. s (5 * i + 4) (omega arith));
        rows = sym rows-many;
        values = refl;
        limit = refl;
        choice = refl;
        closed = refl;
      }

  -- ---- the table of the file is the table of what is given

  agree-when : (a b c : ℕ) → a ≡ b → agree a b c ≡ c
  agree-when a b c e = rw (eq-eqb a b e)

  abbrev lent : tables.Given
  lent =
      given given_by.units given_by.starts given_by.bank_sizes given_by.bank_offsets given_by.aligns given_by.flags given_by.fill_bits

  as_long : {A : Type 0} (read : ℕ → A) (off : ℕ) → length (column read step (base + off) count) ≡ length given_by.units
  as_long read off = column-length read step (base + off) count ∙ sym (column-length (word16 file) step (base + 3) count)

  pub count-is : count_of lent ≡ count
  unfolding count_of
  count-is =
      let n = length given_by.units in
      agree-when (length given_by.fill_bits) n _ (as_long (fill_bit_at k file) 0) ∙ agree-when (length given_by.flags) n _ (as_long (byte file) 25)
      ∙ agree-when (length given_by.aligns) n _ (as_long (word32 file) 21) ∙ agree-when (length given_by.bank_offsets) n _ (as_long (word32 file) 17)
      ∙ agree-when (length given_by.bank_sizes) n _ (as_long (word32 file) 13)
      ∙ agree-when (length given_by.starts) n _ (as_long (λ (at : ℕ). to_z w64 (word64 file at)) 5)
      ∙ column-length (word16 file) step (base + 3) count

  bank-is : (b : ℕ) → b < count → byte file (base + b * step + 25) ≤ 15 → bank_in lent b ≡ bank_at k file (base + b * step)
  unfolding bank_in bank_at
  bank-is b less few =
      let at = base + b * step in
      let unit = column-from (word16 file) step base 3 count 0 b less in
      let start = column-from (λ (p : ℕ). to_z w64 (word64 file p)) step base 5 count (pos 0) b less in
      let size = column-from (word32 file) step base 13 count 0 b less in
      let offset = column-from (word32 file) step base 17 count 0 b less in
      let align = column-from (word32 file) step base 21 count 0 b less in
      let flags = column-from (byte file) step base 25 count 0 b less in
      let bit = column-from (fill_bit_at k file) step base 0 count 0 b less
      ∙ ap (fill_bit_at k file) {x = at + 0} {y = at} (omega arith) in
      let units = ap₂ (λ (u x : ℕ). tables.unit_of u x) unit flags
      ∙ (ap (λ (t : Bool). pick t (word16 file (at + 3)) 0) (le-leb (byte file (at + 25)) 15 few)) in
      λ i.
      record {
        unit = units i;
        start = start i;
        size = opt_of (flags i) 1 (size i);
        offset = opt_of (flags i) 2 (offset i);
        align = opt_of (flags i) 4 (align i);
        fill = is_set (flags i) 8;
        fill_bit = bit i;
      }

  abbrev pub table_in : Kind → Bankdefs
  table_in q =
      record {
        defs = file-banks.banks_in q file (min (bank_count_in q file) max_banks) ++ replicate (max_banks - min (bank_count_in q file) max_banks) no_bank;
        len = bank_count_in q file;
      }

  table_is : ((b : ℕ) → b < count → byte file (base + b * step + 25) ≤ 15) → table_in k ≡ table_of lent
  table_is few =
      let same : (n : ℕ) → n ≤ count → column (bank_in lent) 1 0 n ≡ column (bank_at k file) step base n =
      λ n most. columns-same (bank_in lent) (bank_at k file) 1 step 0 base n (λ i less.
      ap (bank_in lent) {x = 0 + i * 1} {y = i} (omega arith) ∙ bank-is i (omega arith) (few i (omega arith))) in
      ap (λ (l : List Bankdef). record { defs = l ++ replicate (max_banks - min count max_banks) no_bank; len = count })
      (sym (same (min count max_banks) (omega arith)))
      ∙ ap (λ (n : ℕ). record { defs = column (bank_in lent) 1 0 (min n max_banks) ++ replicate (max_banks - min n max_banks) no_bank; len = n }) (sym count-is)

  -- ---- the build of the file is the build of what is given

  -- what a sound file of the kind gives the build
  abbrev pub input_in : Kind → Shape → Input
  input_in q s =
      input (table_in q)
      (lists (kinds_in q file) (operands_in q file) (numbers_in q file) (states_in q file) (row_count_in q file) (values_by file (Ok s))) (choices_of s fill)

  -- and what `dk_build` takes
  abbrev pub input_of : Input
  input_of =
      input (table_of lent)
      (lists given_by.kinds given_by.operands given_by.numbers given_by.states given_by.rows given_by.values)
      (choices_by given_by.limit fill (closes f))

  flags-few : (s : Sound f file h) (b : ℕ) → b < count → byte file (base + b * step + 25) ≤ 15
  flags-few s b less =
      let few = go f (get_or h.banks b []) (s.fits.banks b (omega (arith, banks-many))) in
      let same = bank-stands b less 22 (omega (arith, long-bank)) ∙ ap (byte file) {x = base + b * step + 3 + 22} {y = base + b * step + 25} (omega arith) in
      omega (arith, few, same)
    where
      go : (f : Form) (p : List ℕ) → Bank p f → get_or p 22 0 ≤ 15
      go form-1 p (of-1 e l) = l
      go form-2 p (of-2 e l m) = l

  pub input-is : Sound f file h → input_in k (shape_in k file) ≡ input_of
  unfolding shape_in
  input-is sound =
      ap (λ (t : Bankdefs). input t
      (lists given_by.kinds given_by.operands given_by.numbers given_by.states given_by.rows given_by.values)
      (choices_of (shape_in k file) fill)) (table_is (flags-few sound))
      ∙ ap (λ (t : Bool). input (table_of lent)
      (lists given_by.kinds given_by.operands given_by.numbers given_by.states given_by.rows given_by.values)
      (record { limit = given_by.limit; fill = fill; closed = t })) (closed_is f)
    where
      closed_is : (f : Form) → eqb (kind f).form 2 ≡ leb 1 (closes f)
      closed_is form-1 = refl
      closed_is form-2 = refl

  -- Its numbers are within the types of `dk_build`.
  pub typed : Bytes file → Typed given_by
  typed small =
      let word : (at : ℕ) → word32 file at ≤ 4294967295 = λ at. omega (arith, word32-small file small at) in
      record {
        units = small-column (word16 file) 65535 (λ at. omega (arith, word16-small file small at)) step (base + 3) count;
        sizes = small-column (word32 file) 4294967295 word step (base + 13) count;
        offsets = small-column (word32 file) 4294967295 word step (base + 17) count;
        aligns = small-column (word32 file) 4294967295 word step (base + 21) count;
        numbers = λ j. small-cells (word32 file) 4294967295 word nodes (row_count_in k file) (rows_start_in k file + 3) j;
        limit = omega (arith, small (limit_start_in k file + 3));
      }
