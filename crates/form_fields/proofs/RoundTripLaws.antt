-- Laws that Theorems/RoundTrip rests on.
use Rattle.std.specs.Prelude.{true, false, List, [], ◌∷◌, ◌++◌, map, ◌≡◌, ℕ, suc, ◌+◌, ◌*◌, ◌≤◌, take, drop, Ok}
use Rattle.std.proofs.Common.{map-id, sym, subst, ◌∙◌, add-zero}
use Rattle.std.proofs.Math.Path.{refl, ap, ap₂}
use native.Mathlib.Omega.{arith}
use Rattle.std.proofs.Math.ListN.{length, length-append}
use Rattle.std.proofs.Math.Seq.{take-append_seam}
use Rattle.bankdef.specs.declared.Bankdef.{Bankdef}
use Rattle.form_fields.specs.declared.Kind.{Kind}
use Rattle.form_fields.specs.Words.{byte, word16, word32}
use Rattle.form_fields.specs.Fields.{field_at}
use Rattle.form_fields.specs.Laws.Fields.{field-tag, by-test}
use Rattle.form_fields.specs.Columns.{column}
use Rattle.form_fields.specs.Kind.{Known, form1, form2, begins2}
use Rattle.form_fields.specs.Laws.Kind.{known-apart}
use Rattle.form_fields.specs.Shape.{nodes_start_in, node_count_in, rows_start_in, row_count_in, values_start_in, values_size_in, limit_start_in, shape_in, form_in}
use Rattle.form_fields.specs.Banks.{bank_at, banks_in}
use Rattle.form_fields.specs.Lists.{cells, values_by}
use Rattle.form_fields.specs.Contents.{field, flat, Contents, head_bytes, written, Each, Long, BankFits, Fits}
use Rattle.form_fields.specs.Writer.{Node, Cell, Layout, bank_bytes, node_bytes, cell_bytes, contents, Writes, Full, Writable, shape_for, Says}
use Rattle.form_fields.specs.Has.{Has}
use Rattle.form_fields.proofs.Has.{has_left, has_right, has-byte, field-size, field-payload, field-there}
use Rattle.form_fields.specs.Laws.Has.{field-length}
use Rattle.form_fields.proofs.Parts.{Any, each-any, field-long, bank-fits, bank-back, node-length, row-length, kind-back}
use Rattle.form_fields.proofs.Parts.{operand-back, cells_of, number-back}
use Rattle.form_fields.proofs.Parts.{state-back}
use Rattle.form_fields.specs.Laws.Rest.{form-sound}
use Rattle.form_fields.specs.Sections.{Begins, Stops}
use Rattle.form_fields.proofs.Sections.{bank-long, head-length, begins-head, nodes_at, rows_at, values_at, has-head, from-banks, from-nodes}
use Rattle.form_fields.proofs.Sections.{from-rows, from-values, banks-are, nodes-start, nodes-are, rows_start, rows_are, values-start}
use Rattle.form_fields.proofs.Written.{no_field, flat-length, column-of}

-- a values field is none of the fields that may go before it
stops-values : {k : Kind} → Known k → (file : List ℕ) (c : Contents) → Has file (values_at k c) (field 4 c.values)
    → Stops k file c.nodes c.rows (values_at k c)
unfolding field
stops-values {k} known file c h =
    record {
      no-bank = λ e f. no_field file k.tag k.bank (values_at k c) 4 _ h (known-apart known 4 (omega arith) (omega arith));
      no-node = λ e. no_field file 2 5 (values_at k c) 4 _ h (λ f. omega (arith, f));
      no_row = no_field file 3 (5 * length c.nodes) (values_at k c) 4 _ h (λ f. omega (arith, f));
    }

-- ---- a file that begins with the banks, nodes, rows and values of some contents

module _ {k : Kind} (known : Known k) (file : List ℕ) (c : Contents) (rest : List ℕ) (begins : Begins k file c (field 4 c.values ++ rest)) where
  abbrev pub limit_at : ℕ
  limit_at = values_at k c + 3 + length c.values

  pub values-field : Has file (values_at k c) (field 4 c.values)
  values-field = has_left (field 4 c.values) rest (from-values known file c (field 4 c.values ++ rest) begins)

  pub from-limit : Has file limit_at rest
  from-limit = has_right (field 4 c.values) rest limit_at (omega (arith, field-length 4 c.values)) (from-values known file c (field 4
      c.values ++ rest) begins)

  pub stops : Stops k file c.nodes c.rows (values_at k c)
  stops = stops-values known file c values-field

  pub values-begin : values_start_in k file ≡ values_at k c
  values-begin = values-start known file c (field 4 c.values ++ rest) begins stops

  pub values-long : values_size_in k file ≡ length c.values
  unfolding values_size_in
  values-long = ap (λ (a : ℕ). word16 file (a + 1)) values-begin ∙ field-size 4 c.values values-field

  pub values-there : field_at file 4 (values_size_in k file) (values_start_in k file) ≡ true
  values-there = ap₂ (field_at file 4) values-long values-begin ∙ field-there 4 c.values values-field

  pub limit-begin : limit_start_in k file ≡ limit_at
  unfolding limit_start_in
  limit-begin = ap₂ (λ (a n : ℕ). a + 3 + n) values-begin values-long

-- ---- the file of some contents

module _ {k : Kind} (known : Known k) (c : Contents) (fits : Fits k c) where
  abbrev pub file : List ℕ
  file = written k c

  abbrev rest : List ℕ
  rest = field 4 c.values ++ field 5 (c.limit ∷ [])

  pub begins : Begins k file c rest
  unfolding written
  begins = record { fits = fits; is = refl }

  limit-field : Has file (limit_at known file c (field 5 (c.limit ∷ [])) begins) (field 5 (c.limit ∷ []))
  limit-field = from-limit known file c (field 5 (c.limit ∷ [])) begins

  limit-at : limit_start_in k file ≡ values_at k c + 3 + length c.values
  limit-at = limit-begin known file c (field 5 (c.limit ∷ [])) begins

  -- how long it is
  pub written-length : length file ≡ values_at k c + 7 + length c.values
  unfolding written
  written-length =
      let banks = flat (field k.tag) c.banks in
      let nodes = flat (field 2) c.nodes in
      let rows = flat (field 3) c.rows in
      let n = length c.nodes in
      omega (
        arith,
        length-append (head_bytes k) (banks ++ (nodes ++ (rows ++ rest))),
        head-length known,
        length-append banks (nodes ++ (rows ++ rest)),
        length-append nodes (rows ++ rest),
        length-append rows rest,
        length-append (field 4 c.values) (field 5 (c.limit ∷ [])),
        field-length 4 c.values,
        field-length 5 (c.limit ∷ []),
        flat-length file (field k.tag) (BankFits k) (3 + k.bank) (bank-long k) c.banks fits.of-banks,
        flat-length file (field 2) (Long 5) 8 (field-long 2 5) c.nodes fits.of-nodes,
        flat-length file (field 3) (Long (5 * n)) (3 + 5 * n) (field-long 3 (5 * n)) c.rows fits.of-rows,
      )

  pub limit_is : byte file (limit_start_in k file + 3) ≡ c.limit
  limit_is = ap (λ (a : ℕ). byte file (a + 3)) limit-at ∙ has-byte c.limit [] (field-payload 5 (c.limit ∷ []) limit-field)

  pub halts : Stops k file c.nodes c.rows (values_at k c)
  halts = stops known file c (field 5 (c.limit ∷ [])) begins

  shape : shape_in k file ≡ shape_for k c
  unfolding shape_in
  shape = λ i.
      record {
        form = k.form;
        banks = banks-are known file c rest begins halts i;
        nodes = nodes-are known file c rest begins halts i;
        rows = rows_are known file c rest begins halts i;
        values = values-begin known file c (field 5 (c.limit ∷ [])) begins i + 3;
        size = values-long known file c (field 5 (c.limit ∷ [])) begins i;
        limit = limit_is i;
      }

  -- It is sound, with these counts.
  pub written-sound : length file ≤ k.longest → form_in k file ≡ Ok (shape_for k c)
  written-sound short =
      form-sound k file short
      (has-head known file c rest begins)
      (values-there known file c (field 5 (c.limit ∷ [])) begins)
      (ap (field_at file 5 1) limit-at ∙ field-there 5 (c.limit ∷ []) limit-field)
      (omega (arith, limit-at, written-length))
      ∙ ap Ok shape

-- ---- which form a file has by its first bytes

pub begins-not : (file : List ℕ) → (byte file 0 ≡ 16 → ⊥) → begins2 file ≡ false
unfolding begins2
begins-not file other = by-test (field_at file 16 1 0) (λ e. absurd (other (field-tag file 16 1 0 e))) (λ e. rw e refl)

pub first-tag : (c : Contents) → byte (written form1 c) 0 ≡ 16 → ⊥
unfolding written flat field
first-tag c = go c.banks c.nodes c.rows
  where
    go : (banks nodes rows : List (List ℕ))
        → byte (flat (field 1) banks ++ (flat (field 2) nodes ++ (flat (field 3) rows ++ (field 4 c.values ++ field 5 (c.limit ∷ []))))) 0 ≡ 16 → ⊥
    go (b ∷ banks) nodes rows e = omega (arith, e)
    go [] (n ∷ nodes) rows e = omega (arith, e)
    go [] [] (r ∷ rows) e = omega (arith, e)
    go [] [] [] e = omega (arith, e)

pub begins-written : (c : Contents) → begins2 (written form2 c) ≡ true
unfolding written
begins-written c = begins-head (written form2 c) _ refl

-- ---- the file of a layout

pub each_map : {X Y : Type 0} (P : X → Type 0) (Q : Y → Type 0) (f : X → Y) → ((x : X) → P x → Q (f x)) → (xs : List X) → Each P xs → Each Q (map f xs)
each_map P Q f g [] e = tt
each_map P Q f g (x ∷ xs) e = (g x e.0, each_map P Q f g xs e.1)

map-length : {X Y : Type 0} (f : X → Y) (xs : List X) → length (map f xs) ≡ length xs
map-length f [] = refl
map-length f (x ∷ xs) = ap suc (map-length f xs)

-- what is written of each thing is what is written of its payload
pub flat_map : {X Y A : Type 0} (write : Y → List A) (f : X → Y) (xs : List X) → flat write (map f xs) ≡ flat (λ (x : X). write (f x)) xs
unfolding flat
flat_map write f [] = refl
flat_map write f (x ∷ xs) = ap (λ (l : List _). write (f x) ++ l) (flat_map write f xs)

module _ {k : Kind} (known : Known k) (l : Layout) (ok : Writable k l) where
  abbrev pub c : Contents
  c = contents k l

  nodes-many : length c.nodes ≡ length l.nodes
  nodes-many = map-length node_bytes l.nodes

  pub layout-fits : Fits k c
  layout-fits =
      record {
        of-banks = each_map (Writes k) (BankFits k) (bank_bytes k) (λ b w. bank-fits b known w) l.banks ok.banks;
        of-nodes = each_map Any (Long 5) node_bytes (λ n e. node-length n) l.nodes (each-any l.nodes);
        of-rows = each_map (Full (length l.nodes)) (Long (5 * length c.nodes)) (flat cell_bytes) (λ row full. row-length [] (length c.nodes) row
            (full ∙ sym nodes-many)) l.rows ok.full;
      }

  abbrev pub whole : List ℕ
  whole = written k c

  has-begun : Begins k whole c (field 4 c.values ++ field 5 (c.limit ∷ []))
  has-begun = begins known c layout-fits

  ends : Stops k whole c.nodes c.rows (values_at k c)
  ends = halts known c layout-fits

  abbrev after : List ℕ
  after = field 4 c.values ++ field 5 (c.limit ∷ [])

  -- ---- what is read

  bank-long-here : (b : Bankdef) → Writes k b → length (field k.tag (bank_bytes k b)) ≡ 3 + k.bank
  bank-long-here b w = bank-long k (bank_bytes k b) (bank-fits b known w)

  banks-back : banks_in k whole (length l.banks) ≡ l.banks
  banks-back =
      let h = has_left (flat (field k.tag) c.banks) _ (from-banks known whole c after has-begun) in
      ap (λ (at : ℕ). column (bank_at k whole) (3 + k.bank) at (length l.banks)) (sym (add-zero (k.heads * 4)))
      ∙ column-of whole (λ (b : Bankdef). field k.tag (bank_bytes k b)) (Writes k) (3 + k.bank) bank-long-here (bank_at k whole) 0 (λ (b : Bankdef). b)
      (λ b fits at g. ap (bank_at k whole) (add-zero at) ∙ bank-back whole k b at g known fits)
      l.banks ok.banks (k.heads * 4)
      (subst (Has whole (k.heads * 4)) (flat_map (field k.tag) (bank_bytes k) l.banks) h)
      ∙ map-id l.banks

  nodes-back : (read : ℕ → ℕ) (off : ℕ) (what : Node → ℕ) → ((n : Node) → Any n → (at : ℕ) → Has whole at (field 2 (node_bytes n)) → read (at + off) ≡ what n)
      → column read 8 (nodes_start_in k whole + off) (node_count_in k whole) ≡ map what l.nodes
  nodes-back read off what reads =
      let h = has_left (flat (field 2) c.nodes) _ (from-nodes known whole c after has-begun) in
      ap₂ (λ (a n : ℕ). column read 8 (a + off) n) (nodes-start known whole c after has-begun ends) (nodes-are known whole c after has-begun ends ∙
      nodes-many)
      ∙ column-of whole (λ (n : Node). field 2 (node_bytes n)) Any 8 (λ n e. field-long 2 5 (node_bytes n) (node-length n)) read off what reads l.nodes
      (each-any l.nodes) (nodes_at k c) (subst (Has whole (nodes_at k c)) (flat_map (field 2) node_bytes l.nodes) h)

  rows_back : (read : ℕ → ℕ) (at off : ℕ) (what : Cell → ℕ) → at ≡ 3 + off → ((c : Cell) → Any c → (at : ℕ) → Has whole at (cell_bytes c) → read (at + off)
      ≡ what c)
      → cells read (node_count_in k whole) (rows_start_in k whole + at) (row_count_in k whole) ≡ flat (map what) l.rows
  rows_back read at off what e reads =
      let place : rows_start_in k whole + at ≡ rows_at k c + 3 + off = omega (arith, e, rows_start known whole c after has-begun ends) in
      let h = has_left (flat (field 3) c.rows) _ (from-rows known whole c after has-begun) in
      ap (λ (a : ℕ). cells read (node_count_in k whole) a (row_count_in k whole)) place
      ∙ ap₂ (λ (n r : ℕ). cells read n (rows_at k c + 3 + off) r) (nodes-are known whole c after has-begun ends ∙ nodes-many)
      (rows_are known whole c after has-begun ends ∙ map-length (flat cell_bytes) l.rows)
      ∙ cells_of whole (length l.nodes) read off what reads l.rows ok.full (rows_at k c)
      (subst (Has whole (rows_at k c)) (flat_map (field 3) (flat cell_bytes) l.rows) h)

  values-back : take (length l.values) (drop (values_at k c + 3) whole) ≡ l.values
  values-back =
      let h = field-payload 4 l.values (values-field known whole c (field 5 (c.limit ∷ [])) has-begun) in
      ap (take (length l.values)) h.is ∙ take-append_seam l.values h.rest

  pub says : length whole ≤ k.longest → Says k whole l
  says short =
      let form = written-sound known c layout-fits short in
      record {
        form = form;
        of-banks = banks-back;
        of-kinds = nodes-back (byte whole) 3 (λ (n : Node). n.kind) (λ n e at h. kind-back whole n at h);
        of-operands = nodes-back (word32 whole) 4 (λ (n : Node). n.operand) (λ n e at h. operand-back whole n at h);
        of-numbers = rows_back (word32 whole) 3 0 (λ (c : Cell). c.number) refl (number-back whole);
        of-states = rows_back (byte whole) 7 4 (λ (c : Cell). c.state) refl (state-back whole);
        of_values = ap (values_by whole) form ∙ values-back;
      }
