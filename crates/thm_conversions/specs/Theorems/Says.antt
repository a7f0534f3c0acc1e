-- Theorems about what Says defines.
use Rattle.std.specs.Prelude.{List, [], ◌∷◌, ◌++◌, map, ◌≡◌, refl, ℕ, ◌+◌, ◌*◌, ◌-◌, ◌≤◌, min, length, take, drop, replicate, Ok, Option}
use Rattle.std.proofs.Common.{sym, ap, ap₂, ◌∙◌, add-zero, arith}
use Rattle.std.proofs.Math.Seq.{take-append_seam}
use Rattle.prelude.specs.Limits.{max_banks}
use Rattle.bankdef.specs.Check.{no_bank}
use Rattle.bankdef.specs.declared.Bankdef.{Bankdef}
use Rattle.bankdef.specs.declared.Bankdefs.{Bankdefs}
use Rattle.nodes.specs.Lists.{Lists, lists}
use Rattle.output.specs.Output.{Input, input, Lent, Room, left_by, visits_of}
use Rattle.output.specs.declared.Output.{Output}
use Rattle.form_fields.specs.declared.Kind.{Kind}
use Rattle.form_fields.specs.Words.{byte, word32}
use Rattle.form_fields.specs.Kind.{Known, kind_of}
use Rattle.form_fields.specs.Columns.{column}
use Rattle.form_fields.specs.Shape.{bank_count_in, nodes_start_in, node_count_in, rows_start_in, row_count_in, form_in, form_of}
use Rattle.form_fields.specs.Banks.{bank_at, banks_in, table_of, bank_of}
use Rattle.form_fields.specs.Lists.{cells, kinds_in, operands_in, numbers_in, states_in, values_by}
use Rattle.form_fields.specs.Contents.{field, flat, Contents, written, Long, BankFits, Fits}
use Rattle.form_fields.specs.Has.{Has}
use Rattle.form_fields.proofs.Has.{has_left, field-payload}
use Rattle.form_fields.proofs.Parts.{field-long}
use Rattle.form_fields.specs.Sections.{Begins, Stops}
use Rattle.form_fields.proofs.Sections.{bank-long, nodes_at, rows_at, values_at, from-banks, from-nodes, from-rows, banks-are, nodes-start, nodes-are}
use Rattle.form_fields.proofs.Sections.{rows_start, rows_are}
use Rattle.form_fields.proofs.RoundTripLaws.{begins, halts, values-field, written-sound}
use Rattle.form_fields.proofs.RoundTrip.{written-kind}
use Rattle.form_fields.specs.Writer.{shape_for}
use Rattle.form_fields.proofs.Written.{column-of}
use Rattle.form_build.specs.Filed.{lists_in, choices_of, output_by, file_output, FileBuilt}
use Rattle.form_build.specs.Paged.{output_in, BuiltIn}
use Rattle.thm_conversions.specs.Laws.Says.{ReadsIn, bank-read, byte-in, byte_reads, cells_in, column-front, word32-in, word32-reads}
use Rattle.thm_conversions.specs.Says.{input_for, kind_on, lists_for, numbers_on, operand_on, states_on, table_for}

-- ---- the file of some contents

module _ {k : Kind} (known : Known k) (c : Contents) (fits : Fits k c) where
  abbrev file : List ℕ
  file = written k c

  abbrev last : List ℕ
  last = field 5 (c.limit ∷ [])

  abbrev rest : List ℕ
  rest = field 4 c.values ++ last

  b : Begins k file c rest
  b = begins known c fits

  stop : Stops k file c.nodes c.rows (values_at k c)
  stop = halts known c fits

  kind : kind_of file ≡ k
  kind = written-kind known c

  count : bank_count_in k file ≡ length c.banks
  count = banks-are known file c rest b stop

  many : node_count_in k file ≡ length c.nodes
  many = nodes-are known file c rest b stop

  all-banks : banks_in k file (length c.banks) ≡ map (bank_of k) c.banks
  all-banks =
      ap (λ (at : ℕ). column (bank_at k file) (3 + k.bank) at (length c.banks)) (sym (add-zero (k.heads * 4)))
      ∙ column-of file (field k.tag) (BankFits k) (3 + k.bank) (bank-long k) (bank_at k file) 0 (bank_of k)
      (λ p g at h. bank-read known file p g at h) c.banks fits.of-banks (k.heads * 4)
      (has_left (flat (field k.tag) c.banks) _ (from-banks known file c rest b))

  some-banks : banks_in k file (min (length c.banks) max_banks) ≡ take (min (length c.banks) max_banks) (map (bank_of k) c.banks)
  some-banks =
      column-front (bank_at k file) (3 + k.bank) (k.heads * 4) (min (length c.banks) max_banks) (length c.banks) (omega arith)
      ∙ ap (take (min (length c.banks) max_banks)) all-banks

  abbrev table_over : ℕ → List Bankdef → Bankdefs
  table_over n banks = record { defs = banks ++ replicate (max_banks - min n max_banks) no_bank; len = n }

  pub table-said : table_of file ≡ table_for (length c.banks) (map (bank_of k) c.banks)
  table-said =
      ap (λ (m : Kind). table_over (bank_count_in m file) (banks_in m file (min (bank_count_in m file) max_banks))) kind
      ∙ ap (λ (n : ℕ). table_over n (banks_in k file (min n max_banks))) count
      ∙ ap (table_over (length c.banks)) some-banks

  on-nodes : (read : ℕ → ℕ) (off : ℕ) (what : List ℕ → ℕ) → ((n : List ℕ) → Long 5 n → (at : ℕ) → Has file at (field 2 n) → read (at + off) ≡ what n)
      → column read 8 (nodes_start_in k file + off) (node_count_in k file) ≡ map what c.nodes
  on-nodes read off what reads =
      ap₂ (λ (a n : ℕ). column read 8 (a + off) n) (nodes-start known file c rest b stop) many
      ∙ column-of file (field 2) (Long 5) 8 (field-long 2 5) read off what reads c.nodes fits.of-nodes (nodes_at k c)
      (has_left (flat (field 2) c.nodes) _ (from-nodes known file c rest b))

  kinds-said : kinds_in k file ≡ map kind_on c.nodes
  kinds-said =
      on-nodes (byte file) 3 kind_on
      (λ n e at h. byte-in file n (at + 3) (field-payload 2 n h) 0 (at + 3) (omega arith) (omega (arith, e)))

  operands-said : operands_in k file ≡ map operand_on c.nodes
  operands-said =
      on-nodes (word32 file) 4 operand_on
      (λ n e at h. word32-in file n (at + 3) (field-payload 2 n h) 1 (at + 4) (omega arith) (omega (arith, e)))

  on-rows : (read : List ℕ → ℕ → ℕ) (w : ℕ) → ReadsIn read w → (at off : ℕ) → at ≡ 3 + off → off + w ≤ 5
      → cells (read file) (node_count_in k file) (rows_start_in k file + at) (row_count_in k file)
      ≡ flat (λ (row : List ℕ). column (read row) 5 off (length c.nodes)) c.rows
  on-rows read w reads at off e small =
      ap (λ (n : ℕ). cells (read file) n (rows_start_in k file + at) (row_count_in k file)) many
      ∙ ap (cells (read file) (length c.nodes) (rows_start_in k file + at)) (rows_are known file c rest b stop)
      ∙ cells_in read w reads file (length c.nodes) off small c.rows fits.of-rows (rows_at k c) (rows_start_in k file + at)
      (omega (arith, e, rows_start known file c rest b stop))
      (has_left (flat (field 3) c.rows) _ (from-rows known file c rest b))

  numbers-said : numbers_in k file ≡ flat (numbers_on (length c.nodes)) c.rows
  numbers-said = on-rows word32 4 word32-reads 3 0 refl (omega arith)

  states-said : states_in k file ≡ flat (states_on (length c.nodes)) c.rows
  states-said = on-rows (λ (l : List ℕ) (i : ℕ). byte l i) 1 byte_reads 7 4 refl (omega arith)

  values-said : take (length c.values) (drop (values_at k c + 3) file) ≡ c.values
  values-said =
      let h = field-payload 4 c.values (values-field known file c last b) in
      ap (take (length c.values)) h.is ∙ take-append_seam c.values h.rest

  module _ (short : length file ≤ k.longest) where
    -- It is sound, with the counts of its contents.
    pub form-said : form_of file ≡ Ok (shape_for k c)
    form-said = ap (λ (m : Kind). form_in m file) kind ∙ written-sound known c fits short

    pub lists-said : lists_in file ≡ lists_for c
    lists-said =
        let kinds = ap (λ (m : Kind). kinds_in m file) kind ∙ kinds-said in
        let operands = ap (λ (m : Kind). operands_in m file) kind ∙ operands-said in
        let numbers = ap (λ (m : Kind). numbers_in m file) kind ∙ numbers-said in
        let states = ap (λ (m : Kind). states_in m file) kind ∙ states-said in
        let rows = ap (λ (m : Kind). row_count_in m file) kind ∙ rows_are known file c rest b stop in
        let values = ap (values_by file) form-said ∙ values-said in
        λ i. lists (kinds i) (operands i) (numbers i) (states i) (rows i) (values i)

    input-said : (fill : ℕ) → input (table_of file) (lists_in file) (choices_of (shape_for k c) fill) ≡ input_for k c fill
    input-said fill = ap₂ (λ (t : Bankdefs) (l : Lists). input t l (choices_of (shape_for k c) fill)) table-said lists-said

    -- What the build of a file answers is the build's answer for what its contents say,
    pub written-output : (fill : ℕ) (page : Option ℕ) (room : Room) → file_output file fill page room ≡ output_in page (input_for k c fill) room
    written-output fill page room =
        ap (output_by file fill page room) form-said ∙ ap (λ (x : Input). output_in page x room) (input-said fill)

    -- and so is what it leaves of what is lent.
    abbrev leaves : Lent → Output → Input → Lent
    leaves old r x = left_by x.banks (visits_of x r.passes) x.lists.values old r.build

    pub from-written : {fill : ℕ} {page : Option ℕ} {old new : Lent} {r : Output} → FileBuilt file fill page old r new → BuiltIn page (input_for k c fill) old r new
    from-written {fill} {page} {old} {new} {r} p =
        record { answer = p.answer ∙ written-output fill page _; left = p.left ∙ ap (leaves old r) (input-said fill) }

    pub to-written : {fill : ℕ} {page : Option ℕ} {old new : Lent} {r : Output} → BuiltIn page (input_for k c fill) old r new → FileBuilt file fill page old r new
    to-written {fill} {page} {old} {new} {r} p =
        record { answer = p.answer ∙ sym (written-output fill page _); left = p.left ∙ sym (ap (leaves old r) (input-said fill)) }
