-- Theorems about what Whole defines.
use Rattle.std.specs.Prelude.{List, [], ◌∷◌, ◌++◌, ◌≡◌, refl, ℕ, ◌+◌, ◌*◌, ◌/◌, ◌%◌, ◌≤◌, length, get_or, take, drop, Result, Err, Ok}
use Rattle.std.proofs.Common.{map-id, sym, ap, ap₂, ◌∙◌, arith, drop_at, take_at}
use Rattle.prelude.specs.declared.Refusal.{Refusal}
use Rattle.form_fields.specs.declared.Kind.{Kind}
use Rattle.form_fields.specs.Kind.{Known}
use Rattle.form_fields.specs.Columns.{column}
use Rattle.form_fields.specs.Shape.{row_count_in, form_in}
use Rattle.form_fields.specs.Contents.{bytes16, field, flat, Contents, written, Long, BankFits, Fits}
use Rattle.form_fields.proofs.Has.{has_left}
use Rattle.form_fields.proofs.Parts.{field-long}
use Rattle.form_fields.proofs.RoundTripLaws.{begins, halts, values-field, values-begin, values-long, limit_is, written-sound}
use Rattle.form_fields.proofs.Sections.{bank-long, nodes_at, rows_at, values_at, from-banks, from-nodes, from-rows, banks-are}
use Rattle.form_fields.proofs.Sections.{nodes-start, nodes-are, rows_start}
use Rattle.form_fields.proofs.Sections.{rows_are}
use Rattle.form_fields.specs.Writer.{shape_for}
use Rattle.form_fields.proofs.Written.{column-of}
use Rattle.form_fields.proofs.WholeLaws.{contents-fit, fields-written, file-is-written, part_of}
use Rattle.form_fields.specs.Whole.{BrokenOrWritten, Bytes, Field, broken, contents_in, field_bytes, fields_of, file_of, part, written_once}
use Rattle.form_fields.specs.declared.Shape.{Shape}

-- The contents of a file are those that it was written of.
pub contents-back : {k : Kind} → Known k → (c : Contents) → Fits k c → contents_in k (written k c) ≡ c
contents-back {k} known c fits =
    let file = written k c in
    let last = field 5 (c.limit ∷ []) in
    let rest = field 4 c.values ++ last in
    let b = begins known c fits in
    let stop = halts known c fits in
    let n = length c.nodes in
    let many = nodes-are known file c rest b stop in
    let banks =
    ap (column (part file k.bank) (3 + k.bank) (k.heads * 4 + 3)) (banks-are known file c rest b stop)
    ∙ column-of file (field k.tag) (BankFits k) (3 + k.bank) (bank-long k) (part file k.bank) 3 (λ (p : List ℕ). p)
    (λ p g at h. part_of file k.tag k.bank p at g.0 h) c.banks fits.of-banks (k.heads * 4)
    (has_left (flat (field k.tag) c.banks) _ (from-banks known file c rest b)) ∙ map-id c.banks in
    let nodes =
    ap₂ (λ (a m : ℕ). column (part file 5) 8 (a + 3) m) (nodes-start known file c rest b stop) many
    ∙ column-of file (field 2) (Long 5) 8 (field-long 2 5) (part file 5) 3 (λ (p : List ℕ). p)
    (λ p g at h. part_of file 2 5 p at g h) c.nodes fits.of-nodes (nodes_at k c)
    (has_left (flat (field 2) c.nodes) _ (from-nodes known file c rest b)) ∙ map-id c.nodes in
    let rows =
    ap₂ (λ (a m : ℕ). column (part file (5 * m)) (3 + 5 * m) (a + 3) (row_count_in k file)) (rows_start known file c rest b stop) many
    ∙ ap (column (part file (5 * n)) (3 + 5 * n) (rows_at k c + 3)) (rows_are known file c rest b stop)
    ∙ column-of file (field 3) (Long (5 * n)) (3 + 5 * n) (field-long 3 (5 * n)) (part file (5 * n)) 3 (λ (p : List ℕ). p)
    (λ p g at h. part_of file 3 (5 * n) p at g h) c.rows fits.of-rows (rows_at k c)
    (has_left (flat (field 3) c.rows) _ (from-rows known file c rest b)) ∙ map-id c.rows in
    let values =
    ap₂ (λ (m a : ℕ). part file m (a + 3)) (values-long known file c last b) (values-begin known file c last b)
    ∙ part_of file 4 (length c.values) c.values (values_at k c) refl (values-field known file c last b) in
    λ i. record { banks = banks i; nodes = nodes i; rows = rows i; values = values i; limit = limit_is known c fits i }

-- ---- one list of fields

-- A file tells each field's length, so no two lists of fields have one file.
pub one_list : (fs gs : List Field) → file_of fs ≡ file_of gs → fs ≡ gs
unfolding file_of flat field bytes16
one_list [] [] e = refl
one_list [] (g ∷ gs) e = absurd (omega (arith, ap length e))
one_list (f ∷ fs) [] e = absurd (omega (arith, ap length e))
one_list (f ∷ fs) (g ∷ gs) e =
    let tag : f.tag ≡ g.tag = ap (λ (l : List ℕ). get_or l 0 0) e in
    let high : length f.payload / 256 ≡ length g.payload / 256 = ap (λ (l : List ℕ). get_or l 1 0) e in
    let low : length f.payload % 256 ≡ length g.payload % 256 = ap (λ (l : List ℕ). get_or l 2 0) e in
    let long : length f.payload ≡ length g.payload = omega (arith, high, low) in
    let tail : f.payload ++ flat field_bytes fs ≡ g.payload ++ flat field_bytes gs = ap (drop 3) e in
    let n = length f.payload in
    let payload = sym (take_at f.payload (flat field_bytes fs) n refl) ∙ ap (take n) tail ∙ take_at g.payload (flat field_bytes gs) n (sym long) in
    let rest = sym (drop_at f.payload (flat field_bytes fs) n refl) ∙ ap (drop n) tail ∙ drop_at g.payload (flat field_bytes gs) n (sym long) in
    let first : f ≡ g = λ i. record { tag = tag i; payload = payload i } in
    ap₂ ◌∷◌ first (one_list fs gs rest)

pub broken-or-written : {k : Kind} → Known k → (file : List ℕ) → Bytes file → BrokenOrWritten k file
broken-or-written {k} known file bytes = go (form_in k file) refl
  where
    go : (f : Result Shape Refusal) → form_in k file ≡ f → BrokenOrWritten k file
    go (Err why) e = broken why e
    go (Ok s) e =
        let c = contents_in k file in
        let is : file_of (fields_of k c) ≡ file = fields-written known c ∙ file-is-written file bytes known s e in
        written_once c (contents-fit file bytes known s e) is (λ fs same. one_list fs (fields_of k c) (same ∙ sym is))

-- Never both: what the writer writes of contents that fit, within the form's length, is sound.
pub not-both : {k : Kind} → Known k → (c : Contents) → Fits k c → length (written k c) ≤ k.longest
    → form_in k (file_of (fields_of k c)) ≡ Ok (shape_for k c)
not-both {k} known c fits short = ap (form_in k) (fields-written known c) ∙ written-sound known c fits short
