-- Laws that Theorems/Whole rests on.
use Rattle.std.specs.Prelude.{true, ◌≡◌, eqb, take, Ok}
use mathlib.Core.List.{List, [], ◌∷◌, ◌++◌, map, append_assoc, append-nil}
use Rattle.std.proofs.Math.Path.{refl, sym, ap, ap₂, subst}
use Rattle.std.proofs.Common.{◌∙◌, take-append-drop, drop_of_length-le, drop-drop, take_at, get_or-take, get_or-drop, eqb-true}
use Prim.Native.Nat.{ℕ, zero, suc, ◌+◌, ◌*◌, ◌-◌, ◌/◌, ◌%◌, ◌≤◌, ◌<◌}
use native.Mathlib.Omega.{arith}
use Rattle.std.proofs.Math.ListN.{length, get_or, drop, length-drop}
use Rattle.std.proofs.Math.Seq.{length-take-le, drop-cons}
use Rattle.prelude.specs.Laws.Bools.{both}
use Rattle.form_fields.specs.declared.Kind.{Kind}
use Rattle.form_fields.specs.declared.Shape.{Shape}
use Rattle.form_fields.specs.Words.{byte, word16}
use Rattle.form_fields.specs.Fields.{field_at, ends_well, sound_at, run}
use Rattle.form_fields.specs.Laws.Fields.{field-ends, field-tag, field-len, sound-field, by-test}
use Rattle.form_fields.specs.Theorems.Fields.{run-stop, run_more}
use Rattle.form_fields.specs.Kind.{Known, is1, is2, begins2, headed}
use Rattle.form_fields.specs.Laws.Kind.{known-bank}
use Rattle.form_fields.specs.Columns.{column}
use Rattle.form_fields.specs.Laws.Columns.{column-length}
use Rattle.form_fields.specs.Shape.{bank_count_in, nodes_start_in, node_count_in, rows_start_in, row_count_in, values_start_in, values_size_in, limit_start_in, form_in}
use Rattle.form_fields.specs.Contents.{bytes16, field, flat, Contents, head_bytes, written, Each, Long, BankFits, Fits}
use Rattle.form_fields.specs.Has.{Has}
use Rattle.form_fields.proofs.Has.{field-payload}
use Rattle.form_fields.specs.Laws.Rest.{SoundFile, sound-file}
use Rattle.form_fields.proofs.RoundTripLaws.{flat_map, written-sound}
use Rattle.form_fields.specs.Writer.{shape_for}
use Rattle.form_fields.specs.Whole.{Bytes, Field, contents_in, field_bytes, fields_of, file_of, head_fields, part, tagged}

-- ---- a field, and a run of them, as bytes

on : (file l : List ℕ) {a b : ℕ} → a ≡ b → l ++ drop a file ≡ l ++ drop b file
on file l e = ap (λ (m : ℕ). l ++ drop m file) e

module _ (file : List ℕ) (bytes : Bytes file) where
  -- a field that is there is the writer's of its tag and its payload
  field_is : (tag len at : ℕ) → field_at file tag len at ≡ true → drop at file ≡ field tag (part file len (at + 3)) ++ drop (at + (3 + len)) file
  unfolding field bytes16 word16
  field_is tag len at e =
      let room = field-ends file tag len at e in
      let size : byte file (at + 1) * 256 + byte file (at + 2) ≡ len =
      ap (λ (n : ℕ). byte file (at + 1) * 256 + byte file n) {x = at + 2} {y = at + 1 + 1} (omega arith) ∙ field-len file tag len at e in
      let long : length (part file len (at + 3)) ≡ len = length-take-le len (drop (at + 3) file) (omega (arith, length-drop (at + 3) file, room)) in
      let high : byte file (at + 1) ≡ length (part file len (at + 3)) / 256 = omega (arith, size, long, bytes (at + 1), bytes (at + 2)) in
      let low : byte file (at + 2) ≡ length (part file len (at + 3)) % 256 = omega (arith, size, long, bytes (at + 1), bytes (at + 2)) in
      let rest : drop (at + 3) file ≡ part file len (at + 3) ++ drop (at + (3 + len)) file =
      sym (take-append-drop len (drop (at + 3) file))
      ∙ ap (λ (l : List ℕ). part file len (at + 3) ++ l) (drop-drop len (at + 3) file ∙ ap (λ (n : ℕ). drop n file) {x = at + 3 + len} {y = at + (3 + len)}
      (omega arith)) in
      drop-cons file at 0 (omega (arith, room))
      ∙ ap₂ ◌∷◌ (field-tag file tag len at e)
      (ap (λ (n : ℕ). drop n file) {x = suc at} {y = at + 1} (omega arith)
      ∙ drop-cons file (at + 1) 0 (omega (arith, room))
      ∙ ap₂ ◌∷◌ high
      (ap (λ (n : ℕ). drop n file) {x = suc (at + 1)} {y = at + 2} (omega arith)
      ∙ drop-cons file (at + 2) 0 (omega (arith, room))
      ∙ ap₂ ◌∷◌ low (ap (λ (n : ℕ). drop n file) {x = suc (at + 2)} {y = at + 3} (omega arith) ∙ rest)))

  -- the first n fields of a run
  run_is : (tag len n at : ℕ) → n ≤ run file tag len at
      → drop at file ≡ flat (field tag) (column (part file len) (3 + len) (at + 3) n) ++ drop (at + n * (3 + len)) file
  unfolding flat column
  run_is tag len zero at h = ap (λ (n : ℕ). drop n file) {x = at} {y = at + 0 * (3 + len)} (omega arith)
  run_is tag len (suc n) at h =
      by-test (sound_at file tag len at)
      (λ e.
      let first = field_is tag len at (sound-field file tag len at e) in
      let more = run_is tag len n (at + (3 + len)) (omega (arith, h, run_more file tag len at e)) in
      let next : at + (3 + len) + 3 ≡ at + 3 + (3 + len) = omega arith in
      let end : at + (3 + len) + n * (3 + len) ≡ at + suc n * (3 + len) = omega arith in
      first
      ∙ ap (λ (l : List ℕ). field tag (part file len (at + 3)) ++ l)
      (more ∙ ap₂ (λ (a b : ℕ). flat (field tag) (column (part file len) (3 + len) a n) ++ drop b file) next end)
      ∙ sym (append_assoc (field tag (part file len (at + 3))) (flat (field tag) (column (part file len) (3 + len) (at + 3 + (3 + len)) n))
      (drop (at + suc n * (3 + len)) file)))
      (λ e. absurd (omega (arith, h, run-stop file tag len at e)))

  -- what holds of the payload of each sound field holds of each of the first n of a run
  each-run : (P : List ℕ → Type 0) (tag len : ℕ) → ((at : ℕ) → sound_at file tag len at ≡ true → P (part file len (at + 3)))
      → (n at : ℕ) → n ≤ run file tag len at → Each P (column (part file len) (3 + len) (at + 3) n)
  unfolding column
  each-run P tag len good zero at h = tt
  each-run P tag len good (suc n) at h =
      by-test (sound_at file tag len at)
      (λ e.
      let next : at + (3 + len) + 3 ≡ at + 3 + (3 + len) = omega arith in (
        good at e,
        subst (λ (a : ℕ). Each P (column (part file len) (3 + len) a n)) next (each-run P tag len good n (at + (3 + len)) (omega (
          arith,
          h,
          run_more file tag len at e,
        ))),
      ))
      (λ e. absurd (omega (arith, h, run-stop file tag len at e)))

  part-long : (tag len at : ℕ) → sound_at file tag len at ≡ true → length (part file len (at + 3)) ≡ len
  part-long tag len at e =
      let room = field-ends file tag len at (sound-field file tag len at e) in
      length-take-le len (drop (at + 3) file) (omega (arith, length-drop (at + 3) file, room))

  pub part-byte : (len at i : ℕ) → i < len → get_or (part file len at) i 0 ≡ byte file (at + i)
  part-byte len at i less = get_or-take len (drop at file) i 0 less ∙ get_or-drop at file i 0

  bank-part : {k : Kind} → Known k → (at : ℕ) → sound_at file k.tag k.bank at ≡ true → BankFits k (part file k.bank (at + 3))
  unfolding sound_at
  bank-part {k} known at e =
      let n = k.bank in
      let some = (known-bank known).0 in
      let ends = (both (field_at file k.tag n at) (ends_well k.tag (byte file (at + 1 + n)) (byte file (at + 2 + n))) e).1 in
      let before : get_or (part file n (at + 3)) (n - 2) 0 ≡ byte file (at + 1 + n) =
      part-byte n (at + 3) (n - 2) (omega (arith, some)) ∙ ap (byte file) {x = at + 3 + (n - 2)} {y = at + 1 + n} (omega (arith, some)) in
      let last : get_or (part file n (at + 3)) (n - 1) 0 ≡ byte file (at + 2 + n) =
      part-byte n (at + 3) (n - 1) (omega (arith, some)) ∙ ap (byte file) {x = at + 3 + (n - 1)} {y = at + 2 + n} (omega (arith, some)) in
      (part-long k.tag n at e, rw (before, last) ends)

  -- one byte
  part-one : (at : ℕ) → at < length file → part file 1 at ≡ byte file at ∷ []
  part-one at h = ap (take 1) (drop-cons file at 0 h)

  head2-is : begins2 file ≡ true → file ≡ field 16 (2 ∷ []) ++ drop 4 file
  unfolding begins2
  head2-is h =
      let e = both (field_at file 16 1 0) (eqb (byte file 3) 2) h in
      let room = field-ends file 16 1 0 e.0 in
      field_is 16 1 0 e.0
      ∙ ap (λ (l : List ℕ). field 16 l ++ drop 4 file) (part-one 3 (omega (arith, room)) ∙ ap (λ (b : ℕ). b ∷ []) (eqb-true (byte file 3) 2 e.1))

  head-is : {k : Kind} → Known k → headed k file ≡ true → file ≡ head_bytes k ++ drop (k.heads * 4) file
  head-is is1 h = refl
  head-is is2 h = head2-is h

  module _ (k : Kind) where
    many-banks : bank_count_in k file ≤ run file k.tag k.bank (k.heads * 4)
    unfolding bank_count_in
    many-banks = omega arith

    many-nodes : node_count_in k file ≤ run file 2 5 (nodes_start_in k file)
    unfolding node_count_in
    many-nodes = omega arith

    many-rows : row_count_in k file ≤ run file 3 (5 * node_count_in k file) (rows_start_in k file)
    unfolding row_count_in
    many-rows = omega arith

    banks-then : k.heads * 4 + bank_count_in k file * (3 + k.bank) ≡ nodes_start_in k file
    unfolding nodes_start_in
    banks-then = refl

    nodes-then : nodes_start_in k file + node_count_in k file * 8 ≡ rows_start_in k file
    unfolding rows_start_in
    nodes-then = refl

    rows_then : rows_start_in k file + row_count_in k file * (3 + 5 * node_count_in k file) ≡ values_start_in k file
    unfolding values_start_in
    rows_then = refl

    values-then : values_start_in k file + (3 + values_size_in k file) ≡ limit_start_in k file
    unfolding limit_start_in
    values-then = omega arith

  module _ {k : Kind} (known : Known k) (s : Shape) (sound : form_in k file ≡ Ok s) where
    facts : SoundFile k file s
    facts = sound-file k file s sound

    -- What stands in a sound file fits its form,
    pub contents-fit : Fits k (contents_in k file)
    contents-fit =
        let n = node_count_in k file in
        record {
          of-banks = each-run (BankFits k) k.tag k.bank (bank-part known) (bank_count_in k file) (k.heads * 4) (many-banks k);
          of-nodes = each-run (Long 5) 2 5 (part-long 2 5) n (nodes_start_in k file) (many-nodes k);
          of-rows = subst (λ (m : ℕ). Each (Long (5 * m)) (column (part file (5 * n)) (3 + 5 * n) (rows_start_in k file + 3) (row_count_in k file)))
              (sym (column-length (part file 5) 8 (nodes_start_in k file + 3) n))
              (each-run (Long (5 * n)) 3 (5 * n) (part-long 3 (5 * n)) (row_count_in k file) (rows_start_in k file) (many-rows k));
        }

    -- and the file is the writer's of it, byte by byte: from the values on, from the nodes on, and from its head on.
    pub from-values-is : drop (values_start_in k file) file ≡ field 4 (contents_in k file).values ++ field 5 ((contents_in k file).limit ∷ [])
    from-values-is =
        let limit = limit_start_in k file in
        let room = field-ends file 5 1 limit facts.limit in
        let last = field_is 5 1 limit facts.limit
        ∙ ap₂ (λ (p e : List ℕ). field 5 p ++ e) (part-one (limit + 3) (omega (arith, room)))
        (drop_of_length-le file {i = limit + (3 + 1)} (omega (arith, facts.whole))) ∙ append-nil (field 5 (byte file (limit + 3) ∷ [])) in
        field_is 4 (values_size_in k file) (values_start_in k file) facts.values ∙ on file (field 4 (contents_in k file).values) (values-then k)
        ∙ ap (λ (l : List ℕ). field 4 (contents_in k file).values ++ l) last

    pub from-nodes-is : drop (nodes_start_in k file) file
        ≡ flat (field 2) (contents_in k file).nodes
        ++ (flat (field 3) (contents_in k file).rows ++ (field 4 (contents_in k file).values ++ field 5 ((contents_in k file).limit ∷ [])))
    from-nodes-is =
        let c = contents_in k file in
        let n = node_count_in k file in
        run_is 2 5 n (nodes_start_in k file) (many-nodes k) ∙ on file (flat (field 2) c.nodes) (nodes-then k)
        ∙ ap (λ (l : List ℕ). flat (field 2) c.nodes ++ l)
        (run_is 3 (5 * n) (row_count_in k file) (rows_start_in k file) (many-rows k) ∙ on file (flat (field 3) c.rows) (rows_then k)
        ∙ ap (λ (l : List ℕ). flat (field 3) c.rows ++ l) from-values-is)

    pub file-is-written : written k (contents_in k file) ≡ file
    unfolding written
    file-is-written =
        let c = contents_in k file in
        let banks = run_is k.tag k.bank (bank_count_in k file) (k.heads * 4) (many-banks k)
        ∙ on file (flat (field k.tag) c.banks) (banks-then k) in
        sym
        (head-is known facts.head
        ∙ ap (λ (l : List ℕ). head_bytes k ++ l) (banks ∙ ap (λ (l : List ℕ). flat (field k.tag) c.banks ++ l) from-nodes-is))

    -- Its shape is that of its contents.
    pub shape_of : s ≡ shape_for k (contents_in k file)
    shape_of =
        let c = contents_in k file in
        let e : form_in k file ≡ Ok (shape_for k c) =
        ap (form_in k) (sym file-is-written) ∙ written-sound known c contents-fit (rw file-is-written facts.short) in
        cc

-- ---- what is written is read back

pub part_of : (file : List ℕ) (tag n : ℕ) (payload : List ℕ) (at : ℕ) → Long n payload → Has file at (field tag payload) → part file n (at + 3) ≡ payload
part_of file tag n payload at e h =
    let p = field-payload tag payload h in
    ap (take n) p.is ∙ take_at payload p.rest n e

pub flat_append : {X A : Type 0} (write : X → List A) (xs ys : List X) → flat write (xs ++ ys) ≡ flat write xs ++ flat write ys
unfolding flat
flat_append write [] ys = refl
flat_append write (x ∷ xs) ys =
    ap (λ (l : List _). write x ++ l) (flat_append write xs ys) ∙ sym (append_assoc (write x) (flat write xs) (flat write ys))

head-fields : {k : Kind} → Known k → flat field_bytes (head_fields k) ≡ head_bytes k
unfolding flat
head-fields is1 = refl
head-fields is2 = append-nil (field 16 (2 ∷ []))

last-fields : (c : Contents) → flat field_bytes (tagged 4 c.values ∷ tagged 5 (c.limit ∷ []) ∷ []) ≡ field 4 c.values ++ field 5 (c.limit ∷ [])
unfolding flat
last-fields c = ap (λ (l : List ℕ). field 4 c.values ++ l) (append-nil (field 5 (c.limit ∷ [])))

-- The writer of contents is the writer of their fields.
pub fields-written : {k : Kind} → Known k → (c : Contents) → file_of (fields_of k c) ≡ written k c
unfolding file_of written
fields-written {k} known c =
    let some : (tag : ℕ) (l : List (List ℕ)) (rest : List Field) (bytes : List ℕ) → flat field_bytes rest ≡ bytes
    → flat field_bytes (map (tagged tag) l ++ rest) ≡ flat (field tag) l ++ bytes =
    λ tag l rest bytes e. flat_append field_bytes (map (tagged tag) l) rest ∙ ap₂ ◌++◌ (flat_map field_bytes (tagged tag) l) e in
    flat_append field_bytes (head_fields k) _
    ∙ ap₂ ◌++◌ (head-fields known)
    (some k.tag c.banks _ _ (some 2 c.nodes _ _ (some 3 c.rows _ _ (last-fields c))))
