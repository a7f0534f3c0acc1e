-- What the program prints, said of its definition: a refusal is its line, exactly; of an accepted layout the file is good and gives the image's bytes at the
-- addresses, and nothing else; with the whole image asked for, every bit of it.
use Rattle.std.specs.Prelude.{◌≡◌, Bool, true, false, ◌&&◌, ◌↔◌, ℕ, ◌+◌, ◌-◌, ◌*◌, ◌/◌, ◌≤◌, ◌<◌, eqb, length, get_or, Option, Err, Result}
use Rattle.std.proofs.Math.Path.{refl, ap}
use Rattle.std.proofs.Common.{sym, subst, ◌∙◌, arith, eq-eqb, ne_eqb}
use mathlib.Core.List.Memᴰ
use mathlib.Core.List.{List, [], ◌∷◌}
use Rattle.std.proofs.lemmas.Bool.{eqb-false}
use Rattle.std.proofs.lemmas.List.{length-map}
use Rattle.prelude.specs.Laws.Bools.{both}
use Rattle.prelude.specs.Pick.{pick}
use Rattle.prelude.specs.declared.Refusal.{Refusal}
use Rattle.bankdef.specs.Check.{banks_of}
use Rattle.bitvec.specs.Bits.{Bytes}
use Rattle.bitvec.specs.Part.{is_part}
use Rattle.bitvec.specs.Theorems.Part.{is_part-when}
use Rattle.bitvec.specs.Written.{written}
use Rattle.bitvec.specs.Theorems.Written.{bytes-written}
use Rattle.blocks.specs.Outcome.{origins, sizes}
use Rattle.blocks.specs.Walk.{block}
use Rattle.blocks.specs.declared.Block.{Block}
use Rattle.build_visits.specs.Items.{Item, items_of, image_of}
use Rattle.build_visits.specs.Spans.{spans_of as spans_in, words, sizes as span_sizes}
use Rattle.build_write.specs.Blank.{blank_of}
use Rattle.build_write.specs.Laws.Blank.{blank-bytes}
use Rattle.form_fields.specs.Banks.{table_of}
use Rattle.form_fields.specs.Shape.{form_of}
use Rattle.form_fields.specs.declared.Shape.{Shape}
use Rattle.form_build.specs.Filed.{lists_in, file_output, output_by, file_visits}
use Rattle.print_report.specs.Report.{lent_room}
use Rattle.print_answer.specs.Answer.{image_room}
use Rattle.print_text.specs.Lines.{refusal_text}
use Rattle.record_scan.specs.Reading.{sound, read_text}
use Rattle.record_write.specs.Theorems.HexFile as hex-file
use Rattle.record_lines.specs.Pieces.{GivesAt}
use Rattle.record_write.specs.Theorems.Width.{width-exactly}
use Rattle.record_write.specs.Theorems.SrecFile as srec-file
use Rattle.record_write.specs.Srec.{width_ok}
use Rattle.record_write.specs.Bytes.{Covers}
use Rattle.record_write.specs.Checks.{all_parts, all_placed}
use Rattle.record_write.specs.Cut.{blocks_in, pieces_of}
use Rattle.record_write.specs.Exactly.{AllParts, WellPlaced}
use Rattle.record_write.specs.Text.{text_of}
use Rattle.record_write.specs.Theorems.Bytes.{pieces-give-image}
use Rattle.record_write.specs.Theorems.Exactly.{parts-exactly, placed-exactly}
use Rattle.record_write.specs.Theorems.Rising.{file-rises}
use Rattle.thm_record_room.specs.Records.{format_ok, records_or}
use Rattle.thm_records.specs.Laws.Copied.{columns, and-true}
use Rattle.thm_records.specs.Theorems.Back.{hex-read, srec-read}
use Rattle.print_records.specs.Text.{records_of, whole_blocks, blocks_by, answer_text, built_text, records_text}
use Rattle.print_records.specs.declared.Wanted.{Wanted}
use Rattle.output.specs.Built.{done_with}

-- ---- refused

module _ (w : Wanted) (file : List ℕ) (fill : ℕ) (page : Option ℕ) where
  -- "A refusal prints `refused`, number and place, one space between", and nothing else.
  pub refused-prints-its-line : (why : Refusal) → (file_output file fill page lent_room).build ≡ Err why → records_text w file fill page ≡ refusal_text why
  unfolding records_text
  refused-prints-its-line why e =
      let o = file_output file fill page lent_room in
      ap (answer_text w (table_of file) (file_visits file o.passes) (lists_in file).values) e

  -- A broken file is refused with its field, whatever is asked for.
  pub broken-prints-its-field : (why : Refusal) → form_of file ≡ Err why → records_text w file fill page ≡ refusal_text why
  unfolding records_text
  broken-prints-its-field why e = ap (λ (f : Result Shape Refusal). built_text w file (output_by file fill page lent_room f)) e

  -- ---- accepted

  image-bytes : (values blank : List ℕ) (l : List Item) → Bytes blank → Bytes (image_of values blank l)
  unfolding image_of
  image-bytes values blank [] b = b
  image-bytes values blank (x ∷ l) b = image-bytes values (written blank x.at values x.from x.size) l (bytes-written blank x.at values x.from x.size)

  -- the image of the build, in bytes
  abbrev pub image_in : ℕ → List ℕ
  image_in bits =
      let o = file_output file fill page lent_room in
      image_of (lists_in file).values (blank_of (banks_of (table_of file)) bits image_room) (items_of (file_visits file o.passes))

  -- the blocks that are written
  abbrev pub blocks_in' : ℕ → List Block
  blocks_in' bits =
      let spans = spans_in (file_visits file (file_output file fill page lent_room).passes) in
      blocks_by w.whole bits (words spans) (span_sizes spans)

  module _ (k bits n : ℕ) (accepted : (file_output file fill page lent_room).build ≡ done_with k bits n) where
    pub accepted-prints : records_text w file fill page ≡ records_of w.format w.load (image_in bits) (blocks_in' bits)
    unfolding records_text
    accepted-prints =
        let o = file_output file fill page lent_room in
        ap (answer_text w (table_of file) (file_visits file o.passes) (lists_in file).values) accepted

    image-good : Bytes (image_in bits)
    image-good =
        let o = file_output file fill page lent_room in
        image-bytes (lists_in file).values _ (items_of (file_visits file o.passes)) (blank-bytes (banks_of (table_of file)) bits image_room)

    -- where no block is refused
    module _ (parts : all_parts (length (image_in bits)) (blocks_in' bits) ≡ true)
        (places : (format_ok w.format w.load (blocks_in' bits) && all_placed w.load (blocks_in' bits)) ≡ true) where
      abbrev bs : List Block
      bs = blocks_in' bits

      abbrev os : List ℕ
      os = origins bs

      abbrev ss : List ℕ
      ss = sizes bs

      written_out : records_text w file fill page ≡ text_of w.format w.load (image_in bits) bs
      unfolding records_or
      written_out = accepted-prints ∙ rw (parts, places) refl

      all_placed_lem : all_placed w.load bs ≡ true
      all_placed_lem = (both (format_ok w.format w.load bs) (all_placed w.load bs) places).1

      in_parts : AllParts (length (image_in bits)) os ss
      in_parts = (parts-exactly (length (image_in bits)) os ss).0 (subst (λ (b : List Block). all_parts (length (image_in bits)) b ≡ true) (sym (columns bs)) parts)

      in-places : WellPlaced w.load os ss
      in-places =
          (placed-exactly w.load os ss).0
          (and-true (eq-eqb (length os) (length ss) (length-map bs (λ b. b.origin) ∙ sym (length-map bs (λ b. b.size))))
          (subst (λ (b : List Block). all_placed w.load b ≡ true) (sym (columns bs)) all_placed_lem))

      -- Intel HEX: the file that is printed is good, and gives the pieces of the image's blocks
      pub hex-is-good : w.format ≡ 0 → read_text 0 w.load (records_text w file fill page) ≡ sound (pieces_of w.load (image_in bits) bs)
      hex-is-good e =
          ap (read_text 0 w.load) (written_out ∙ ap (λ (f : ℕ). text_of f w.load (image_in bits) bs) e)
          ∙ subst (λ (b : List Block). read_text 0 w.load (text_of 0 w.load (image_in bits) b) ≡ sound (pieces_of w.load (image_in bits) b)) (columns bs)
          (hex-read w.load (text_of 0 w.load (image_in bits) (blocks_in os ss)) (pieces_of w.load (image_in bits) (blocks_in os ss))
          (file-rises (image_in bits) os ss w.load image-good in_parts in-places)
          (hex-file.file-tells (image_in bits) os ss w.load image-good in_parts in-places))

      -- S-records of either width: the same
      fits_width : (w.format ≡ 0 → ⊥) → width_ok w.format w.load bs ≡ true
      fits_width other =
          let f = (both (format_ok w.format w.load bs) (all_placed w.load bs) places).0 in
          rw (ne_eqb w.format 0 other) at f

      pub srec-is-good : (other : w.format ≡ 0 → ⊥) → read_text 1 w.load (records_text w file fill page) ≡ sound (pieces_of w.load (image_in bits) bs)
      srec-is-good other =
          let fits = (width-exactly w.format w.load os ss).0
          (subst (λ (b : List Block). width_ok w.format w.load b ≡ true) (sym (columns bs)) (fits_width other)) in
          ap (read_text 1 w.load) written_out
          ∙ subst (λ (b : List Block). read_text 1 w.load (text_of w.format w.load (image_in bits) b) ≡ sound (pieces_of w.load (image_in bits) b))
          (columns bs)
          (srec-read w.load (text_of w.format w.load (image_in bits) (blocks_in os ss)) (pieces_of w.load (image_in bits) (blocks_in os ss))
          (file-rises (image_in bits) os ss w.load image-good in_parts in-places) 1 (λ z. omega (arith, z))
          (srec-file.file-tells (image_in bits) os ss w.load w.format image-good in_parts fits in-places))

      -- and these pieces give exactly the image's bytes where a block is, counted from the load address.
      pub prints-the-image : (a b : ℕ)
          → GivesAt (pieces_of w.load (image_in bits) bs) a b ↔ (Covers w.load bs a × (get_or (image_in bits) (a - w.load) 0 ≡ b))
      prints-the-image = pieces-give-image w.load (image_in bits) bs parts

-- ---- the whole image

whole_part : (len bits : ℕ) → (bits ≡ 0 → ⊥) → bits ≤ 8 * len → is_part len 0 (8 * ((bits + 7) / 8)) ≡ true
whole_part len bits some h =
    is_part-when len 0 (8 * ((bits + 7) / 8)) (record { some = omega arith; starts = omega arith; ends = omega arith; inside = omega arith })

whole_by : (t : Bool) (len bits : ℕ) → eqb bits 0 ≡ t → bits ≤ 8 * len → all_parts len (pick t [] (block 0 (8 * ((bits + 7) / 8)) ∷ [])) ≡ true
unfolding all_parts
whole_by true len bits e h = refl
whole_by false len bits e h = rw (whole_part len bits (eqb-false bits 0 e) h) refl

-- The whole image is a part on byte edges, however its items stand: 16 is not given where it fits what is lent.
pub whole-never-16 : (len bits : ℕ) → bits ≤ 8 * len → all_parts len (whole_blocks bits) ≡ true
whole-never-16 len bits h = whole_by (eqb bits 0) len bits refl h

-- Every bit of the image is in the file at its place: the byte that has bit j goes to the load address plus j / 8, with the image's own bits in it,
pub whole-has-every-bit : (load : ℕ) (image : List ℕ) (bits : ℕ) → bits ≤ 8 * length image → (j : ℕ) → j < bits
    → GivesAt (pieces_of load image (whole_blocks bits)) (load + j / 8) (get_or image (j / 8) 0)
whole-has-every-bit load image bits h j inside =
    let some : eqb bits 0 ≡ false = ne_eqb bits 0 (λ e. omega (arith, e, inside)) in
    let one : whole_blocks bits ≡ block 0 (8 * ((bits + 7) / 8)) ∷ [] = rw some refl in
    let index : load + j / 8 - load ≡ j / 8 = omega arith in
    (pieces-give-image load image (whole_blocks bits) (whole-never-16 (length image) bits h) (load + j / 8) (get_or image (j / 8) 0)).1 (
      subst (λ (l : List Block). Covers load l (load + j / 8)) (sym one)
          (record { of = block 0 (8 * ((bits + 7) / 8)); among = Memᴰ.head refl; above = omega arith; below = omega (arith, inside) }),
      ap (λ (i : ℕ). get_or image i 0) index,
    )

-- and nothing stands in it before the image's first byte or behind its last.
pub whole-has-no-more : (load : ℕ) (image : List ℕ) (bits : ℕ) → bits ≤ 8 * length image → (a b : ℕ) → GivesAt (pieces_of load image (whole_blocks bits)) a b
    → Covers load (whole_blocks bits) a × (get_or image (a - load) 0 ≡ b)
whole-has-no-more load image bits h a b = (pieces-give-image load image (whole_blocks bits) (whole-never-16 (length image) bits h) a b).0
