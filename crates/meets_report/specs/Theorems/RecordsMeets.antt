-- What `prog_records` prints for a file, by the definitions, says the sentences: over the outcome that the library says of the file, the file that the call
-- which writes says of its blocks (`write-hex-meets`, `write-srec-meets`). In the room that is lent every file fits, so that 14 is not given.
use Rattle.std.specs.Prelude.{◌≡◌, refl, Bool, true, false, ◌&&◌, ℕ, ◌+◌, ◌*◌, ◌/◌, ◌≤◌, ◌<◌, leb, eqb, length, take, drop, Ok, Err, Option, Result}
use Rattle.std.proofs.Common.{sym, ap, ap₂, ◌∙◌, arith, le-leb, eq-eqb, eqb-true, length-take, take_at}
use Rattle.std.proofs.Math.Path.{subst}
use mathlib.Core.List.{List, [], ◌∷◌, ◌++◌, map}
use Rattle.std.proofs.lemmas.Bool.{eqb-false}
use Rattle.std.proofs.lemmas.List.{length-map}
use Rattle.prelude.specs.Laws.Bools.{either, both, clash}
use Rattle.prelude.specs.Pick.{pick}
use Rattle.prelude.specs.declared.Refusal.TheVariants.{Malformed, TooShort, BadPart}
use Rattle.prelude.specs.declared.Refusal.{Refusal}
use Rattle.bitvec.specs.Bits.{Bytes}
use Rattle.iter.specs.declared.Lost.{Lost}
use Rattle.blocks.specs.declared.Block.{Block}
use Rattle.blocks.specs.Laws.Count.{spans-few}
use Rattle.blocks.specs.Outcome.{origins, sizes}
use Rattle.blocks.specs.Spans.{spans_of}
use Rattle.blocks.specs.Theorems.Count.{blocks-few}
use Rattle.output.specs.Output.{room_of}
use Rattle.output.specs.declared.Built.{Built}
use Rattle.output.specs.Built.{done_with}
use Rattle.form_build.specs.Filed.{file_output}
use Rattle.form_fields.specs.Whole as whole
use Rattle.record_write.specs.Checks.{all_parts, all_placed}
use Rattle.record_write.specs.Cut.{blocks_in}
use Rattle.record_write.specs.Srec as srec
use Rattle.record_write.specs.Text.{text_of}
use Rattle.thm_records.specs.Laws.Copied.{columns}
use Rattle.thm_record_room.specs.Records.{format_ok, records_or}
use Rattle.thm_record_room.specs.Theorems.Room.{station-files-fit}
use Rattle.c_answers.specs.Counts.{written_count}
use Rattle.c_answers.specs.Told.{build_told}
use Rattle.print_text.specs.Ascii.{ascii}
use Rattle.print_answer.specs.Answer.{answered_by}
use Rattle.print_report.specs.Laws.Built.{text-built-by}
use Rattle.print_records.specs.Text.{refused_text, blocks_by, done_text, records_text}
use Rattle.print_records.specs.declared.Wanted.{Wanted}
use Rattle.says.specs.Blocks.{Block as Run}
use Rattle.says.specs.Build.{Lent, Outcome}
use Rattle.says.specs.Write as write
use Rattle.says.specs.Write.{Given}
use Rattle.says.specs.RecordsText as says
use Rattle.says.specs.RecordsText.{Chosen, given, CallSays, Tells, Records, RecordsSay}
use Rattle.meets.specs.Theorems.Blocks.{run}
use Rattle.meets_build.specs.Laws.Contract.{lent_so}
use Rattle.meets_build.specs.Theorems.Meets.{lent_of}
use Rattle.meets_records.specs.Theorems.WriteMeets.{write-hex-meets, write-srec-meets}
use Rattle.meets_report.specs.Laws.Kept.{Kept, layout-kept}
use Rattle.meets_report.specs.Laws.Lines.{line-meets}
use Rattle.meets_report.specs.Laws.Shown.{refusal-meets, blocks-of-meet}
use Rattle.meets_report.specs.Theorems.Meets.{left-of, outcome-of, layout-of}

-- ---- the call that writes, in a room in which every file fits

module _ (text old : List ℕ) where
  abbrev by_tests : (p q f : Bool) → write.Outcome
  by_tests p q f =
      record {
        answer = written_count (pick p (pick q (pick f (Ok (length text)) (Err (TooShort 3))) (Err (Malformed 0))) (Err BadPart));
        text = pick (p && q && f) (text ++ drop (length text) old) old;
      }

  tells : (p q f : Bool) → (p ≡ true → q ≡ true → f ≡ true)
      → Tells (by_tests p q f) (pick p (pick q text (refused_text (Malformed 0))) (refused_text BadPart))
  tells true true true h =
      subst (Tells (by_tests true true true)) (take_at text (drop (length text) old) (length text) refl) (says.written refl)
  tells true true false h = absurd (clash (h refl refl) refl)
  tells true false f h = says.turned (omega arith) (line-meets (ascii "refused") (4 ∷ 0 ∷ []))
  tells false q f h = says.turned (omega arith) (line-meets (ascii "refused") (16 ∷ 0 ∷ []))

module _ (image : List ℕ) (good : Bytes image) (small : length image ≤ 16384) (load : ℕ) (bs : List Block) (few : length bs ≤ 4096) (old : List ℕ)
    (long : length old ≡ 131072) where
  abbrev g : Given
  g = record { image = image; offsets = origins bs; sizes = sizes bs; load = load }

  abbrev listed : List Block
  listed = blocks_in (origins bs) (sizes bs)

  abbrev text : ℕ → List ℕ
  text format = text_of format load image listed

  abbrev placed : Bool
  placed = all_placed load listed

  paired : eqb (length (origins bs)) (length (sizes bs)) ≡ true
  paired = eq-eqb (length (origins bs)) (length (sizes bs)) (length-map bs (λ (x : Block). x.origin) ∙ sym (length-map bs (λ (x : Block). x.size)))

  fit : (format : ℕ) → all_parts (length image) listed ≡ true → placed ≡ true → leb (length (text format)) (length old) ≡ true
  fit format p q =
      le-leb (length (text format)) (length old)
      (omega (arith, station-files-fit format load image listed good p q small (omega (arith, ap length (columns bs)))))

  told-by : (format : ℕ) (q : Bool) → q ≡ (format_ok format load listed && placed)
      → Tells (by_tests (text format) old (all_parts (length image) listed) q (leb (length (text format)) (length old)))
      (records_or refused_text format load image bs)
  unfolding records_or
  told-by format q e =
      let z = by_tests (text format) old (all_parts (length image) listed) q (leb (length (text format)) (length old)) in
      subst (λ (l : List Block). Tells z (records_or refused_text format load image l)) (columns bs)
      (subst (λ (r : Bool). Tells z (pick (all_parts (length image) listed) (pick r (text format) (refused_text (Malformed 0))) (refused_text BadPart))) e
      (tells (text format) old (all_parts (length image) listed) q (leb (length (text format)) (length old))
      (λ p h. fit format p (both (format_ok format load listed) placed (sym e ∙ h)).1)))

  abbrev Done-by : ℕ → Type 0
  Done-by format = (z : write.Outcome) × CallSays format g old z × Tells z (records_or refused_text format load image bs)

  hex-done : Done-by 0
  hex-done =
      let q = eqb (length (origins bs)) (length (sizes bs)) && placed in
      let z = by_tests (text 0) old (all_parts (length image) listed) q (leb (length (text 0)) (length old)) in
      (z, says.hex refl (write-hex-meets g old good z.answer z.text (record { told = refl; text = refl })), told-by 0 q (rw paired))

  srec-done : (format : ℕ) → eqb format 0 ≡ false → Done-by format
  srec-done format e =
      let z = by_tests (text format) old (all_parts (length image) listed) (srec.places_ok (origins bs) (sizes bs) load format)
      (leb (length (text format)) (length old)) in (
        z,
        says.s-records (eqb-false format 0 e) (write-srec-meets g old good format z.answer z.text (record { told = refl; text = refl })),
        told-by format (srec.places_ok (origins bs) (sizes bs) load format) (rw (paired, e)),
      )

  pub done : (format : ℕ) → Done-by format
  done format = either (eqb format 0) (λ t. subst Done-by (sym (eqb-true format 0 t)) hex-done) (λ f. srec-done format f)

-- ---- the blocks

firsts : (l : List Block) → map (λ (r : Run). r.0) (map run l) ≡ origins l
firsts [] = refl
firsts (x ∷ l) = ap (λ (m : List ℕ). x.origin ∷ m) (firsts l)

seconds : (l : List Block) → map (λ (r : Run). r.1) (map run l) ≡ sizes l
seconds [] = refl
seconds (x ∷ l) = ap (λ (m : List ℕ). x.size ∷ m) (seconds l)

module _ (passes : ℕ) (padding : List Lost) (l : Lent) (k bits n : ℕ) where
  abbrev y : Outcome
  y = record { answer = build_told (done_with k bits n) passes padding; lent = l }

  abbrev os : List ℕ
  os = take n l.offsets

  abbrev ss : List ℕ
  ss = take n l.sizes

  chosen-so : length l.offsets ≡ length l.sizes → (w : Bool) (b : List Run) → b ≡ map run (blocks_by w bits os ss) → Chosen y w b
  chosen-so same false b e = rw e (says.blocks (blocks-of-meet y same))
  chosen-so same true b e = rw e (either (eqb bits 0)
      (λ t. rw t (says.empty (eqb-true bits 0 t)))
      (λ f. rw f (says.image (let some = eqb-false bits 0 f in omega arith))))

  chosen : length l.offsets ≡ length l.sizes → (w : Bool) → Chosen y w (map run (blocks_by w bits os ss))
  chosen same w = chosen-so same w _ refl

  blocks-are-few : length os ≤ 4096 → (w : Bool) → length (blocks_by w bits os ss) ≤ 4096
  blocks-are-few h false = omega (arith, blocks-few (spans_of os ss), spans-few os ss)
  blocks-are-few h true = either (eqb bits 0) (λ t. rw t (omega arith)) (λ f. rw f (omega arith))

-- ---- the text

module _ (w : Wanted) (room : List ℕ) (long : length room ≡ 131072) (passes : ℕ) (padding : List Lost) where
  pub recorded : (q : Result Built Refusal) (l : Lent) → ((build_told q passes padding).refusal ≡ 0 → (length l.image ≡ 16384) × (length l.offsets ≡ 4096)
      × (length l.sizes ≡ 4096) × Bytes l.image)
      → Records w.format w.load w.whole room (record { answer = build_told q passes padding; lent = l })
      (answered_by (λ (k : ℕ). done_text w) q l.image l.offsets l.sizes)
  recorded (Err why) l facts = says.refused (refusal-meets passes padding why)
  recorded (Ok ended) l facts =
      let (image, offsets, sized, good) = facts refl in
      let bs = blocks_by w.whole ended.length (os passes padding l ended.k ended.length ended.spans) (ss passes padding l ended.k ended.length ended.spans) in
      let few : length bs ≤ 4096 = blocks-are-few passes padding l ended.k ended.length ended.spans (omega (arith, length-take ended.spans l.offsets)) w.whole in
      let d = done l.image good (omega arith) w.load bs few room long w.format in
      let is : g l.image good (omega arith) w.load bs few room long ≡ given w.load (y passes padding l ended.k ended.length ended.spans) (map run bs) =
      ap₂ (λ (a c : List ℕ). record { image = l.image; offsets = a; sizes = c; load = w.load }) (sym (firsts bs)) (sym (seconds bs)) in
      says.laid refl (chosen-so passes padding l ended.k ended.length ended.spans (offsets ∙ sym sized) w.whole (map run bs) refl)
      (subst (λ (x : Given). CallSays w.format x room d.0) is d.1) d.2

pub records-meet : (w : Wanted) (file : List ℕ) → whole.Bytes file → (fill : ℕ) (page : Option ℕ)
    → RecordsSay w.format w.load w.whole file fill page (records_text w file fill page)
unfolding records_text
records-meet w file small fill page old lends room long =
    let o = file_output file fill page (room_of (lent_of old)) in
    let new = left-of file old o in
    let y = outcome-of file old o in
    let says = layout-of file small fill page old in (
      y,
      says,
      subst (Records w.format w.load w.whole room y)
          (text-built-by file fill page small (lent_of old) lends.0 lends.1 lends.2 lends.3 o new (record { answer = refl; left = refl })
          (λ (k : ℕ). done_text w))
          (recorded w room long o.passes o.padding o.build (lent_so new)
          (λ e. let kept = layout-kept file fill page old y says e in
          (kept.image ∙ lends.0, kept.offsets ∙ lends.2, kept.sizes ∙ lends.3, kept.bytes))),
    )
