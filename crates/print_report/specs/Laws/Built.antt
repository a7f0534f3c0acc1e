-- From the contract of a file's build to its text: an accepted build fits what is lent, and its spans stand at the front of the lent lists.
use Rattle.std.specs.Prelude.{◌≡◌, refl, true, List, ℕ, ◌+◌, ◌≤◌, ◌<◌, length, get_or, take, Option, Result, Err, None, Some, Ok}
use Rattle.std.proofs.Common.{sym, ap, ap₂, ◌∙◌, arith, take_at}
use Rattle.std.proofs.Math.Path.{subst}
use Rattle.std.proofs.lemmas.List.{length-map}
use Rattle.prelude.specs.Limits.{max_position}
use Rattle.prelude.specs.declared.Refusal.{Refusal}
use Rattle.prelude.specs.Verdict.{Verdict, Accepted}
use Rattle.blocks.specs.Spans.{acceptable}
use Rattle.bankdef.specs.Check.{banks_of}
use Rattle.build_write.specs.Blank.{blank_of}
use Rattle.build_visits.specs.Items.{items_of, image_of}
use Rattle.build_visits.specs.Spans.{Span, spans_of, words, sizes}
use Rattle.output.specs.Output.{Input, input, Lent, room_of, build_of, visits_of, passes_of, settled_of}
use Rattle.output.specs.Output.{filled, left_by}
use Rattle.output.specs.declared.Output.{Output}
use Rattle.output.specs.declared.Built.{Built}
use Rattle.output.specs.Built.{done_with}
use Rattle.form_fields.specs.Banks.{table_of}
use Rattle.form_fields.specs.Shape.{form_of, row_count}
use Rattle.form_fields.specs.Laws.Shape.{node_count, rows_start}
use Rattle.form_fields.specs.Words.{word32}
use Rattle.form_fields.specs.declared.Shape.{Shape}
use Rattle.build_paged.specs.InProfile.{said_of}
use Rattle.form_build.specs.Paged.{after_said, output_in}
use Rattle.form_build.specs.Filed.{lists_in, choices_of, output_by, file_output, FileBuilt}
use Rattle.print_text.specs.Lines.{refusal_text}
use Rattle.print_report.specs.Report.{span_room, lent_room, answer_by, built_by, report_text}
use Rattle.print_answer.specs.Answer.{image_room, done_text}
use Rattle.print_report.specs.Steps.{OffsetsFit}
use Rattle.print_answer.specs.Answer.{Fitting, answered_by, answered}
use Rattle.print_report.specs.Laws.Accepted.{small-cells, Fits, fits-settled}
use Rattle.print_report.specs.Laws.Fitting.{fit-acceptable, build-spans-fit}
use Rattle.print_report.specs.Laws.Table.{word_fits, table_fits}

-- what is printed of a layout, where `done` is the text of an accepted one
module _ (done : ℕ → ℕ → List ℕ → List ℕ → List ℕ → List ℕ) where
  abbrev layout_text : Input → Output → List ℕ
  layout_text b answer = answer_by done b.banks (visits_of b answer.passes) b.lists.values answer.build

  abbrev laid_text : Input → List ℕ
  laid_text b = layout_text b (build_of b lent_room)

module _ (b : Input) (old : Lent) (hi : length old.image ≡ image_room) (ha : length old.addresses ≡ span_room) (ho : length old.offsets ≡ span_room)
    (hs : length old.sizes ≡ span_room) (r : Output) (new : Lent) (answer : r ≡ build_of b (room_of old))
    (left : new ≡ left_by b.banks (visits_of b r.passes) b.lists.values old r.build) where
  room-is : room_of old ≡ lent_room
  room-is = rw (hi, ha, ho, hs) refl

  answer-is : r ≡ build_of b lent_room
  answer-is = answer ∙ ap (build_of b) room-is

  module _ (k bits n : ℕ) (e : r.build ≡ done_with k bits n) where
    abbrev spans : List Span
    spans = spans_of (visits_of b r.passes)

    inside : (o : Output) → o ≡ build_of b lent_room → o.build ≡ done_with k bits n → Fits lent_room k bits n (length (spans_of (visits_of b o.passes)))
    unfolding build_of
    inside o h d =
        subst (λ (x : Output). Fits lent_room k bits n (length (spans_of (visits_of b x.passes)))) (sym h)
        (fits-settled lent_room k bits n b (passes_of b) (settled_of b) (sym (ap (λ (x : Output). x.build) h) ∙ d))

    within : Fits lent_room k bits n (length spans)
    within = inside r answer-is e

    left_is : new ≡ filled (blank_of (banks_of b.banks) bits (length old.image)) (visits_of b r.passes) b.lists.values old
    left_is = left ∙ ap (left_by b.banks (visits_of b r.passes) b.lists.values old) e

    offsets-part : take n new.offsets ≡ words spans
    offsets-part =
        ap (λ (x : Lent). take n x.offsets) left_is
        ∙ take_at (words spans) _ n (length-map spans _ ∙ sym within.2)

    sizes-part : take n new.sizes ≡ sizes spans
    sizes-part =
        ap (λ (x : Lent). take n x.sizes) left_is
        ∙ take_at (sizes spans) _ n (length-map spans _ ∙ sym within.2)

    image-is : new.image ≡ image_of b.lists.values (blank_of (banks_of b.banks) bits image_room) (items_of (visits_of b r.passes))
    image-is =
        ap (λ (x : Lent). x.image) left_is
        ∙ ap (λ (m : ℕ). image_of b.lists.values (blank_of (banks_of b.banks) bits m) (items_of (visits_of b r.passes))) hi

  -- the text, whatever the build answers
  module _ (done : ℕ → ℕ → List ℕ → List ℕ → List ℕ → List ℕ) where
    build-text : (q : Result Built Refusal) → r.build ≡ q → answered_by done q new.image new.offsets new.sizes ≡ laid_text done b
    build-text (Err why) e = ap (answer_by done b.banks (visits_of b r.passes) b.lists.values) (sym e) ∙ ap (layout_text done b) answer-is
    build-text (Ok ended) e =
        ap₂ (λ (a c : List ℕ). done ended.k ended.length a c new.image) (offsets-part ended.k ended.length ended.spans e) (sizes-part ended.k ended.length ended.spans e)
        ∙ ap (done ended.k ended.length (words (spans ended.k ended.length ended.spans e)) (sizes (spans ended.k ended.length ended.spans e))) (image-is ended.k ended.length ended.spans e)
        ∙ ap (answer_by done b.banks (visits_of b r.passes) b.lists.values) (sym e) ∙ ap (layout_text done b) answer-is

  -- where each number is within its type's range
  module _ (banks-fit : OffsetsFit b.banks) (small : (i : ℕ) → get_or b.lists.numbers i 0 ≤ max_position) where
    accepted : (k bits n : ℕ) (e : r.build ≡ done_with k bits n) → acceptable (take n new.offsets) (take n new.sizes) ≡ true
    accepted k bits n e =
        let w = within k bits n e in
        let all = build-spans-fit b banks-fit small r.passes in
        rw (offsets-part k bits n e, sizes-part k bits n e) (fit-acceptable (spans k bits n e) all (omega (arith, w.1, w.2)))

    build-fits : (q : Result Built Refusal) → r.build ≡ q → length new.image ≡ image_room → length new.offsets ≡ span_room → length new.sizes ≡ span_room
        → Fitting q new.image new.offsets new.sizes
    build-fits (Err why) e gi go gs = tt
    build-fits (Ok ended) e gi go gs =
        let w = within ended.k ended.length ended.spans e in
        (rw gi w.0, w.0, rw go w.1, rw gs w.1, accepted ended.k ended.length ended.spans e)

-- ---- the layout of a file

module _ (file : List ℕ) (fill : ℕ) (page : Option ℕ) (bytes : (i : ℕ) → get_or file i 0 < 256) (old : Lent) (hi : length old.image ≡ image_room)
    (ha : length old.addresses ≡ span_room) (ho : length old.offsets ≡ span_room) (hs : length old.sizes ≡ span_room) (r : Output) (new : Lent)
    (built : FileBuilt file fill page old r new) where
  told : (f : Result Shape Refusal) → form_of file ≡ f → r ≡ output_by file fill page (room_of old) f
  told f e = built.answer ∙ ap (output_by file fill page (room_of old)) e

  abbrev FitsNow : Output → Type 0
  FitsNow o = Fitting o.build new.image new.offsets new.sizes

  module _ (s : Shape) where
    abbrev given : Input
    given = input (table_of file) (lists_in file) (choices_of s fill)

    module _ (gi : length new.image ≡ image_room) (go : length new.offsets ≡ span_room) (gs : length new.sizes ≡ span_room) where
      fits-built : r ≡ build_of given (room_of old) → FitsNow r
      fits-built e =
          build-fits given old hi ha ho hs r new e built.left (table_fits file bytes)
          (small-cells (word32 file) (word_fits file bytes) (node_count file) (rows_start file + 3) (row_count file)) r.build refl gi go gs

      fits_said : (v : Verdict) → r ≡ after_said v (build_of given (room_of old)) → FitsNow r
      fits_said Accepted e = fits-built e
      fits_said (Err why) e = rw e tt

      fits_in : (p : Option ℕ) → r ≡ output_in p given (room_of old) → FitsNow r
      fits_in None e = fits-built e
      fits_in (Some bits) e = fits_said (said_of bits given) e

  fits_by : (f : Result Shape Refusal) → form_of file ≡ f → length new.image ≡ image_room → length new.offsets ≡ span_room → length new.sizes ≡ span_room → FitsNow r
  fits_by (Err why) e gi go gs = rw (told (Err why) e) tt
  fits_by (Ok s) e gi go gs = fits_in s gi go gs page (told (Ok s) e)

  pub file-fits : length new.image ≡ image_room → length new.offsets ≡ span_room → length new.sizes ≡ span_room
      → Fitting r.build new.image new.offsets new.sizes
  file-fits = fits_by (form_of file) refl

  -- the text of an answer, with what the build left
  module _ (done : ℕ → ℕ → List ℕ → List ℕ → List ℕ → List ℕ) where
    abbrev text_of : Output → List ℕ
    text_of o = answered_by done o.build new.image new.offsets new.sizes

    module _ (s : Shape) where
      text-built : r ≡ build_of (given s) (room_of old) → text_of r ≡ built_by done file (build_of (given s) lent_room)
      text-built e = build-text (given s) old hi ha ho hs r new e built.left done r.build refl

      text-said : (v : Verdict) → r ≡ after_said v (build_of (given s) (room_of old)) → text_of r ≡ built_by done file (after_said v (build_of (given s) lent_room))
      text-said Accepted e = text-built e
      text-said (Err why) e = ap text_of e

      text_in : (p : Option ℕ) → r ≡ output_in p (given s) (room_of old) → text_of r ≡ built_by done file (output_in p (given s) lent_room)
      text_in None e = text-built e
      text_in (Some bits) e = text-said (said_of bits (given s)) e

    text-by : (f : Result Shape Refusal) → form_of file ≡ f → text_of r ≡ built_by done file (output_by file fill page lent_room f)
    text-by (Err why) e = ap text_of (told (Err why) e)
    text-by (Ok s) e = text_in s page (told (Ok s) e)

    pub text-built-by : answered_by done r.build new.image new.offsets new.sizes ≡ built_by done file (file_output file fill page lent_room)
    text-built-by = text-by (form_of file) refl

  pub file-text : answered r.build new.image new.offsets new.sizes ≡ report_text file fill page
  unfolding report_text
  file-text = text-built-by done_text
