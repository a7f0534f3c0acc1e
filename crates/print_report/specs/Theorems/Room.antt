-- Theorems about what Room defines.
use Rattle.std.specs.Prelude.{◌≡◌, true, List, ◌++◌, ℕ, ◌+◌, ◌*◌, ◌≤◌, ◌<◌, length, get_or, take, drop, Option, Ok, Err, None, Some, Result}
use Rattle.std.proofs.Math.Path.{refl}
use Rattle.std.proofs.Common.{sym, ap, ◌∙◌, ⊎_elim, arith, length-take, take_all, le-leb, lt-ltb}
use Rattle.prelude.specs.Limits.{max_position}
use Rattle.prelude.specs.Laws.Pick.{pick_true}
use Rattle.prelude.specs.declared.Refusal.TheVariants.{Malformed}
use Rattle.prelude.specs.Verdict.{Verdict, Accepted}
use Rattle.prelude.specs.declared.Refusal.{Refusal}
use Rattle.bitvec.specs.Bits.{Bytes}
use Rattle.bitvec.specs.HexDigits.{hex_of}
use Rattle.bitvec.specs.Theorems.HexDigits.{length-hex_of}
use Rattle.blocks.specs.Theorems.Acceptable.{acceptable-parts}
use Rattle.blocks.specs.Theorems.Count.{blocks-few}
use Rattle.blocks.specs.Outcome.{origins, sizes}
use Rattle.blocks.specs.Spans.{spans_of, acceptable}
use Rattle.blocks.specs.Walk.{blocks_of}
use Rattle.resolver.specs.Laws.Least.{or-past}
use Rattle.output.specs.Output.{Input, input, settled_build, build_of, visits_of, passes_of, settled_of}
use Rattle.build_visits.specs.Spans.{spans_of as spans_in, words, sizes as span_sizes}
use Rattle.output.specs.declared.Output.{Output}
use Rattle.output.specs.declared.Built.{Built}
use Rattle.form_fields.specs.Banks.{table_of}
use Rattle.form_fields.specs.Laws.Columns.{column-length}
use Rattle.form_fields.specs.Kind.{kind_of}
use Rattle.form_fields.specs.Theorems.Kind.{kind-known}
use Rattle.form_fields.specs.Laws.Kind.{known-longest}
use Rattle.form_fields.specs.Shape.{form_in, form_of, nodes_start, row_count}
use Rattle.form_fields.specs.Laws.Shape.{node_count, rows_start}
use Rattle.form_fields.specs.Words.{byte, word32}
use Rattle.form_fields.specs.declared.Shape.{Shape}
use Rattle.form_build.specs.Filed.{lists_in, choices_of, output_by, file_visits}
use Rattle.form_build.specs.Paged.{after_said, output_in}
use Rattle.build_paged.specs.InProfile.{said_of}
use Rattle.print_text.specs.Laws.Ends.{end_fits}
use Rattle.print_text.specs.Lengths.{Few}
use Rattle.print_text.specs.Theorems.Lengths.{layout-few}
use Rattle.print_text.specs.Lines.{refusal_text}
use Rattle.print_text.specs.Puts.{Puts}
use Rattle.print_report.specs.Laws.Accepted.{small-cells, fits-settled}
use Rattle.print_report.specs.Blocks.{farthest}
use Rattle.print_report.specs.Theorems.Blocks.{origins-few, sizes-few}
use Rattle.blocks.specs.Laws.Count.{spans-few}
use Rattle.print_report.specs.Laws.Fitting.{fit-acceptable, build-spans-fit}
use Rattle.print_report.specs.Places.{Near, build_sum}
use Rattle.print_report.specs.Theorems.Places.{build-near, profile-near}
use Rattle.print_report.specs.Report.{lent_room, answer_text, built_text, report_text}
use Rattle.print_answer.specs.Answer.{image_room, done_text}
use Rattle.print_report.specs.Laws.Table.{word_fits, table_fits}
use Rattle.print_report.specs.Laws.Room.{broken-near, few-banks, few-nodes, limit-byte, refused-short, settled-k, sound-is}
use Rattle.print_report.specs.Room.{file_room, report_room}

-- ---- the text of an accepted build

-- The longest text, 155,674 bytes, is handed on as a fact (`wide`), so that a buffer with less room is refused at each theorem about it.
module _ (wide : 155674 ≤ report_room) where
  done-short : (k bits : ℕ) (offsets sized image : List ℕ) → Few k → bits ≤ 8 * image_room → acceptable offsets sized ≡ true
      → length (done_text k bits offsets sized image) ≤ report_room
  done-short k bits offsets sized image hk hb y =
      let bs = blocks_of (spans_of offsets sized) in
      omega (
        arith,
        wide,
        layout-few k (length bs) (origins bs) (sizes bs) (hex_of image bits) hk (origins-few offsets sized y) (sizes-few offsets sized y),
        length-hex_of image bits,
        blocks-few (spans_of offsets sized),
        spans-few offsets sized,
        (acceptable-parts offsets sized y).1,
      )

  module _ (file : List ℕ) (fill : ℕ) (page : Option ℕ) (bytes : Bytes file) where
    abbrev Short : Output → Type 0
    Short o = length (built_text file o) ≤ report_room

    module _ (s : Shape) (e : form_of file ≡ Ok s) where
      abbrev given : Input
      given = input (table_of file) (lists_in file) (choices_of s fill)

      short-file : length file ≤ (kind_of file).longest
      short-file = (sound-is file s e).0

      numbers-small : (i : ℕ) → get_or (lists_in file).numbers i 0 ≤ max_position
      numbers-small = small-cells (word32 file) (word_fits file bytes) (node_count file) (rows_start file + 3) (row_count file)

      kinds-few : length (lists_in file).kinds ≤ max_position
      kinds-few = rw (column-length (byte file) 8 (nodes_start file + 3) (node_count file)) (few-nodes file short-file)

      limit-few : s.limit < 256
      limit-few = rw (sound-is file s e).1 (limit-byte file bytes)

      by-build : (q : Result Built Refusal) → settled_build given lent_room (passes_of given) (settled_of given) ≡ q → build_sum q ≤ farthest
          → length (answer_text (table_of file) (file_visits file (passes_of given)) (lists_in file).values q) ≤ report_room
      by-build (Err why) is h = refused-short why h
      by-build (Ok ended) is h =
          let spans = spans_in (visits_of given (passes_of given)) in
          let fits = fits-settled lent_room ended.k ended.length ended.spans given (passes_of given) (settled_of given) is in
          let low = rw is at (settled-k given lent_room (passes_of given) (settled_of given) refl) in
          done-short ended.k ended.length (words spans) (span_sizes spans) _ (omega (arith, low, limit-few)) fits.0
          (fit-acceptable spans (build-spans-fit given (table_fits file bytes) numbers-small (passes_of given)) (omega (arith, fits.1, fits.2)))

      built-short : Short (build_of given lent_room)
      unfolding build_of
      built-short =
          by-build (settled_build given lent_room (passes_of given) (settled_of given)) refl
          (build-near given (table_fits file bytes) numbers-small (few-banks file short-file) kinds-few lent_room)

      said-short : (v : Verdict) → Near v → Short (after_said v (build_of given lent_room))
      said-short Accepted h = built-short
      said-short (Err why) h = refused-short why h.near

      in-short : (p : Option ℕ) → Short (output_in p given lent_room)
      in-short None = built-short
      in-short (Some bits) =
          said-short (said_of bits given) (profile-near given (table_fits file bytes) numbers-small (few-banks file short-file) kinds-few bits)

    by_form : (f : Result Shape Refusal) → form_of file ≡ f → Short (output_by file fill page lent_room f)
    by_form (Err why) e = refused-short why (broken-near file why e)
    by_form (Ok s) e = in-short s e page

    short : length (report_text file fill page) ≤ report_room
    unfolding report_text
    short = by_form (form_of file) refl

module _ (file : List ℕ) (fill : ℕ) (page : Option ℕ) (bytes : Bytes file) where
  -- Every report fits: for every file, every fill's choice and every page size.
  pub every-report-fits : length (report_text file fill page) ≤ report_room
  every-report-fits = short (omega arith) file fill page bytes

  -- So `report` answers the text's length in every buffer that is as long, and the text stands at its front.
  module _ {old : List ℕ} {r : Option ℕ} {new : List ℕ} (room : report_room ≤ length old) (p : Puts (report_text file fill page) old 0 r new) where
    fits-there : 155674 ≤ report_room → 0 + length (report_text file fill page) ≤ length old
    fits-there wide = omega (arith, short wide file fill page bytes)

    pub report-answers-length : r ≡ Some (length (report_text file fill page))
    report-answers-length = p.place ∙ end_fits (length old) 0 (length (report_text file fill page)) (fits-there (omega arith)) ∙ ap Some (omega arith)

    pub report-stands-first : new ≡ report_text file fill page ++ drop (length (report_text file fill page)) old
    report-stands-first =
        let n = length (report_text file fill page) in
        let same : 0 + n ≡ n = omega arith in
        p.buffer ∙ pick_true _ _ (le-leb (0 + n) (length old) (fits-there (omega arith))) ∙ ap (λ (k : ℕ). report_text file fill page ++ drop k old) same

-- ---- what is read

past-is-refused : (file : List ℕ) (fill : ℕ) (page : Option ℕ) → 65536 < length file → report_text file fill page ≡ refusal_text (Malformed 0)
unfolding report_text form_in
past-is-refused file fill page h =
    ap (λ (f : Result Shape Refusal). built_text file (output_by file fill page lent_room f))
    (pick_true _ _ (lt-ltb (kind_of file).longest (length file) (omega (arith, known-longest (kind-known file)))))

-- A file that is longer than the longest is refused 4, place 0, whatever stands in it.
pub longer-is-refused : (file : List ℕ) (fill : ℕ) (page : Option ℕ) → file_room ≤ length file → report_text file fill page ≡ refusal_text (Malformed 0)
longer-is-refused file fill page h = past-is-refused file fill page (omega arith)

-- So the first 65,537 bytes tell what is printed for the whole input.
pub read-so-far-is-enough : (input : List ℕ) (fill : ℕ) (page : Option ℕ) → report_text (take file_room input) fill page ≡ report_text input fill page
read-so-far-is-enough input fill page =
    ⊎_elim
    (λ (h : file_room ≤ length input). past-is-refused (take file_room input) fill page (omega (arith, length-take file_room input)) ∙
    sym (past-is-refused input fill page (omega arith)))
    (λ (h : length input < file_room). ap (λ (l : List ℕ). report_text l fill page) (take_all file_room input (omega arith)))
    (or-past file_room (length input))
