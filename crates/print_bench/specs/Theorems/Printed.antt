-- What the program prints, said of its definition: a refused file's lines, and of two good files the answer over their images.
use Rattle.std.specs.Prelude.{◌≡◌, ℕ, ◌+◌, ◌-◌, ◌≤◌, length, take, drop, Ok}
use Rattle.std.proofs.Common.{◌∙◌, le-leb, le-ltb, ne_eqb}
use Rattle.std.proofs.Math.Path.{ap}
use mathlib.Core.List.{List, [], ◌∷◌, ◌++◌}
use Rattle.prelude.specs.Laws.Pick.{pick_true, pick-false}
use Rattle.prelude.specs.declared.Refusal.TheVariants.{Malformed}
use Rattle.blocks.specs.Outcome.{origins, sizes}
use Rattle.overlay.specs.Range.{source_of}
use Rattle.overlay.specs.Trial.{Trial}
use Rattle.overlay.specs.declared.Source.TheVariants.{Overlay, Released}
use Rattle.print_text.specs.Ascii.{ascii}
use Rattle.print_text.specs.Lines.{line, refusal_text}
use Rattle.record_scan.specs.Reading.{sound, faulty, read_text}
use Rattle.record_lines.specs.Pieces.{Piece}
use Rattle.record_read.specs.Given.{filled}
use Rattle.record_read.specs.Runs.{reach, blocks_given}
use Rattle.print_bench.specs.declared.Asked.{Asked}
use Rattle.print_bench.specs.Images.{longest, bytes_room, blocks_room, given, read_file, file_of, fault_text, fault_in, free_from}
use Rattle.print_bench.specs.Program.{bytes_text, ToldBy, source_text, range_text, answer_text, by_released, released_text, by_overlay, bench_text}
use Rattle.print_bench.specs.Theorems.Runs.{images}

-- ---- a file

module _ (load : ℕ) (old source : List ℕ) (short : length source ≤ longest) where
  read_is : file_of load old source ≡ read_file load old (read_text 0 load source)
  unfolding file_of
  read_is = pick_true _ _ (le-leb (length source) longest short)

  fault-is : fault_in load source ≡ fault_text (read_text 0 load source)
  unfolding fault_in
  fault-is = pick_true _ _ (le-leb (length source) longest short)

  module _ (pieces : List Piece) (reads : read_text 0 load source ≡ sound pieces) (near : reach load pieces ≤ bytes_room)
      (few : length (blocks_given load pieces) ≤ blocks_room) where
    pub good-is : file_of load old source ≡ given (filled load pieces old) (origins (blocks_given load pieces)) (sizes (blocks_given load pieces))
    good-is =
        read_is ∙ ap (read_file load old) reads ∙ pick_true _ _ (le-leb (reach load pieces) bytes_room near)
        ∙ pick_true _ _ (le-leb (length (blocks_given load pieces)) blocks_room few)

module _ (load : ℕ) (asked : Asked) (old released overlay : List ℕ) where
  -- A bad overlay is refused with 4, and named with its line.
  pub bad-overlay-prints-its-line : length overlay ≤ longest → (n : ℕ) → read_text 0 load overlay ≡ faulty n
      → bench_text load asked old released overlay ≡ refusal_text (Malformed 0) ++ ascii "overlay\n" ++ line (ascii "line") (n ∷ [])
  unfolding bench_text
  bad-overlay-prints-its-line short n e =
      ap (by_overlay load asked released overlay) (read_is load old overlay short ∙ ap (read_file load old) e)
      ∙ ap (λ (t : List ℕ). refusal_text (Malformed 0) ++ ascii "overlay\n" ++ t) (fault-is load old overlay short ∙ ap fault_text e)

  module _ (under : List Piece) (short : length overlay ≤ longest) (reads : read_text 0 load overlay ≡ sound under) (near : reach load under ≤ bytes_room)
      (few : length (blocks_given load under) ≤ blocks_room) where
    overlay_read : bench_text load asked old released overlay
        ≡ released_text load asked (filled load under old) (origins (blocks_given load under)) (sizes (blocks_given load under)) released
    unfolding bench_text
    overlay_read = ap (by_overlay load asked released overlay) (good-is load old overlay short under reads near few)

    -- With a good overlay a bad released file is,
    pub bad-released-prints-its-line : length released ≤ longest → (n : ℕ) → read_text 0 load released ≡ faulty n
        → bench_text load asked old released overlay ≡ refusal_text (Malformed 0) ++ ascii "released\n" ++ line (ascii "line") (n ∷ [])
    unfolding released_text
    bad-released-prints-its-line short₁ n e =
        overlay_read
        ∙ ap (by_released load asked (filled load under old) (origins (blocks_given load under)) (sizes (blocks_given load under)) released)
        (read_is load (filled load under old) released short₁ ∙ ap (read_file load (filled load under old)) e)
        ∙ ap (λ (t : List ℕ). refusal_text (Malformed 0) ++ ascii "released\n" ++ t) (fault-is load old released short₁ ∙ ap fault_text e)

    -- and of two good files within the limits the answer over their images is printed.
    pub good-files-are-answered : (issued : List Piece) → length released ≤ longest → read_text 0 load released ≡ sound issued
        → reach load issued ≤ bytes_room → length (blocks_given load issued) ≤ blocks_room
        → bench_text load asked old released overlay
        ≡ answer_text load asked (images load old under issued) (origins (blocks_given load issued)) (sizes (blocks_given load issued))
    unfolding released_text
    good-files-are-answered issued short₁ reads₁ near₁ few₁ =
        overlay_read
        ∙ ap (by_released load asked (filled load under old) (origins (blocks_given load under)) (sizes (blocks_given load under)) released)
        (good-is load (filled load under old) released short₁ issued reads₁ near₁ few₁)

-- ---- a range

module _ (load address count : ℕ) (t : Trial) (os ss : List ℕ) (some : count ≡ 0 → ⊥) (above : load ≤ address) where
  abbrev first : ℕ
  first = address - load

  range-is : range_text load address count t os ss
      ≡ ToldBy load first count (free_from os ss first) (free_from t.offsets t.sizes first) t (source_of t first count)
  unfolding range_text source_text
  range-is = pick-false _ _ (ne_eqb count 0 some) ∙ pick-false _ _ (le-ltb address load above)

  -- "it hands back that part of the overlay": the word, and the bytes in hex;
  pub range-tells-overlay : source_of t first count ≡ (Ok Overlay)
      → range_text load address count t os ss ≡ bytes_text (ascii "overlay") (take count (drop first t.overlay))
  range-tells-overlay e = range-is ∙ ap (ToldBy load first count (free_from os ss first) (free_from t.offsets t.sizes first) t) e

  -- "that part of the released image", where the file gives all of it (Given.before-it-is-given).
  pub range-tells-released : source_of t first count ≡ (Ok Released) → first + count ≤ free_from os ss first
      → range_text load address count t os ss ≡ bytes_text (ascii "released") (take count (drop first t.released))
  range-tells-released e h =
      range-is ∙ ap (ToldBy load first count (free_from os ss first) (free_from t.offsets t.sizes first) t) e
      ∙ pick_true _ _ (le-leb (first + count) (free_from os ss first) h)
