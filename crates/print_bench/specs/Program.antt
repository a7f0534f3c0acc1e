-- What is printed for the bytes of the two files, and for what is asked: every run of bytes that the overlay changes, or a range.
use Rattle.std.specs.Prelude.{List, [], ◌∷◌, ◌++◌, ℕ, ◌+◌, ◌-◌, ◌*◌, leb, ltb, eqb, length, take, drop, Err, Ok, Result}
use Rattle.prelude.specs.Pick.{pick}
use Rattle.prelude.specs.declared.Refusal.{Refusal}
use Rattle.prelude.specs.declared.Refusal.TheVariants.{Malformed, TooShort, BadPart}
use Rattle.bitvec.specs.HexDigits.{hex_of}
use Rattle.blocks.specs.Outcome.{origins, sizes}
use Rattle.overlay.specs.Order.{in_order}
use Rattle.overlay.specs.Range.{source_of, bytes_of}
use Rattle.overlay.specs.Runs.{runs_of}
use Rattle.overlay.specs.Trial.{Trial, trial}
use Rattle.overlay.specs.declared.Source.TheVariants.{Overlay, Released}
use Rattle.overlay.specs.declared.Source.{Source}
use Rattle.print_text.specs.Ascii.{ascii}
use Rattle.print_text.specs.Lines.{spaced, line, refusal_text}
use Rattle.print_bench.specs.declared.Asked.{Asked}
use Rattle.print_bench.specs.declared.Asked.TheVariants.{Runs, Range}
use Rattle.print_bench.specs.Images.{File, given, unread, file_of, fault_in, unread_text, image_of, free_from, alone_in}

-- ---- the list

-- How many runs are listed at most.
abbrev pub runs_room : ℕ
runs_room = 65536

-- Bytes in hex, two digits each, behind a space.
unfoldable pub field : List ℕ → List ℕ
field bytes = ascii " " ++ hex_of bytes (8 * length bytes)

-- A run: its address, its count of bytes, and the bytes of both images.
module _ (load : ℕ) (released overlay : List ℕ) where
  unfoldable pub run_text : ℕ → ℕ → List ℕ
  run_text first count =
      ascii "run" ++ spaced ((load + first) ∷ count ∷ []) ++ field (take count (drop first released)) ++ field (take count (drop first overlay)) ++ ascii "\n"

  unfoldable pub run_lines : List ℕ → List ℕ → List ℕ
  run_lines [] counts = []
  run_lines (f ∷ firsts) [] = []
  run_lines (f ∷ firsts) (c ∷ counts) = run_text f c ++ run_lines firsts counts

-- The first byte that only the overlay gives, if it is before the end of the overlay's image.
unfoldable pub alone_text : ℕ → ℕ → ℕ → List ℕ
alone_text load end first = pick (ltb first end) (line (ascii "alone") ((load + first) ∷ [])) []

-- "lists, ascending, each maximal run of covered bytes, inside both images, that differ between the two"
unfoldable pub list_text : ℕ → ℕ → Trial → List ℕ
list_text load alone t =
    pick (in_order 0 t.offsets t.sizes)
    (pick (leb (length (runs_of t)) runs_room)
    (run_lines load t.released t.overlay (origins (runs_of t)) (sizes (runs_of t)) ++ alone_text load (length t.overlay) alone
    ++ line (ascii "runs") (length (runs_of t) ∷ []))
    (refusal_text (TooShort 2)))
    (refusal_text (Malformed 0))

-- ---- a range

-- A refusal, and which file does not give which address.
abbrev pub named_text : Refusal → List ℕ → ℕ → List ℕ
named_text why word address = refusal_text why ++ line word (address ∷ [])

-- Which file a range comes from, and its bytes.
abbrev pub bytes_text : List ℕ → List ℕ → List ℕ
bytes_text word bytes = word ++ field bytes ++ ascii "\n"

-- "16 for a range that is empty or outside either image, 17 (new) for a range partly covered": the first address of the range that the released file does
-- not give where the range goes past that one's image, else the first that the overlay does not.
abbrev pub missing_text : Refusal → ℕ → ℕ → ℕ → ℕ → ℕ → List ℕ
missing_text why load end size free lack =
    pick (leb end size) (named_text why (ascii "overlay") (load + lack)) (named_text why (ascii "released") (load + free))

-- "that part of the released image", where the file gives all of it: a byte that it does not give is outside it.
abbrev pub given_text : ℕ → ℕ → ℕ → List ℕ → List ℕ
given_text load end free bytes = pick (leb end free) (bytes_text (ascii "released") bytes) (named_text BadPart (ascii "released") (load + free))

abbrev pub ToldBy : ℕ → ℕ → ℕ → ℕ → ℕ → Trial → Result Source Refusal → List ℕ
ToldBy load first count free lack t (Err why) = missing_text why load (first + count) (length t.released) free lack
ToldBy load first count free lack t (Ok Overlay) = bytes_text (ascii "overlay") (bytes_of t first count (Ok Overlay))
ToldBy load first count free lack t (Ok Released) = given_text load (first + count) free (bytes_of t first count (Ok Released))

unfoldable pub source_text : ℕ → ℕ → ℕ → ℕ → ℕ → Trial → List ℕ
source_text load first count free lack t = ToldBy load first count free lack t (source_of t first count)

-- A range by its address: neither file gives a byte below the load address.
unfoldable pub range_text : ℕ → ℕ → ℕ → Trial → List ℕ → List ℕ → List ℕ
range_text load address count t offsets sizes =
    pick (eqb count 0) (refusal_text BadPart)
    (pick (ltb address load) (named_text BadPart (ascii "released") address)
    (source_text load (address - load) count (free_from offsets sizes (address - load)) (free_from t.offsets t.sizes (address - load)) t))

-- ---- all of it

-- What is asked of two images; the lists are the released file's blocks.
abbrev pub answer_text : ℕ → Asked → Trial → List ℕ → List ℕ → List ℕ
answer_text load Runs t offsets sizes = list_text load (alone_in offsets sizes t.offsets t.sizes (length t.overlay)) t
answer_text load (Range address count) t offsets sizes = range_text load address count t offsets sizes

abbrev pub images_text : ℕ → Asked → List ℕ → List ℕ → List ℕ → List ℕ → List ℕ → List ℕ → List ℕ
images_text load asked released offsets₁ sizes₁ overlay offsets sizes =
    answer_text load asked (trial (image_of overlay offsets sizes) (image_of released offsets₁ sizes₁) offsets sizes) offsets₁ sizes₁

-- The released file is read into a copy of the overlay's bytes: where it gives no byte the two agree, and no run has that byte.
module _ (load : ℕ) (asked : Asked) where
  abbrev pub by_released : List ℕ → List ℕ → List ℕ → List ℕ → File → List ℕ
  by_released overlay offsets sizes source (given released offsets₁ sizes₁) = images_text load asked released offsets₁ sizes₁ overlay offsets sizes
  by_released overlay offsets sizes source (unread why) = unread_text (ascii "released\n") why (fault_in load source)

  unfoldable pub released_text : List ℕ → List ℕ → List ℕ → List ℕ → List ℕ
  released_text overlay offsets sizes source = by_released overlay offsets sizes source (file_of load overlay source)

  abbrev pub by_overlay : List ℕ → List ℕ → File → List ℕ
  by_overlay released source (given overlay offsets sizes) = released_text overlay offsets sizes released
  by_overlay released source (unread why) = unread_text (ascii "overlay\n") why (fault_in load source)

  -- The whole text of the two files. `old` is what stood in the room for the overlay's bytes, of which nothing is shown.
  unfoldable pub bench_text : List ℕ → List ℕ → List ℕ → List ℕ
  bench_text old released overlay = by_overlay released overlay (file_of load old overlay)
