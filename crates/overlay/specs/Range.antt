-- A byte range of the bench: which image it comes from, and the bytes (document 02, Ticket 4).
use Rattle.std.specs.Prelude.{◌≡◌, Bool, ◌&&◌, List, [], ℕ, ◌+◌, ◌≤◌, ◌<◌, ltb, leb, length, take, drop, Err, Ok, Result}
use Rattle.prelude.specs.Pick.{pick}
use Rattle.prelude.specs.Told.{Told, gives, refuses, told_refusal}
use Rattle.prelude.specs.declared.Place.TheVariants.{One}
use Rattle.prelude.specs.declared.Refusal.TheVariants.{Malformed, BadPart, PartlyCovered}
use Rattle.prelude.specs.declared.Refusal.{Refusal}
use Rattle.overlay.specs.declared.Source.TheVariants.{Overlay, Released}
use Rattle.overlay.specs.Cover.{covered_bit, all_covered, none_covered}
use Rattle.overlay.specs.Order.{in_order}
use Rattle.overlay.specs.Trial.{Trial}
use Rattle.overlay.specs.declared.Source.{Source}

-- "16 for a range that is empty or outside either image": the contrary, of images of so many bytes.
unfoldable pub inside : ℕ → ℕ → ℕ → ℕ → Bool
inside overlay released first count = ltb 0 count && (leb (first + count) overlay && leb (first + count) released)

pub record Inside (overlay released first count : ℕ) : Type 0 where
  pub some : 0 < count
  pub overlaid : first + count ≤ overlay
  pub issued : first + count ≤ released

-- "If every byte of the range is covered by overlay blocks .. that part of the overlay; if no bit of it is, that part of the released
-- image"; "17 (new) for a range partly covered".
abbrev pub judged : (ℕ → Bool) → ℕ → ℕ → Result Source Refusal
judged bit first count = pick (all_covered bit first count) (Ok Overlay) (pick (none_covered bit first count) (Ok Released) (Err PartlyCovered))

-- "Refusals, in order: 4 .., 16 .., 17 .." The answer to "which of the two, or why none".
unfoldable pub source_of : Trial → ℕ → ℕ → Result Source Refusal
source_of t first count =
    pick (in_order 0 t.offsets t.sizes)
    (pick (inside (length t.overlay) (length t.released) first count) (judged (covered_bit t.offsets t.sizes) first count) (Err BadPart))
    (Err (Malformed 0))

-- "that part": the bytes that the caller gets back, none where the answer is a refusal.
abbrev pub bytes_of : Trial → ℕ → ℕ → Result Source Refusal → List ℕ
bytes_of t first count (Ok Overlay) = take count (drop first t.overlay)
bytes_of t first count (Ok Released) = take count (drop first t.released)
bytes_of t first count (Err r) = []

-- An answer in the document's figures.
pub data Image : Type 0 where
  the_overlay : Image
  the_released : Image

abbrev pub told_source : Result Source Refusal → Told Image
told_source (Ok Overlay) = gives the_overlay
told_source (Ok Released) = gives the_released
told_source (Err r) = told_refusal r

unfoldable pub figures_of : Trial → ℕ → ℕ → Told Image
figures_of t first count =
    pick (in_order 0 t.offsets t.sizes)
    (pick (inside (length t.overlay) (length t.released) first count)
    (pick (all_covered (covered_bit t.offsets t.sizes) first count) (gives the_overlay)
    (pick (none_covered (covered_bit t.offsets t.sizes) first count) (gives the_released) (refuses 17 (One 0))))
    (refuses 16 (One 0)))
    (refuses 4 (One 0))

-- What `which` promises, and what `pick` does.
pub record Answers (t : Trial) (first count : ℕ) (source : Result Source Refusal) : Type 0 where
  pub answer : source ≡ source_of t first count
  pub figures : told_source source ≡ figures_of t first count

pub record Picks (t : Trial) (first count : ℕ) (part : List ℕ) : Type 0 where
  pub bytes : part ≡ bytes_of t first count (source_of t first count)
