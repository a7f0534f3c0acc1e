-- The build's answer, and what stands in everything lent afterwards (document 01).
use Rattle.std.specs.Prelude.{◌≡◌, ℕ, ◌*◌, min, Bool, List, ltb, ℤ, length, replicate, Result, Err, Ok}
use Rattle.prelude.specs.Limits.{max_banks}
use Rattle.prelude.specs.Pick.{pick}
use Rattle.prelude.specs.Told.{Told, gives, refuses, told_refusal}
use Rattle.prelude.specs.declared.Place.TheVariants.{One}
use Rattle.prelude.specs.declared.Refusal.{Refusal}
use Rattle.prelude.specs.declared.Refusal.TheVariants.{TooShort}
use Rattle.bankdef.specs.Check.{banks_of}
use Rattle.bankdef.specs.Fill.{fill_by}
use Rattle.bankdef.specs.declared.Bankdefs.{Bankdefs}
use Rattle.iter.specs.Step.{no_lost}
use Rattle.iter.specs.declared.Lost.{Lost}
use Rattle.nodes.specs.Lists.{Lists, Row}
use Rattle.resolver.specs.Once.{Program}
use Rattle.resolver.specs.Passes.{program, row_of_pass}
use Rattle.resolver.specs.Layout.{layout_of}
use Rattle.resolver.specs.declared.Choices.{Choices}
use Rattle.build_visits.specs.Visits.{visits}
use Rattle.build_visits.specs.Items.{items_of, length_of, image_of}
use Rattle.build_write.specs.Blank.{blank_of}
use Rattle.build_plan.specs.Placing.{closes_default, Placed, holds, stops, placed_all}
use Rattle.build_plan.specs.Plan.{paddings_of}
use Rattle.build_visits.specs.Spans.{spans_of, over, addresses, words, sizes}
use Rattle.build_visits.specs.declared.Visit.{Visit}
use Rattle.output.specs.declared.Output.{Output}
use Rattle.output.specs.declared.Built.{Built}
use Rattle.output.specs.Built.{done_with}

-- ---- what is given, and what is lent

-- What a build is given: the banks, the lists, and what a caller chooses: the pass limit, the fill, and whether bank 0 may be used alone.
pub record Input : Type 0 where
  pub banks : Bankdefs
  pub lists : Lists
  pub choices : Choices

abbrev pub input : Bankdefs → Lists → Choices → Input
input banks l choices = record { banks = banks; lists = l; choices = choices }

-- What is lent: the image's bytes, and three lists for the spans.
pub record Lent : Type 0 where
  pub image : List ℕ
  pub addresses : List ℤ
  pub offsets : List ℕ
  pub sizes : List ℕ

abbrev pub lent : List ℕ → List ℤ → List ℕ → List ℕ → Lent
lent image addressed offsets sized = record { image = image; addresses = addressed; offsets = offsets; sizes = sized }

-- How much room that is: the image's bytes and the places for spans. Spans stand in three lists, and the shortest counts.
pub record Room : Type 0 where
  pub image : ℕ
  pub spans : ℕ

abbrev pub room_of : Lent → Room
room_of l = record { image = length l.image; spans = min (length l.addresses) (min (length l.offsets) (length l.sizes)) }

-- ---- padding

-- "each bank should carry the sum of bits lost to `align` and to label alignment in the last pass", and "everything that uses the distance passes both on"
-- (document 02, Ticket 2): an accepted build answers those sums, of banks 0 to 15, a refused one zeros
abbrev pub padding_by : List Lost → Result Built Refusal → List Lost
padding_by sums (Ok ended) = sums
padding_by sums (Err why) = replicate max_banks no_lost

-- a build's answer with the passes run, and each bank's padding where it is accepted
abbrev pub output_of : Program → Row → ℕ → Result Built Refusal → Output
output_of p row passes x = record { build = x; passes = passes; padding = padding_by (paddings_of p row) x }

abbrev pub refused_after : ℕ → Refusal → Output
refused_after passes why = record { build = Err why; passes = passes; padding = replicate max_banks no_lost }

-- ---- the answer

-- "14 comes last: image, then spans."
abbrev pub room_for : Room → ℕ → ℕ → ℕ → Result Built Refusal
room_for room k bits spans =
    pick (ltb (8 * room.image) bits) (Err (TooShort 0))
    (pick (ltb room.spans spans) (Err (TooShort 1))
    (done_with k bits spans))

abbrev pub placed_build : Room → ℕ → ℕ → ℕ → Placed → Result Built Refusal
placed_build room k bits spans (stops why) = Err why
placed_build room k bits spans (holds stored) = room_for room k bits spans

-- the build of a row: whether bank 0 is closed, the row's visits, the fill's length, the room, and pass K
abbrev pub build_row : Bool → List Visit → ℕ → Room → ℕ → Result Built Refusal
build_row closed vs fill room k =
    placed_build room k (length_of fill (items_of vs)) (length (spans_of vs)) (placed_all closed vs)

-- "The build uses the row of the last pass."
abbrev pub visits_of : Input → ℕ → List Visit
visits_of b passes = visits (program b.banks b.lists) (row_of_pass b.lists passes)

-- whether bank 0 is closed, by the banks there are and by the caller's choice
abbrev pub closed_of : Input → Bool
closed_of b = closes_default b.banks.len b.choices.closed

-- "Add a choice to the build: inherited fill .. or full fill" (document 02, Ticket 8): the fill's length, by the choice
abbrev pub fill_of : Input → ℕ
fill_of b = fill_by b.choices.fill (banks_of b.banks)

abbrev pub settled_build : Input → Room → ℕ → Result ℕ Refusal → Result Built Refusal
settled_build b room passes (Err why) = Err why
settled_build b room passes (Ok k) = build_row (closed_of b) (visits_of b passes) (fill_of b) room k

abbrev pub passes_of : Input → ℕ
passes_of b = (layout_of b.banks b.lists b.choices).passes

abbrev pub settled_of : Input → Result ℕ Refusal
settled_of b = (layout_of b.banks b.lists b.choices).settled

-- The answer: K, the passes run, the image's length and the number of spans, or one refusal, with the passes run; and each bank's padding.
unfoldable pub build_of : Input → Room → Output
build_of b room =
    output_of (program b.banks b.lists) (row_of_pass b.lists (passes_of b)) (passes_of b) (settled_build b room (passes_of b) (settled_of b))

-- ---- the answer in document 01's figures

pub record Figures : Type 0 where
  pub k : ℕ
  pub length : ℕ
  pub spans : ℕ

abbrev pub told_build : Result Built Refusal → Told Figures
told_build (Ok ended) = gives (record { k = ended.k; length = ended.length; spans = ended.spans })
told_build (Err why) = told_refusal why

-- "14: a lent output is too short: image 0, spans 1"
abbrev pub room_told : Room → ℕ → ℕ → ℕ → Told Figures
room_told room k bits spans =
    pick (ltb (8 * room.image) bits) (refuses 14 (One 0))
    (pick (ltb room.spans spans) (refuses 14 (One 1))
    (gives (record { k = k; length = bits; spans = spans })))

abbrev pub placed_told : Room → ℕ → ℕ → ℕ → Placed → Told Figures
placed_told room k bits spans (stops why) = told_refusal why
placed_told room k bits spans (holds stored) = room_told room k bits spans

abbrev pub settled_told : Input → Room → Result ℕ Refusal → Told Figures
settled_told b room (Err why) = told_refusal why
settled_told b room (Ok k) =
    placed_told room k (length_of (fill_of b) (items_of (visits_of b (passes_of b)))) (length (spans_of (visits_of b (passes_of b))))
    (placed_all (closed_of b) (visits_of b (passes_of b)))

-- ---- what is lent afterwards

-- What an accepted build leaves: the items' bits over a blank image; the spans, and the lists' "old contents past what was written".
abbrev pub filled : List ℕ → List Visit → List ℕ → Lent → Lent
filled blank vs values old =
    record {
      image = image_of values blank (items_of vs);
      addresses = over (addresses (spans_of vs)) old.addresses;
      offsets = over (words (spans_of vs)) old.offsets;
      sizes = over (sizes (spans_of vs)) old.sizes;
    }

-- "Each refusal .. changes nothing lent."
abbrev pub left_by : Bankdefs → List Visit → List ℕ → Lent → Result Built Refusal → Lent
left_by banks vs values old (Ok ended) = filled (blank_of (banks_of banks) ended.length (length old.image)) vs values old
left_by banks vs values old (Err why) = old

-- ---- the contract

-- The public build's statement: the answer, as it is and in figures, and everything lent afterwards.
pub record Builds (b : Input) (old : Lent) (r : Output) (new : Lent) : Type 0 where
  pub answer : r ≡ build_of b (room_of old)
  pub figures : told_build r.build ≡ settled_told b (room_of old) (settled_of b)
  pub left : new ≡ left_by b.banks (visits_of b r.passes) b.lists.values old r.build
