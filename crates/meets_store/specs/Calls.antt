-- Calls of `dk_offer` one after another, by its sentences: each call's arrays and counts are handed to the next. What the theorems over them speak of.
use Rattle.std.specs.Prelude.{◌≡◌, ℕ, ◌≤◌, ◌<◌}
use mathlib.Core.List.{List, [], ◌∷◌, Memᴰ}
use Rattle.overlap_checker.specs.declared.Entry.{Entry}
use Rattle.meets_sentences.specs.InTurn.{Item}
use Rattle.says.specs.Words.{Not}
use Rattle.says.specs.Store.{Store, Arrays, Outcome, Covers, Inside, OfferSays}
use Rattle.says.specs.Offers.{handed}

-- "a store without intervals or marks": counts of 0, whatever the arrays hold
pub record Empty (s : Store) : Type 0 where
  pub arrays : Arrays s
  pub count : s.count ≡ 0
  pub mark_count : s.mark_count ≡ 0

-- "within the limits": "position to 8,589,934,590, size to 4,294,967,295"
abbrev pub Within : Entry → Type 0
Within e = (e.position ≤ 8589934590) × (e.size ≤ 4294967295)

abbrev pub AllWithin : List Entry → Type 0
AllWithin es = (e : Entry) → Memᴰ e es → Within e

-- From a store, some offers in turn, of which those in the second list were accepted, to the store that they leave.
pub data Calls : Store → List Entry → List Entry → Store → Type 0 where
  none : {s : Store} → Calls s [] [] s
  accepts : {s t : Store} {e : Entry} {es accepted : List Entry} {y : Outcome} → OfferSays s e y → y.answer.refusal ≡ 0
      → Calls (handed y) es accepted t → Calls s (e ∷ es) (e ∷ accepted) t
  refuses : {s t : Store} {e : Entry} {es accepted : List Entry} {y : Outcome} → OfferSays s e y → Not (y.answer.refusal ≡ 0)
      → Calls (handed y) es accepted t → Calls s (e ∷ es) accepted t

-- some bit belongs both to an offer and to one of a list
abbrev pub SharesBit : Entry → List Entry → Type 0
SharesBit e l = (f : Entry) × (bit : ℕ) × Memᴰ f l × Covers e.position e.size bit × Covers f.position f.size bit

-- a mark of the list is strictly inside an offer
abbrev pub HasMarkInside : Entry → List Entry → Type 0
HasMarkInside e l = (f : Entry) × Memᴰ f l × (f.size ≡ 0) × Inside e.position e.size f.position

-- a position is strictly inside one of the list
abbrev pub InsideOne : ℕ → List Entry → Type 0
InsideOne m l = (f : Entry) × Memᴰ f l × Inside f.position f.size m

-- those of a list with bits, and the positions of those without
pub data Apart : List Entry → List Entry → List ℕ → Type 0 where
  none : Apart [] [] []
  block : {e : Entry} {l blocks : List Entry} {marks : List ℕ} → 0 < e.size → Apart l blocks marks → Apart (e ∷ l) (e ∷ blocks) marks
  mark : {e : Entry} {l blocks : List Entry} {marks : List ℕ} → e.size ≡ 0 → Apart l blocks marks → Apart (e ∷ l) blocks (e.position ∷ marks)

-- an item's offer: its position and its size
abbrev pub offer_of : Item → Entry
offer_of it = record { position = it.position; size = it.size }
