-- What `dk_offers` says: a list of offers to one store, over what `dk_offer` says of one (Store), as docs/DECISIONS.md has it. All are kept, or none is and
-- nothing that is lent changes. Offers are counted from 0.
use Rattle.std.specs.Prelude.{◌≡◌, List, ℕ, suc, ◌<◌, length, get_or}
use Rattle.overlap_checker.specs.declared.Entry.{Entry}
use Rattle.c_answers.specs.declared.DkOffered.{DkOffered}
use Rattle.says.specs.Words.{Tries, First, Not}
use Rattle.says.specs.Store.{Store, Outcome, TooMany, BadEntry, BadMark, OfferSays}

-- What a call of `dk_offer` leaves, as the next one is given it.
abbrev pub handed : Outcome → Store
handed y = record { positions = y.positions; sizes = y.sizes; count = y.answer.count; marks = y.marks; mark_count = y.answer.marks }

-- ---- what the whole call gives: its answer (that of `dk_offer`, and the number of the offer that it is about), and the three arrays afterwards
pub record Result : Type 0 where
  pub answer : DkOffered
  pub positions : List ℕ
  pub sizes : List ℕ
  pub marks : List ℕ

-- a store, and the positions and sizes of the offers
module _ (s : Store) (starts lengths : List ℕ) where
  abbrev pub offer : ℕ → Entry
  offer n = record { position = get_or starts n 0; size = get_or lengths n 0 }

  -- The first n offers by `dk_offer`, one call after the other, all accepted: the store that they leave.
  pub data Kept : ℕ → Store → Type 0 where
    none : Kept 0 s
    one_more : {n : ℕ} {t : Store} {y : Outcome} → Kept n t → OfferSays t (offer n) y → y.answer.refusal ≡ 0 → Kept (suc n) (handed y)

  -- "Each refusal returns its number and a place and changes nothing lent. A returned state is the state given."
  abbrev pub turned : (number place second offer : ℕ) → Result
  turned number place second n = record {
    answer = record { refusal = number; place = place; second = second; count = s.count; marks = s.mark_count; offer = n };
    positions = s.positions;
    sizes = s.sizes;
    marks = s.marks;
  }

  -- 4: "the list .. is malformed": one list is shorter, and offer n is the first that lacks a position or a size
  pub data Lacking : ℕ → Type 0 where
    a-size : length lengths < length starts → Lacking (length lengths)
    a-position : length starts < length lengths → Lacking (length starts)

  -- All are accepted: the store that so many calls leave. One is refused, those before it were not: its own answer, with its number.
  pub data Goes : Result → Type 0 where
    all-kept : {t : Store} → Kept (length starts) t → Goes (record {
      answer = record { refusal = 0; place = 0; second = 0; count = t.count; marks = t.mark_count; offer = length starts };
      positions = t.positions;
      sizes = t.sizes;
      marks = t.marks;
    })
    one-refused : {n : ℕ} {t : Store} {y : Outcome} → n < length starts → Kept n t → OfferSays t (offer n) y → Not (y.answer.refusal ≡ 0)
        → Goes (turned y.answer.refusal y.answer.place y.answer.second n)

  -- "A store call tries 15, 4, 12, 13": 15 once, of the store that is given, offer 0; then the lists; then each offer as `dk_offer` does.
  abbrev pub OffersSay : Result → Type 0
  OffersSay =
      Tries (λ (_ : Unit {0}). TooMany s) (λ _. turned 15 512 0 0)
      (Tries (First (BadEntry s)) (λ i. turned 15 i 0 0)
      (Tries (First (BadMark s)) (λ i. turned 15 i 0 0)
      (Tries Lacking (λ n. turned 4 0 0 n)
      Goes)))
