-- What `dk_offer` says, from documents 01 and 02 in their own numerals: a store of intervals and marks, an offer to it, and what comes of it, the answer and
-- everything lent afterwards. Entries and marks are counted from 0. Where document 02 leaves room it is read as docs/DECISIONS.md says.
use Rattle.std.specs.Prelude.{◌≡◌, List, ◌⊎◌, ℕ, suc, ◌+◌, ◌≤◌, ◌<◌, length, get_or}
use Rattle.overlap_checker.specs.declared.Entry.{Entry}
use Rattle.c_answers.specs.declared.DkOffer.{DkOffer}
use Rattle.says.specs.Words.{Tries, First, Not}

-- ---- a store as it is lent: the first `count` of two arrays are the positions and sizes of the intervals, the first `mark_count` of a third the marks
pub record Store : Type 0 where
  pub positions : List ℕ
  pub sizes : List ℕ
  pub count : ℕ
  pub marks : List ℕ
  pub mark_count : ℕ

-- Its arrays are of the type `[u64; 512]`, whatever the counts.
pub record Arrays (s : Store) : Type 0 where
  pub positions : length s.positions ≡ 512
  pub sizes : length s.sizes ≡ 512
  pub marks : length s.marks ≡ 512

-- ---- what a call gives: its answer (number and place of a refusal or zeros, and the two counts), and the three arrays afterwards
pub record Outcome : Type 0 where
  pub answer : DkOffer
  pub positions : List ℕ
  pub sizes : List ℕ
  pub marks : List ℕ

-- a bit belongs to `size` bits from `position` on
abbrev pub Covers : (position size bit : ℕ) → Type 0
Covers position size bit = (position ≤ bit) × (bit < position + size)

-- a position lies strictly inside them
abbrev pub Inside : (position size mark : ℕ) → Type 0
Inside position size mark = (position < mark) × (mark < position + size)

-- A number put into the first `count` of an array: it stands at `place`, later ones one place up. "Entries past the count stay."
pub record Put (count place number : ℕ) (old new : List ℕ) : Type 0 where
  pub as_long : length new ≡ length old
  pub before : (i : ℕ) → i < place → get_or new i 0 ≡ get_or old i 0
  pub there : get_or new place 0 ≡ number
  pub later : (i : ℕ) → place ≤ i → i < count → get_or new (suc i) 0 ≡ get_or old i 0
  pub past : (i : ℕ) → count < i → get_or new i 0 ≡ get_or old i 0

-- "in ascending order": the place has the lower ones before it. (Among equal marks it is the first; they are equal, so it makes no difference.)
pub record InOrder (count number : ℕ) (old : List ℕ) (place : ℕ) : Type 0 where
  pub among : place ≤ count
  pub below : (i : ℕ) → i < place → get_or old i 0 < number
  pub above : (i : ℕ) → place ≤ i → i < count → number ≤ get_or old i 0

module _ (s : Store) where
  abbrev pub start : ℕ → ℕ
  start i = get_or s.positions i 0

  abbrev pub size : ℕ → ℕ
  size i = get_or s.sizes i 0

  abbrev pub mark : ℕ → ℕ
  mark i = get_or s.marks i 0

  -- 15: "a store is given with over 512 entries"; Ticket 10: "also for over 512 marks"
  abbrev pub TooMany : Type 0
  TooMany = (512 < s.count) ⊎ (512 < s.mark_count)

  -- "or entries past an offer's limits, empty, not ascending or sharing a bit": entry i
  pub data BadEntry (i : ℕ) : Type 0 where
    position_past : i < s.count → 8589934590 < start i → BadEntry i
    size-past : i < s.count → 4294967295 < size i → BadEntry i
    empty : i < s.count → size i ≡ 0 → BadEntry i
    not-ascending : {j : ℕ} → i < s.count → j < i → start i ≤ start j → BadEntry i
    shares-bit : {j bit : ℕ} → i < s.count → j < i → Covers (start i) (size i) bit → Covers (start j) (size j) bit → BadEntry i

  -- Ticket 10: "marks out of ascending order (equal ones are in order) or strictly inside an interval"; a mark past an offer's limit too
  pub data BadMark (i : ℕ) : Type 0 where
    mark-past : i < s.mark_count → 8589934590 < mark i → BadMark i
    out_of_order : {j : ℕ} → i < s.mark_count → j < i → mark i < mark j → BadMark i
    inside-interval : {j : ℕ} → i < s.mark_count → j < s.count → Inside (start j) (size j) (mark i) → BadMark i

  -- ---- with an offer
  module _ (e : Entry) where
    -- 4: ".. a call's number is malformed"; of an offer to the store "position to 8,589,934,590, size to 4,294,967,295" is accepted
    abbrev pub PastLimits : Type 0
    PastLimits = (8589934590 < e.position) ⊎ (4294967295 < e.size)

    -- The offer against interval i: "if it shares no bit"; "an offer of size 0 is refused exactly when its position is strictly inside a stored interval".
    pub data Clash (i : ℕ) : Type 0 where
      shared : {bit : ℕ} → i < s.count → Covers e.position e.size bit → Covers (start i) (size i) bit → Clash i
      inside : i < s.count → e.size ≡ 0 → Inside (start i) (size i) e.position → Clash i

    -- "A block is refused when a mark is strictly inside it": mark i
    abbrev pub Crossed : ℕ → Type 0
    Crossed i = (i < s.mark_count) × Inside e.position e.size (mark i)

    -- 12: "a placement overlaps"; Ticket 10: "12 also for that"
    pub data Overlaps : Type 0 where
      interval : {i : ℕ} → Clash i → Overlaps
      block-over : {i : ℕ} → Crossed i → Overlaps

    -- "12 the stored start and size": "the lowest stored start at or above the offer if those two share a bit, otherwise the one below"; Ticket 10:
    -- "naming the lowest such mark unless an interval is to be named", with size 0.
    pub data Names : (position size : ℕ) → Type 0 where
      at-or-above : {i : ℕ} → e.position ≤ start i → ((j : ℕ) → j < s.count → e.position ≤ start j → start i ≤ start j) → Clash i
          → Names (start i) (size i)
      one_below : {i : ℕ} → start i < e.position → ((j : ℕ) → j < s.count → start j < e.position → start j ≤ start i) → Clash i
          → ((j : ℕ) → e.position ≤ start j → Clash j → ⊥) → Names (start i) (size i)
      lowest-mark : {i : ℕ} → Crossed i → ((j : ℕ) → Crossed j → mark i ≤ mark j) → ((j : ℕ) → Clash j → ⊥) → Names (mark i) 0

    -- 13: "the store holds 512 and the offer, of nonzero size, shares no bit"; Ticket 10: "13 also when 512 marks are kept and another is acceptable"
    abbrev pub Full : Type 0
    Full = ((0 < e.size) × (s.count ≡ 512)) ⊎ ((e.size ≡ 0) × (s.mark_count ≡ 512))

    -- "Each refusal returns its number and a place and changes nothing lent. A returned state is the state given."
    abbrev pub refusal : (number place second : ℕ) → Outcome
    refusal number place second = record {
      answer = record { refusal = number; place = place; second = second; count = s.count; marks = s.mark_count };
      positions = s.positions;
      sizes = s.sizes;
      marks = s.marks;
    }

    abbrev pub accepted : (count marks : ℕ) (positions' sizes' marks' : List ℕ) → Outcome
    accepted count marks positions' sizes' marks' = record {
      answer = record { refusal = 0; place = 0; second = 0; count = count; marks = marks };
      positions = positions';
      sizes = sizes';
      marks = marks';
    }

    -- 12, then 13 (its place is 0); otherwise the offer is kept: "an offer of nonzero size is kept in ascending order", one of size 0 is a mark,
    -- "Remember marks .. apart from intervals".
    pub data Answers : Outcome → Type 0 where
      overlaps : {y n : ℕ} → Overlaps → Names y n → Answers (refusal 12 y n)
      full : Not Overlaps → Full → Answers (refusal 13 0 0)
      stored : {place : ℕ} {positions' sizes' : List ℕ} → Not Overlaps → Not Full → 0 < e.size
          → InOrder s.count e.position s.positions place
          → Put s.count place e.position s.positions positions' → Put s.count place e.size s.sizes sizes'
          → Answers (accepted (s.count + 1) s.mark_count positions' sizes' s.marks)
      marked : {place : ℕ} {marks' : List ℕ} → Not Overlaps → Not Full → e.size ≡ 0
          → InOrder s.mark_count e.position s.marks place → Put s.mark_count place e.position s.marks marks'
          → Answers (accepted s.count (s.mark_count + 1) s.positions s.sizes marks')

    -- "A store call tries 15, 4, 12, 13." "15 the first entry at fault, 512 for the count": either count, then the first interval at fault, then the
    -- first mark at fault; 4 has place 0.
    abbrev pub OfferSays : Outcome → Type 0
    OfferSays =
        Tries (λ (_ : Unit {0}). TooMany) (λ _. refusal 15 512 0)
        (Tries (First BadEntry) (λ i. refusal 15 i 0)
        (Tries (First BadMark) (λ i. refusal 15 i 0)
        (Tries (λ (_ : Unit {0}). PastLimits) (λ _. refusal 4 0 0)
        Answers)))
