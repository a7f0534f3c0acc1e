-- When a call of `get_blocks` is refused, and what it leaves: in document 01's words, of every outcome that meets its contract.
use Rattle.std.specs.Prelude.{◌≡◌, Bool, true, false, List, ◌⊎◌, ◌↔◌, ℕ, ◌≤◌, ◌<◌, leb, length, get_or, Result}
use Rattle.std.proofs.Common.{sym, ◌∙◌, inl, inr, ⊎_elim, arith, le-leb, leb-true, leb-false}
use Rattle.std.proofs.lemmas.Bool.{lt-leb}
use Rattle.std.proofs.lemmas.List.{length-map}
use Rattle.prelude.specs.declared.Place.{Place}
use Rattle.prelude.specs.declared.Place.TheVariants.{One}
use Rattle.prelude.specs.Laws.Bools.{either, clash}
use Rattle.prelude.specs.Told.{gives, refuses}
use Rattle.prelude.specs.declared.Refusal.{Refusal}
use Rattle.sort.specs.Laws.Sorted.{le-or-lt}
use Rattle.blocks.specs.declared.Block.{Block}
use Rattle.blocks.specs.Acceptable.{WellLent}
use Rattle.blocks.specs.Theorems.Acceptable.{acceptable-exactly}
use Rattle.blocks.specs.Outcome.{origins, sizes, over, room_for, ToldBy, Contract}
use Rattle.blocks.specs.Spans.{spans_of, acceptable}
use Rattle.blocks.specs.Walk.{block, blocks_of}
use Rattle.blocks.specs.Laws.Exactly.{given, is-14, is-4, over-length, column-front, column-rest, unwritten}

module _ (blocks : List Block) (os ss : List ℕ) where
  -- Room for the blocks is room in both lists.
  pub room-exactly : (room_for blocks os ss ≡ true) ↔ ((length blocks ≤ length os) × (length blocks ≤ length ss))
  room-exactly = (
    λ e. either (leb (length blocks) (length os))
        (λ t. (leb-true (length blocks) (length os) t, leb-true (length blocks) (length ss) (rw t at e)))
        (λ f. absurd (clash e (rw f))),
    λ h. rw (le-leb (length blocks) (length os) h.0, le-leb (length blocks) (length ss) h.1),
  )

  pub no-room-exactly : (room_for blocks os ss ≡ false) ↔ ((length os < length blocks) ⊎ (length ss < length blocks))
  no-room-exactly = (
    λ e. either (leb (length blocks) (length os))
        (λ t. inr (leb-false (length blocks) (length ss) (rw t at e)))
        (λ f. inl (leb-false (length blocks) (length os) f)),
    λ h. ⊎_elim
        (λ o. rw (lt-leb (length blocks) (length os) o))
        (λ s. ⊎_elim
        (λ le. rw (le-leb (length blocks) (length os) le, lt-leb (length blocks) (length ss) s))
        (λ lt. rw (lt-leb (length blocks) (length os) lt))
        (le-or-lt (length blocks) (length os)))
        h,
  )

module _ (words lengths os ss : List ℕ) (r : Result ℕ Refusal) (os₁ ss₁ : List ℕ) (c : Contract words lengths os ss r os₁ ss₁) where
  abbrev made : List Block
  made = blocks_of (spans_of words lengths)

  abbrev good : Bool
  good = acceptable words lengths

  abbrev room : Bool
  room = room_for made os ss

  -- "Block and hex calls try 4 (over 4,096 spans, a span past an offer's limits, ..)": exactly when the spans are not lent as they should be.
  pub refused-4-exactly : (ToldBy r ≡ refuses 4 (One 0)) ↔ (WellLent words lengths → ⊥)
  refused-4-exactly = (
    λ e w. clash ((acceptable-exactly words lengths).1 w) (is-4 good room (length made) (sym c.figures ∙ e)),
    λ n. either good (λ t. absurd (n ((acceptable-exactly words lengths).0 t))) (λ f. c.figures ∙ rw f),
  )

  -- "then 14": exactly when they are, and one of the two lists has fewer places than there are blocks.
  pub refused-14-exactly : (ToldBy r ≡ refuses 14 (One 2)) ↔ (WellLent words lengths × ((length os < length made) ⊎ (length ss < length made)))
  refused-14-exactly = (
    λ e.
        let p = is-14 good room (length made) (sym c.figures ∙ e) in
        ((acceptable-exactly words lengths).0 p.0, (no-room-exactly made os ss).0 p.1),
    λ h. c.figures ∙ rw ((acceptable-exactly words lengths).1 h.0, (no-room-exactly made os ss).1 h.1),
  )

  -- Accepted exactly when there is room for all blocks in both; and all are counted.
  pub found-exactly : (ToldBy r ≡ gives (length made)) ↔ (WellLent words lengths × (length made ≤ length os) × (length made ≤ length ss))
  found-exactly = (
    λ e.
        let p = given good room (length made) (length made) (sym c.figures ∙ e) in
        let q = (room-exactly made os ss).0 p.1 in
        ((acceptable-exactly words lengths).0 p.0, q.0, q.1),
    λ h. c.figures ∙ rw ((acceptable-exactly words lengths).1 h.0, (room-exactly made os ss).1 (h.1, h.2)),
  )

  -- "Each refusal .. changes nothing lent."
  pub refused-keeps : (k : ℕ) (p : Place) → ToldBy r ≡ refuses k p → (os₁ ≡ os) × (ss₁ ≡ ss)
  refused-keeps k p e =
      let f = sym c.figures ∙ e in (
        c.first ∙ unwritten good room (length made) k p (over (origins made) os) os f,
        c.second ∙ unwritten good room (length made) k p (over (sizes made) ss) ss f,
      )

  module _ (n : ℕ) (found : ToldBy r ≡ gives n) where
    tests : (good ≡ true) × (room ≡ true) × (n ≡ length made)
    tests = given good room n (length made) (sym c.figures ∙ found)

    os-is : os₁ ≡ over (origins made) os
    os-is = c.first ∙ rw (tests.0, tests.1)

    ss-is : ss₁ ≡ over (sizes made) ss
    ss-is = c.second ∙ rw (tests.0, tests.1)

    os-fits : length (origins made) ≤ length os
    os-fits = rw length-map ((room-exactly made os ss).0 tests.1).0

    ss-fits : length (sizes made) ≤ length ss
    ss-fits = rw length-map ((room-exactly made os ss).0 tests.1).1

    -- The lists begin with the blocks, in their order,
    pub found-written : (i : ℕ) → i < n → (get_or os₁ i 0 ≡ (get_or made i (block 0 0)).origin) × (get_or ss₁ i 0 ≡ (get_or made i (block 0 0)).size)
    found-written i h = (
      rw os-is (column-front (λ b. b.origin) made os i (omega (arith, tests.2))),
      rw ss-is (column-front (λ b. b.size) made ss i (omega (arith, tests.2))),
    )

    -- "After success, lent spans, blocks and hex keep their old contents past what was written."
    pub past-written-kept : (i : ℕ) → n ≤ i → (get_or os₁ i 0 ≡ get_or os i 0) × (get_or ss₁ i 0 ≡ get_or ss i 0)
    past-written-kept i h = (
      rw os-is (column-rest (λ b. b.origin) made os i (omega (arith, tests.2))),
      rw ss-is (column-rest (λ b. b.size) made ss i (omega (arith, tests.2))),
    )

    pub lengths-kept : (length os₁ ≡ length os) × (length ss₁ ≡ length ss)
    lengths-kept = (rw os-is (over-length (origins made) os os-fits), rw ss-is (over-length (sizes made) ss ss-fits))
