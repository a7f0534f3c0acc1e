-- Theorems about what Exactly defines.
use Rattle.std.specs.Prelude.{◌≡◌, ℕ, zero, suc, ◌+◌, ◌/◌, ◌<◌, ◌≤◌, Bool, true, false, ◌&&◌, ◌↔◌, List, [], ◌∷◌, length, ◌==◌, nat_le, slice_index, slice_index_or, Ok, Err}
use Rattle.std.proofs.Math.Path.{refl}
use Rattle.std.proofs.Common.{not-suc-le-zero, le_of_suc-le-suc, suc-ne-zero}
use Rattle.std.proofs.Math.Nat.{suc_inj}
use native.Mathlib.Omega.{arith}
use borrow.Author.Tests.{leb-true, le-leb, eqb-true, eq-eqb}
use Rattle.prelude.specs.Laws.Bools.{both}
use Rattle.prelude.specs.Pick.{pick}
use Rattle.prelude.specs.declared.Refusal.TheVariants.{Malformed, TooShort, BadPart}
use Rattle.blocks.specs.declared.Block.{Block}
use Rattle.blocks.specs.Walk.{block, end_of}
use Rattle.record_write.specs.Checks.{all_parts, starts_behind, placed, all_placed}
use Rattle.record_write.specs.Cut.{blocks_in}
use Rattle.record_write.specs.Outcome.{told_written}
use Rattle.record_write.specs.Exactly.{AllParts, WellPlaced, answers, behind_last}
use Rattle.record_write.specs.Laws.Exactly.{each-parts, parts-each}

pub parts-exactly : (len : ℕ) (offsets sizes : List ℕ) → (all_parts len (blocks_in offsets sizes) ≡ true) ↔ AllParts len offsets sizes
parts-exactly len offsets sizes = (parts-each len offsets sizes, each-parts len offsets sizes)

module _ (load : ℕ) where
  -- one block and those behind it
  split : (b : Block) (l : List Block) → all_placed load (b ∷ l) ≡ true
      → (starts_behind (end_of b) l ≡ true) × (nat_le (load + b.origin / 8 + b.size / 8) 4294967296 ≡ true) × (all_placed load l ≡ true)
  unfolding all_placed
  split b l e =
      let (here, rest) = both (placed load b l) (all_placed load l) e in
      let (next, low) = both (starts_behind (end_of b) l) (nat_le (load + b.origin / 8 + b.size / 8) 4294967296) here in
      (next, low, rest)

  placed-low : (os ss : List ℕ) → length os ≡ length ss → all_placed load (blocks_in os ss) ≡ true → (k : ℕ) → k < length os
      → behind_last load os ss k ≤ 4294967296
  unfolding blocks_in
  placed-low [] ss n e k h = absurd (not-suc-le-zero h)
  placed-low (o ∷ os) [] n e k h = absurd (suc-ne-zero (length os) n)
  placed-low (o ∷ os) (s ∷ ss) n e zero h = leb-true (load + o / 8 + s / 8) 4294967296 (split (block o s) (blocks_in os ss) e).1
  placed-low (o ∷ os) (s ∷ ss) n e (suc k) h = placed-low os ss (suc_inj n) (split (block o s) (blocks_in os ss) e).2 k (le_of_suc-le-suc h)

  -- all blocks start behind where one before them ends
  behind-all : (end : ℕ) (os ss : List ℕ) → length os ≡ length ss → starts_behind end (blocks_in os ss) ≡ true → all_placed load (blocks_in os ss) ≡ true → (j : ℕ)
      → j < length os
      → end ≤ slice_index os j
  unfolding blocks_in
  behind-all end [] ss n b e j h = absurd (not-suc-le-zero h)
  behind-all end (o ∷ os) [] n b e j h = absurd (suc-ne-zero (length os) n)
  behind-all end (o ∷ os) (s ∷ ss) n b e zero h = leb-true end o b
  behind-all end (o ∷ os) (s ∷ ss) n b e (suc j) h =
      let first : end ≤ o = leb-true end o b in
      let q = split (block o s) (blocks_in os ss) e in
      let more : o + s ≤ slice_index_or os j 0 = behind-all (o + s) os ss (suc_inj n) q.0 q.2 j (le_of_suc-le-suc h) in
      omega arith

  placed-apart : (os ss : List ℕ) → length os ≡ length ss → all_placed load (blocks_in os ss) ≡ true → (i j : ℕ) → i < j → j < length os
      → slice_index os i + slice_index ss i ≤ slice_index os j
  unfolding blocks_in
  placed-apart [] ss n e i j lt h = absurd (not-suc-le-zero h)
  placed-apart (o ∷ os) [] n e i j lt h = absurd (suc-ne-zero (length os) n)
  placed-apart (o ∷ os) (s ∷ ss) n e i zero lt h = absurd (not-suc-le-zero lt)
  placed-apart (o ∷ os) (s ∷ ss) n e zero (suc j) lt h =
      let q = split (block o s) (blocks_in os ss) e in
      behind-all (o + s) os ss (suc_inj n) q.0 q.2 j (le_of_suc-le-suc h)
  placed-apart (o ∷ os) (s ∷ ss) n e (suc i) (suc j) lt h =
      placed-apart os ss (suc_inj n) (split (block o s) (blocks_in os ss) e).2 i j (le_of_suc-le-suc lt) (le_of_suc-le-suc h)

  next-behind : (end : ℕ) (os ss : List ℕ) → (0 < length os → end ≤ slice_index os 0) → starts_behind end (blocks_in os ss) ≡ true
  unfolding blocks_in
  next-behind end [] ss h = refl
  next-behind end (o ∷ os) [] h = refl
  next-behind end (o ∷ os) (s ∷ ss) h = le-leb end o (h (omega arith))

  apart-placed : (os ss : List ℕ) → ((i j : ℕ) → i < j → j < length os → slice_index os i + slice_index ss i ≤ slice_index os j)
      → ((k : ℕ) → k < length os → behind_last load os ss k ≤ 4294967296)
      → all_placed load (blocks_in os ss) ≡ true
  unfolding all_placed blocks_in
  apart-placed [] ss a l = refl
  apart-placed (o ∷ os) [] a l = refl
  apart-placed (o ∷ os) (s ∷ ss) a l =
      rw (
        next-behind (o + s) os ss (λ h. a 0 1 (omega arith) (omega arith)),
        le-leb (load + o / 8 + s / 8) 4294967296 (l 0 (omega arith)),
      )
      (apart-placed os ss (λ i j lt h. a (suc i) (suc j) (omega arith) (omega arith)) (λ k h. l (suc k) (omega arith)))

  pub placed-all : (offsets sizes : List ℕ) → WellPlaced load offsets sizes → all_placed load (blocks_in offsets sizes) ≡ true
  placed-all offsets sizes w = apart-placed offsets sizes w.apart w.low

  pub placed-exactly : (offsets sizes : List ℕ)
      → ((length offsets == length sizes && all_placed load (blocks_in offsets sizes)) ≡ true) ↔ WellPlaced load offsets sizes
  placed-exactly offsets sizes = (
    λ e.
        let (same, all) = both (length offsets == length sizes) (all_placed load (blocks_in offsets sizes)) e in
        let n = eqb-true (length offsets) (length sizes) same in
        record { paired = n; apart = placed-apart offsets sizes n all; low = placed-low offsets sizes n all },
    λ w. rw (eq-eqb (length offsets) (length sizes) w.paired) (placed-all offsets sizes w),
  )

-- What a call answers, in these figures.
pub told-answers : (a b c : Bool) (n : ℕ)
    → told_written (pick a (pick b (pick c (Ok n) (Err (TooShort 3))) (Err (Malformed 0))) (Err BadPart)) ≡ answers a b c n
told-answers true true true n = refl
told-answers true true false n = refl
told-answers true false c n = refl
told-answers false b c n = refl
