-- Theorems about what RangeFacts defines.
use Rattle.std.specs.Prelude.{◌≡◌, refl, Bool, true, false, ◌↔◌, ℕ, ◌+◌, ◌*◌, length, Err, Ok}
use Rattle.std.proofs.Common.{sym, ◌∙◌, arith}
use borrow.Author.Tests.{lt-ltb, le-leb}
use Rattle.prelude.specs.Laws.Bools.{unlike}
use Rattle.prelude.specs.Pick.{pick}
use Rattle.prelude.specs.declared.Refusal.TheVariants.{PartlyCovered}
use Rattle.overlay.specs.declared.Source.TheVariants.{Overlay, Released}
use Rattle.overlay.specs.Cover.{covered_bit, all_covered, none_covered}
use Rattle.overlay.specs.Laws.CoverFacts.{either, clash}
use Rattle.overlay.specs.Theorems.CoverFacts.{all-holds, all_from, byte-holds, byte-from, none-holds, none_from}
use Rattle.overlay.specs.Order.{in_order, Acceptable}
use Rattle.overlay.specs.Theorems.Order.{in-order-exactly}
use Rattle.overlay.specs.Range.{inside, Inside, judged, source_of}
use Rattle.overlay.specs.Trial.{Trial}
use Rattle.overlay.specs.RangeFacts.{AllCovered, NoneCovered}

module _ (t : Trial) (first count : ℕ) where
  abbrev bit : ℕ → Bool
  bit = covered_bit t.offsets t.sizes

  abbrev Within : Type 0
  Within = Inside (length t.overlay) (length t.released) first count

  inside-from : Within → inside (length t.overlay) (length t.released) first count ≡ true
  unfolding inside
  inside-from i =
      rw (lt-ltb 0 count i.some, le-leb (first + count) (length t.overlay) i.overlaid, le-leb (first + count) (length t.released) i.issued)

  all-means : all_covered bit first count ≡ true → AllCovered t first count
  all-means e b l u = byte-holds bit b (all-holds bit first count e b l u)

  means-all : AllCovered t first count → all_covered bit first count ≡ true
  means-all h = all_from bit first count (λ b l u. byte-from bit b (h b l u))

  none-means : none_covered bit first count ≡ true → NoneCovered t first count
  none-means e k l u c = clash c (none-holds bit first count e k l u)

  means-none : NoneCovered t first count → none_covered bit first count ≡ true
  means-none h = none_from bit first count (λ k l u. either (bit k) (λ c. absurd (h k l u c)) (λ c. c))

  -- After 4:
  module _ (ok : Acceptable t.offsets t.sizes) where
    order : in_order 0 t.offsets t.sizes ≡ true
    order = (in-order-exactly t.offsets t.sizes).1 ok

    -- After 4 and 16:
    module _ (range : Within) where
      is-judged : source_of t first count ≡ judged (covered_bit t.offsets t.sizes) first count
      unfolding source_of
      is-judged = rw (order, inside-from range)

      -- a range is not both covered and free
      not-both : AllCovered t first count → NoneCovered t first count → ⊥
      not-both a n =
          let some = range.some in
          n (8 * first) (omega arith) (omega arith) (a first (omega arith) (omega arith) (8 * first) (omega arith) (omega arith))

      -- "If every byte of the range is covered by overlay blocks .. that part of the overlay": exactly then.
      pub overlay-exactly : (source_of t first count ≡ (Ok Overlay)) ↔ AllCovered t first count
      overlay-exactly = (
        (λ e. all-means (whole (all_covered bit first count) (none_covered bit first count) (sym is-judged ∙ e))),
        (λ h. is-judged ∙ rw (means-all h)),
      )
        where
          whole : (a n : Bool) → pick a (Ok Overlay) (pick n (Ok Released) (Err PartlyCovered)) ≡ (Ok Overlay) → a ≡ true
          whole true n e = refl
          whole false true e = unlike cc
          whole false false e = unlike cc

      -- "if no bit of it is, that part of the released image": exactly then.
      pub released-exactly : (source_of t first count ≡ (Ok Released)) ↔ NoneCovered t first count
      released-exactly = (
        (λ e. none-means (free (all_covered bit first count) (none_covered bit first count) (sym is-judged ∙ e))),
        (λ h. is-judged ∙ either (all_covered bit first count) (λ a. absurd (not-both (all-means a) h)) (λ a. rw (a, means-none h))),
      )
        where
          free : (a n : Bool) → pick a (Ok Overlay) (pick n (Ok Released) (Err PartlyCovered)) ≡ (Ok Released) → n ≡ true
          free true n e = unlike cc
          free false true e = refl
          free false false e = unlike cc
