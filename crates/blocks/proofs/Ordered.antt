-- The numbers in the order of their words stand for the spans taken by offset, but for those without, which are passed over.
use Rattle.std.specs.Prelude.{Some}
use mathlib.Core.Path.{◌≡◌, refl, sym, ap, fun_ext, ◌∙◌}
use mathlib.Core.Bool.{true}
use mathlib.Core.List.{List, [], ◌∷◌, ◌++◌, map, tail}
use mathlib.Core.Logic.{⊎_elim}
use Prim.Native.Nat.{ℕ, suc, ◌≤◌, ◌<◌}
use native.Mathlib.Nat.{suc-ne-zero, suc_inj}
use native.Mathlib.Omega.{arith}
use borrow.Author.Tests.{le-leb, lt-leb}
use lib.Dec.{leb}
use lib.ListN.{length, get_or, take, drop, drop_of_length-le}
use lib.Seq.{drop-cons, take_at, length-take-le}
use Rattle.prelude.specs.Limits.{max_nodes}
use Rattle.prelude.specs.Laws.Pick.{pick_true}
use Rattle.prelude.specs.Verdict.{Verdict}
use Rattle.sort.specs.Laws.Agree.{all-at}
use Rattle.sort.proofs.Agree.{sorted-map}
use Rattle.sort.specs.Numbers.{numbers_from, numbers_of, key_at, order}
use Rattle.sort.proofs.OrderFacts.{order-length, order_below}
use Rattle.sort.specs.Outcome as sorting
use Rattle.sort.specs.Laws.Outcome as sorting-laws
use Rattle.sort.specs.Sorted.{sorted_by}
use Rattle.sort.specs.Laws.Sorted.{le-or-lt}
use Rattle.blocks.specs.Laws.Acceptable.{each_within}
use Rattle.blocks.specs.Numbered.{span_at, numbered_blocks, Walkable}
use Rattle.blocks.specs.Offsets.{word_of}
use Rattle.blocks.specs.Laws.Offsets.{word-of-offset}
use Rattle.blocks.specs.Laws.Passed.{same_blocks}
use Rattle.blocks.specs.Spans.{Span, spans_of, all_within, rank_of}
use Rattle.blocks.specs.Walk.{block, blocks_from, blocks_of}

-- The element at a place, and what stands behind it.
module _ (x : List ℕ) (i y : ℕ) (t : List ℕ) (e : drop i x ≡ y ∷ t) where
  inside : i < length x
  inside = ⊎_elim (λ le. absurd (suc-ne-zero (length t) (ap length (sym e ∙ drop_of_length-le x le)))) (λ lt. lt) (le-or-lt (length x) i)

  cut : get_or x i 0 ∷ drop (suc i) x ≡ y ∷ t
  cut = sym (drop-cons x i 0 inside) ∙ e

  first-of : get_or x i 0 ≡ y
  first-of = ap (λ (m : List ℕ). get_or m 0 0) cut

  rest_of : drop (suc i) x ≡ t
  rest_of = ap tail cut

-- A span's rank by its word: none comes last.
abbrev word_rank : Span → ℕ
word_rank s = word_of s.offset

-- By its word or by its offset's rank, a span with an offset comes before the same ones.
alike : (s b : Span) (o p : ℕ) → s.offset ≡ Some o → b.offset ≡ Some p → leb (word_rank s) (word_rank b) ≡ leb (rank_of s) (rank_of b)
alike s b o p e f = rw (e, f) (⊎_elim
    (λ le. le-leb o p le ∙ sym (le-leb (suc o) (suc p) (omega arith)))
    (λ lt. lt-leb o p lt ∙ sym (lt-leb (suc o) (suc p) (omega arith)))
    (le-or-lt o p))

module _ (words sizes : List ℕ) where
  -- The numbers from i on stand for the spans from there on.
  spans-from : (l s : List ℕ) (i : ℕ) → drop i words ≡ l → drop i sizes ≡ s → length l ≡ length s
      → map (span_at words sizes) (numbers_from i (length l)) ≡ spans_of l s
  unfolding numbers_from spans_of
  spans-from [] s i e d h = refl
  spans-from (w ∷ l) [] i e d h = absurd (suc-ne-zero (length l) h)
  spans-from (w ∷ l) (z ∷ s) i e d h =
      rw (first-of words i w l e, first-of sizes i z s d, spans-from l s (suc i) (rest_of words i w l e) (rest_of sizes i z s d) (suc_inj h))

  by_word : key_at words ≡ λ i. word_rank (span_at words sizes i)
  by_word = fun_ext (λ i. sym (word-of-offset (get_or words i 0)))

  module _ (paired : length words ≡ length sizes) where
    taken : map (span_at words sizes) (order words) ≡ sorted_by word_rank (spans_of words sizes)
    taken =
        ap (λ (r : ℕ → ℕ). map (span_at words sizes) (sorted_by r (numbers_of (length words)))) by_word
        ∙ sorted-map (span_at words sizes) word_rank (numbers_of (length words))
        ∙ ap (sorted_by word_rank) (spans-from words sizes 0 refl refl paired)

    -- The blocks of the spans in the order of their numbers are the blocks of the spans.
    pub blocks-in-order : numbered_blocks words sizes (order words) ≡ blocks_of (spans_of words sizes)
    blocks-in-order = ap (blocks_from (block 0 0)) taken ∙ same_blocks word_rank rank_of alike (block 0 0) (spans_of words sizes)

    pub order-walkable : length words ≤ max_nodes → all_within (spans_of words sizes) ≡ true → Walkable (order words) words sizes
    order-walkable few e = record {
      few = rw (order-length words) few;
      paired = paired;
      placed = all-at (λ b. b < length words) (order words) (order_below words);
      limited = each_within words sizes paired e;
    }

-- What `sort` makes of the front of the room, and that it is the front afterwards.
module _ (words room after : List ℕ) (r : Verdict) (fits : length words ≤ length room) (few : length words ≤ max_nodes)
    (sorted : sorting.Contract words (take (length words) room) r after) where
  pub sorted_front : after ≡ order words
  sorted_front =
      sorted.kept
      ∙ pick_true (order words) (take (length words) room)
      (sorting-laws.is-sortable words (take (length words) room) (sym (length-take-le (length words) room fits)) few)

  pub front-is : take (length words) (after ++ drop (length words) room) ≡ order words
  front-is = take_at after (drop (length words) room) (length words) (ap length sorted_front ∙ order-length words) ∙ sorted_front
