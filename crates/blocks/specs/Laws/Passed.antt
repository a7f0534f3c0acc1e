-- Laws that Theorems/Passed rests on.
use Rattle.std.specs.Prelude.{◌≡◌, ℕ, ◌<◌, Some, Option, None}
use Rattle.std.proofs.Math.Path.{refl, sym, ap}
use Rattle.std.proofs.Common.{◌∙◌}
use mathlib.Core.List.{List, [], ◌∷◌, ◌++◌}
use Rattle.std.proofs.Math.Logic.{⊎_elim}
use Rattle.std.proofs.Math.Dec.{leb}
use Rattle.sort.specs.Agree.{All}
use Rattle.sort.proofs.Agree.{insert-least, insert-agrees}
use Rattle.sort.specs.Theorems.Order.{NoneBelow, Ascending, none-below-less}
use Rattle.sort.proofs.Order.{sorted-ascends}
use Rattle.sort.specs.Sorted.{insert_by, sorted_by}
use Rattle.sort.proofs.Sorted.{insert-before, insert-after}
use Rattle.sort.specs.Laws.Sorted.{le-or-lt}
use Rattle.blocks.specs.declared.Block.{Block}
use Rattle.blocks.specs.Spans.{Span}
use Rattle.blocks.specs.Walk.{closed, joined, blocks_from}
use Rattle.blocks.specs.Passed.{keep_at, placed}

is-kept : (s : Span) (o : ℕ) → s.offset ≡ Some o → (l : List Span) → keep_at s.offset s l ≡ s ∷ l
is-kept s o e l = rw e

pub walk-passes : (b : Block) (l : List Span) → blocks_from b l ≡ blocks_from b (placed l)
unfolding blocks_from
walk-passes b [] = refl
walk-passes b (s ∷ l) = go s.offset refl (λ c. walk-passes c l)
  where
    go : (o : Option ℕ) → s.offset ≡ o → ((c : Block) → blocks_from c l ≡ blocks_from c (placed l))
        → closed b o ++ blocks_from (joined b o s.size) l ≡ blocks_from b (keep_at o s (placed l))
    go None e ih = ih b
    go (Some p) e ih = rw (e, ih (joined b (Some p) s.size))

all_placed : (P : Span → Type 0) → ((s : Span) (o : ℕ) → s.offset ≡ Some o → P s) → (l : List Span) → All P (placed l)
all_placed P f [] = tt
all_placed P f (s ∷ l) = go s.offset refl (all_placed P f l)
  where
    go : (o : Option ℕ) → s.offset ≡ o → All P (placed l) → All P (keep_at o s (placed l))
    go None e h = h
    go (Some o) e h = (f s o e, h)

module _ (rank : Span → ℕ) where
  none-below-placed : (r : ℕ) (l : List Span) → NoneBelow rank r l → NoneBelow rank r (placed l)
  none-below-placed r [] h = tt
  none-below-placed r (s ∷ l) h = go s.offset (none-below-placed r l h.1)
    where
      go : (o : Option ℕ) → NoneBelow rank r (placed l) → NoneBelow rank r (keep_at o s (placed l))
      go None n = n
      go (Some o) n = (h.0, n)

  insert-passed : (s : Span) → s.offset ≡ None → (l : List Span) → placed (insert_by rank s l) ≡ placed l
  unfolding insert_by
  insert-passed s e [] = rw e
  insert-passed s e (b ∷ l) = ⊎_elim
      (λ le. rw (insert-before rank s b l le, e))
      (λ lt. rw (insert-after rank s b l lt, insert-passed s e l))
      (le-or-lt (rank s) (rank b))

  -- an element goes past a span that ranks below it
  goes-past : (s b : Span) (l : List Span) → rank b < rank s → (o : Option ℕ) → keep_at o b (insert_by rank s l) ≡ insert_by rank s (keep_at o b l)
  goes-past s b l lt None = refl
  goes-past s b l lt (Some o) = sym (insert-after rank s b l lt)

  insert-placed : (s : Span) (o : ℕ) → s.offset ≡ Some o → (l : List Span) → Ascending rank l → placed (insert_by rank s l) ≡ insert_by rank s (placed l)
  unfolding insert_by
  insert-placed s o e [] h = rw e
  insert-placed s o e (b ∷ l) h = ⊎_elim
      (λ le.
      let n : NoneBelow rank (rank s) (b ∷ l) = (le, none-below-less rank (rank s) (rank b) l le h.0) in
      ap placed (insert-before rank s b l le) ∙ is-kept s o e (placed (b ∷ l))
      ∙ sym (insert-least rank s (placed (b ∷ l)) (none-below-placed (rank s) (b ∷ l) n)))
      (λ lt. rw (insert-after rank s b l lt, insert-placed s o e l h.1) (goes-past s b (placed l) lt b.offset))
      (le-or-lt (rank s) (rank b))

-- Two ranks that order spans with an offset alike take them in the same order.
module _ (rank other : Span → ℕ)
    (alike : (s b : Span) (o p : ℕ) → s.offset ≡ Some o → b.offset ≡ Some p → leb (rank s) (rank b) ≡ leb (other s) (other b)) where
  same-placed : (l : List Span) → placed (sorted_by rank l) ≡ placed (sorted_by other l)
  unfolding sorted_by
  same-placed [] = refl
  same-placed (s ∷ l) = go s.offset refl (same-placed l)
    where
      go : (o : Option ℕ) → s.offset ≡ o → placed (sorted_by rank l) ≡ placed (sorted_by other l)
          → placed (insert_by rank s (sorted_by rank l)) ≡ placed (insert_by other s (sorted_by other l))
      go None e ih = insert-passed rank s e (sorted_by rank l) ∙ ih ∙ sym (insert-passed other s e (sorted_by other l))
      go (Some o) e ih =
          insert-placed rank s o e (sorted_by rank l) (sorted-ascends rank l)
          ∙ ap (insert_by rank s) ih
          ∙ insert-agrees rank other s (placed (sorted_by other l))
          (all_placed (λ b. leb (rank s) (rank b) ≡ leb (other s) (other b)) (λ b p f. alike s b o p e f) (sorted_by other l))
          ∙ sym (insert-placed other s o e (sorted_by other l) (sorted-ascends other l))

  -- So they make the same blocks.
  pub same_blocks : (b : Block) (l : List Span) → blocks_from b (sorted_by rank l) ≡ blocks_from b (sorted_by other l)
  same_blocks b l = walk-passes b (sorted_by rank l) ∙ ap (blocks_from b) (same-placed l) ∙ sym (walk-passes b (sorted_by other l))
