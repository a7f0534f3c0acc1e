-- Where a walk stands after some spans: the blocks that the running one and the spans left still make, stored behind those that are
-- written, are the blocks of the whole walk.
use Rattle.std.specs.Prelude.{Some, None}
use mathlib.Core.Path.{◌≡◌, refl, sym, subst, ◌∙◌}
use mathlib.Core.Bool.{Bool, true, false}
use mathlib.Core.List.{List, [], ◌∷◌, ◌++◌, map, append-nil}
use Prim.Native.Nat.{ℕ, ◌+◌, ◌*◌, ◌≤◌, ◌<◌}
use native.Mathlib.Nat.{le_antisymm}
use native.Mathlib.Numerals.{add-one}
use native.Mathlib.Omega.{arith}
use lib.Dec.{eqb}
use lib.ListN.{length, get_or, drop}
use lib.Seq.{drop-cons, drop-length}
use Rattle.prelude.specs.Limits.{max_offer, max_position}
use Rattle.prelude.specs.Pick.{pick}
use Rattle.blocks.specs.declared.Block.{Block}
use Rattle.blocks.specs.Numbered.{span_at}
use Rattle.blocks.specs.Offsets.{offset_of}
use Rattle.blocks.specs.Put.{Put}
use Rattle.blocks.specs.Laws.Put.{Filling, filling-on, filling-ends}
use Rattle.blocks.specs.Spans.{Span}
use Rattle.blocks.specs.Walk.{block, end_of, kept, closed, joined, blocks_from}

closed-few : (b : Block) (o : ℕ) → length (closed b (Some o)) ≤ 1
closed-few b o = go (eqb o (end_of b)) (eqb b.size 0)
  where
    go : (p q : Bool) → length (pick p [] (pick q [] (b ∷ []))) ≤ 1
    go true q = omega arith
    go false true = omega arith
    go false false = omega arith

joined_small : (b : Block) (o size i : ℕ) → b.origin ≤ max_offer → b.size ≤ i * max_position → o ≤ max_offer → size ≤ max_position
    → ((joined b (Some o) size).origin ≤ max_offer) × ((joined b (Some o) size).size ≤ (i + 1) * max_position)
joined_small b o size i h k p q = go (eqb o (end_of b))
  where
    go : (t : Bool) → ((pick t (block b.origin (b.size + size)) (block o size)).origin ≤ max_offer)
        × ((pick t (block b.origin (b.size + size)) (block o size)).size ≤ (i + 1) * max_position)
    go true = (h, omega arith)
    go false = (p, omega arith)

-- the numbers, the spans, and what is lent for the blocks
module _ (numbers words lengths os₀ ss₀ : List ℕ) where
  abbrev left : ℕ → List Span
  left i = map (span_at words lengths) (drop i numbers)

  abbrev all : List Block
  all = blocks_from (block 0 0) (map (span_at words lengths) numbers)

  pub record Walking (b : Block) (count : ℕ) (os ss : List ℕ) (i : ℕ) : Type 0 where
    pub at : i ≤ length numbers
    pub few : count ≤ i
    pub origin : b.origin ≤ max_offer
    pub size : b.size ≤ i * max_position
    pub filling : Filling all (blocks_from b (left i)) 0 count os₀ ss₀ os ss

  module _ {b : Block} {count : ℕ} {os ss : List ℕ} {i : ℕ} (w : Walking b count os ss i) where
    module _ (more : i < length numbers) where
      -- the next span
      abbrev word : ℕ
      word = get_or words (get_or numbers i 0) 0

      abbrev length' : ℕ
      length' = get_or lengths (get_or numbers i 0) 0

      next : blocks_from b (left i) ≡ closed b (offset_of word) ++ blocks_from (joined b (offset_of word) length') (left (i + 1))
      unfolding blocks_from
      next = rw (drop-cons numbers i 0 more, add-one)

      pub walking-past : offset_of word ≡ None → Walking b count os ss (i + 1)
      walking-past e =
          let same : blocks_from b (left i) ≡ blocks_from b (left (i + 1)) = next ∙ rw e in
          record {
            at = omega arith;
            few = omega (arith, w.few);
            origin = w.origin;
            size = omega (arith, w.size);
            filling = subst (λ (l : List Block). Filling all l 0 count os₀ ss₀ os ss) same w.filling;
          }

      pub walking_on : (o : ℕ) → offset_of word ≡ Some o → o ≤ max_offer → length' ≤ max_position → {count' : ℕ} {os' ss' : List ℕ}
          → Put (closed b (Some o)) count os ss count' os' ss'
          → Walking (joined b (Some o) length') count' os' ss' (i + 1)
      walking_on o e h k p =
          let rest = blocks_from (joined b (Some o) length') (left (i + 1)) in
          let cut : blocks_from b (left i) ≡ closed b (Some o) ++ rest = next ∙ rw e in
          record {
            at = omega arith;
            few = omega (arith, w.few, p.counted, closed-few b o);
            origin = (joined_small b o length' i w.origin w.size h k).0;
            size = (joined_small b o length' i w.origin w.size h k).1;
            filling = filling-on (closed b (Some o)) rest cut w.filling p;
          }

    pub walking-ends : length numbers ≤ i → {count' : ℕ} {os' ss' : List ℕ} → Put (kept b) count os ss count' os' ss' → Put all 0 os₀ ss₀ count' os' ss'
    unfolding blocks_from
    walking-ends h p =
        let done : i ≡ length numbers = le_antisymm w.at h in
        let last : blocks_from b (left i) ≡ kept b ++ [] = rw (done, drop-length numbers) (sym (append-nil (kept b))) in
        filling-ends refl (filling-on (kept b) [] last w.filling p)
