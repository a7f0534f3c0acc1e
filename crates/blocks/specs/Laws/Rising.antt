-- Laws that Theorems/Rising rests on.
use Rattle.std.specs.Prelude.{◌≡◌, refl, Bool, true, false, ℕ, suc, ◌+◌, ◌≤◌, ◌<◌, eqb, Option, None, Some}
use mathlib.Core.List.Memᴰ
use mathlib.Core.List.{List, [], ◌∷◌, ◌++◌, append-nil, Memᴰ}
use Rattle.std.proofs.Common.{⊎_elim, le_trans, le_refl, le_of_suc-le-suc, pos_of_ne-zero, arith}
use Rattle.std.proofs.lemmas.Bool.{eqb-false}
use Rattle.prelude.specs.Pick.{pick}
use Rattle.sort.specs.Theorems.Order.{NoneBelow, Ascending}
use Rattle.blocks.specs.declared.Block.{Block}
use Rattle.blocks.specs.Spans.{Span, rank, rank_of}
use Rattle.blocks.specs.Walk.{block, end_of, kept, closed, joined, blocks_from}
use Rattle.blocks.specs.Rising.{origin_of}

-- every offset among the spans is at least r
abbrev pub AheadOf : ℕ → Option ℕ → Type 0
AheadOf r None = Unit {0}
AheadOf r (Some o) = r ≤ o

abbrev pub Ahead : ℕ → List Span → Type 0
Ahead r [] = Unit {0}
Ahead r (s ∷ l) = AheadOf r s.offset × Ahead r l

ahead_of : (o : ℕ) (p : Option ℕ) → suc o ≤ rank p → AheadOf o p
ahead_of o None h = tt
ahead_of o (Some p) h = le_of_suc-le-suc h

ahead : (o : ℕ) (l : List Span) → NoneBelow rank_of (suc o) l → Ahead o l
ahead o [] h = tt
ahead o (s ∷ l) h = (ahead_of o s.offset h.0, ahead o l h.1)

ahead-zero-of : (p : Option ℕ) → AheadOf 0 p
ahead-zero-of None = tt
ahead-zero-of (Some p) = omega arith

pub ahead-zero : (l : List Span) → Ahead 0 l
ahead-zero [] = tt
ahead-zero (s ∷ l) = (ahead-zero-of s.offset, ahead-zero l)

ahead-joined : (b : Block) (o : Option ℕ) (size : ℕ) (l : List Span) → NoneBelow rank_of (rank o) l → Ahead b.origin l → Ahead (joined b o size).origin l
ahead-joined b None size l h k = k
ahead-joined b (Some o) size l h k = go (eqb o (end_of b))
  where
    go : (t : Bool) → Ahead (pick t (block b.origin (b.size + size)) (block o size)).origin l
    go true = k
    go false = ahead o l h

-- Blocks that ascend, none of which begins before the bit p.
abbrev pub From : ℕ → List Block → Type 0
From p blocks = ((r : ℕ) → r ≤ p → NoneBelow origin_of r blocks) × Ascending origin_of blocks

-- What a block keeps stands before blocks that begin no earlier.
from-kept : (b : Block) (p : ℕ) (blocks : List Block) → b.origin ≤ p → From p blocks → From b.origin (kept b ++ blocks)
from-kept b p blocks h f = go (eqb b.size 0)
  where
    go : (t : Bool) → From b.origin (pick t [] (b ∷ []) ++ blocks)
    go true = (λ r k. f.0 r (le_trans k h), f.1)
    go false = (λ r k. (k, f.0 r (le_trans k h)), (f.0 b.origin h, f.1))

from-closed : (b : Block) (o : Option ℕ) (size : ℕ) (blocks : List Block) → AheadOf b.origin o → From (joined b o size).origin blocks
    → From b.origin (closed b o ++ blocks)
from-closed b None size blocks h f = f
from-closed b (Some o) size blocks h f = go (eqb o (end_of b)) f
  where
    go : (t : Bool) → From (pick t (block b.origin (b.size + size)) (block o size)).origin blocks → From b.origin (pick t [] (kept b) ++ blocks)
    go true g = g
    go false g = from-kept b o blocks h g

pub rises : (b : Block) (l : List Span) → Ahead b.origin l → Ascending rank_of l → From b.origin (blocks_from b l)
unfolding blocks_from
rises b [] h a = rw (← (append-nil (kept b))) (from-kept b b.origin [] (le_refl b.origin) (λ r k. tt, tt))
rises b (s ∷ l) h a =
    from-closed b s.offset s.size (blocks_from (joined b s.offset s.size) l) h.0
    (rises (joined b s.offset s.size) l (ahead-joined b s.offset s.size l a.0 h.1) a.1)

-- a block that is kept is not empty
kept-some : (b : Block) (x : Block) → Memᴰ x (kept b) → 0 < x.size
kept-some b x = go (eqb b.size 0) refl
  where
    go : (t : Bool) → eqb b.size 0 ≡ t → Memᴰ x (pick t [] (b ∷ [])) → 0 < x.size
    go true e m = absurd (Memᴰ.not-nil m)
    go false e m = rw (Memᴰ.eq_of_singleton m) (pos_of_ne-zero (eqb-false b.size 0 e))

closed_some : (b : Block) (o : Option ℕ) (x : Block) → Memᴰ x (closed b o) → 0 < x.size
closed_some b None x m = absurd (Memᴰ.not-nil m)
closed_some b (Some o) x m = go (eqb o (end_of b)) m
  where
    go : (t : Bool) → Memᴰ x (pick t [] (kept b)) → 0 < x.size
    go true n = absurd (Memᴰ.not-nil n)
    go false n = kept-some b x n

pub walk-some : (b : Block) (l : List Span) (x : Block) → Memᴰ x (blocks_from b l) → 0 < x.size
unfolding blocks_from
walk-some b [] x m = kept-some b x m
walk-some b (s ∷ l) x m = ⊎_elim (closed_some b s.offset x) (walk-some (joined b s.offset s.size) l x)
    (Memᴰ.append_cases (closed b s.offset) m)
