-- Laws that Theorems/Blocks rests on.
use Rattle.std.specs.Prelude.{◌≡◌, refl, Bool, true, false, List, [], ◌∷◌, ◌++◌, ℕ, ◌+◌, ◌≤◌, leb, eqb, Option, None, Some}
use Rattle.std.proofs.Common.{arith, leb-true, eqb-true}
use Rattle.prelude.specs.Limits.{max_offer, max_position}
use Rattle.prelude.specs.Pick.{pick}
use Rattle.sort.specs.Agree.{All}
use Rattle.blocks.specs.Laws.Acceptable.{both_true}
use Rattle.blocks.specs.Spans.{Span, offset_within, within, all_within}
use Rattle.blocks.specs.Walk.{block, end_of, kept, closed, joined, blocks_from}
use Rattle.blocks.specs.declared.Block.{Block}
use Rattle.print_report.specs.Blocks.{farthest}

abbrev pub Near : Block → Type 0
Near b = end_of b ≤ farthest

abbrev pub Fit : Span → Type 0
Fit s = (offset_within s.offset ≡ true) × (s.size ≤ max_position)

all_append : (l m : List Block) → All Near l → All Near m → All Near (l ++ m)
all_append [] m hl hm = hm
all_append (b ∷ l) m hl hm = (hl.0, all_append l m hl.1 hm)

either-near : (t : Bool) (l m : List Block) → All Near l → All Near m → All Near (pick t l m)
either-near true l m hl hm = hl
either-near false l m hl hm = hm

kept_near : (b : Block) → Near b → All Near (kept b)
kept_near b h = either-near (eqb b.size 0) [] (b ∷ []) tt (h, tt)

closed-near : (b : Block) (o : Option ℕ) → Near b → All Near (closed b o)
closed-near b None h = tt
closed-near b (Some o) h = either-near (eqb o (end_of b)) [] (kept b) tt (kept_near b h)

-- a block that a span joins ends where the span does
joined-near : (b : Block) (o : Option ℕ) (size : ℕ) → Near b → offset_within o ≡ true → size ≤ max_position → Near (joined b o size)
joined-near b None size h w s = h
joined-near b (Some o) size h w s = go (eqb o (end_of b)) refl
  where
    go : (t : Bool) → eqb o (end_of b) ≡ t → Near (pick t (block b.origin (b.size + size)) (block o size))
    go true e = omega (arith, eqb-true o (end_of b) e, leb-true o max_offer w, s)
    go false e = omega (arith, leb-true o max_offer w, s)

pub walk-near : (b : Block) (l : List Span) → Near b → All Fit l → All Near (blocks_from b l)
unfolding blocks_from
walk-near b [] h f = kept_near b h
walk-near b (s ∷ l) h f =
    let next = joined b s.offset s.size in
    all_append (closed b s.offset) (blocks_from next l) (closed-near b s.offset h)
    (walk-near next l (joined-near b s.offset s.size h f.0.0 f.0.1) f.1)

pub all_fit : (l : List Span) → all_within l ≡ true → All Fit l
unfolding all_within
all_fit [] e = tt
all_fit (s ∷ l) e =
    let both = both_true (within s) (all_within l) e in
    let parts = both_true (offset_within s.offset) (leb s.size max_position) both.0 in
    ((parts.0, leb-true s.size max_position parts.1), all_fit l both.1)
