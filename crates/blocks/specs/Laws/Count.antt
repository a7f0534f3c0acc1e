-- Laws that Theorems/Count rests on.
use Rattle.std.specs.Prelude.{Bool, true, false, List, [], ◌∷◌, ℕ, ◌+◌, ◌≤◌, eqb, length, Option, None, Some}
use Rattle.std.proofs.Common.{arith, length-append}
use Rattle.prelude.specs.Pick.{pick}
use Rattle.blocks.specs.declared.Block.{Block}
use Rattle.blocks.specs.Spans.{Span, spans_of}
use Rattle.blocks.specs.Walk.{block, end_of, kept, closed, joined, blocks_from}

kept-few : (b : Block) → length (kept b) ≤ 1
kept-few b = go (eqb b.size 0)
  where
    go : (t : Bool) → length (pick t [] (b ∷ [])) ≤ 1
    go true = omega arith
    go false = omega arith

-- A span makes at most one block more of what ran before it.
step-few : (b : Block) (o : Option ℕ) (size : ℕ) → length (closed b o) + length (kept (joined b o size)) ≤ length (kept b) + 1
step-few b None size = omega arith
step-few b (Some o) size = go (eqb o (end_of b))
  where
    go : (t : Bool) → length (pick t [] (kept b)) + length (kept (pick t (block b.origin (b.size + size)) (block o size))) ≤ length (kept b) + 1
    go true = omega (arith, kept-few (block b.origin (b.size + size)))
    go false = omega (arith, kept-few (block o size))

pub walk-few : (b : Block) (l : List Span) → length (blocks_from b l) ≤ length (kept b) + length l
unfolding blocks_from
walk-few b [] = omega arith
walk-few b (s ∷ l) =
    let next = joined b s.offset s.size in
    omega (arith, length-append (closed b s.offset) (blocks_from next l), step-few b s.offset s.size, walk-few next l)

-- There are no more spans than offsets.
pub spans-few : (words lengths : List ℕ) → length (spans_of words lengths) ≤ length words
unfolding spans_of
spans-few [] lengths = omega arith
spans-few (w ∷ words) [] = omega arith
spans-few (w ∷ words) (z ∷ lengths) = omega (arith, spans-few words lengths)
