-- Laws that Theorems/Measure rests on.
use Rattle.std.specs.Prelude.{◌≡◌, ℕ, ◌+◌, Bool, Option, None, Some}
use Rattle.std.proofs.Math.Path.{refl, sym}
use Rattle.std.proofs.Common.{◌∙◌, zero-add, eqb-true}
use mathlib.Core.List.{List, [], ◌∷◌, ◌++◌}
use Rattle.std.proofs.Math.Nat.{add-zero}
use native.Mathlib.Omega.{arith}
use Rattle.std.proofs.Math.Dec.{eqb}
use Rattle.std.proofs.Math.Bool.{true, false}
use Rattle.prelude.specs.Pick.{pick}
use Rattle.sort.specs.Order.{total}
use Rattle.sort.proofs.Order.{sorted-keeps-totals}
use Rattle.blocks.specs.declared.Block.{Block}
use Rattle.blocks.specs.Spans.{Span, rank_of, by_offset}
use Rattle.blocks.specs.Walk.{block, end_of, kept, closed, joined, blocks_from, blocks_of}
use Rattle.blocks.specs.Measure.{of_run, of_span}

-- A measure of a run of bits, given by its first bit and its size, that adds up.
pub record Additive (m : ℕ → ℕ → ℕ) : Type 0 where
  pub none : (o : ℕ) → m o 0 ≡ 0
  pub more : (o s t : ℕ) → m o (s + t) ≡ m o s + m (o + s) t

abbrev pub of_block : (ℕ → ℕ → ℕ) → Block → ℕ
of_block m b = m b.origin b.size

total-append : (f : Block → ℕ) (x y : List Block) → total f (x ++ y) ≡ total f x + total f y
unfolding total
total-append f [] y = sym (zero-add (total f y))
total-append f (b ∷ x) y = rw (total-append f x y) (omega arith)

module _ (m : ℕ → ℕ → ℕ) (a : Additive m) where
  kept-keeps : (b : Block) → total (of_block m) (kept b) ≡ of_block m b
  unfolding total
  kept-keeps b = go (eqb b.size 0) refl
    where
      go : (t : Bool) → eqb b.size 0 ≡ t → total (of_block m) (pick t [] (b ∷ [])) ≡ of_block m b
      go true e = rw (eqb-true b.size 0 e) (sym (a.none b.origin))
      go false e = add-zero (of_block m b)

  -- what a span closes and what runs on after it, against the block that ran before it and the span
  step_keeps : (b : Block) (o : Option ℕ) (size : ℕ) → total (of_block m) (closed b o) + of_block m (joined b o size) ≡ of_block m b + of_run m o size
  unfolding total
  step_keeps b None size = omega arith
  step_keeps b (Some o) size = go (eqb o (end_of b)) refl
    where
      go : (t : Bool) → eqb o (end_of b) ≡ t
          → total (of_block m) (pick t [] (kept b)) + of_block m (pick t (block b.origin (b.size + size)) (block o size)) ≡ of_block m b + m o size
      go true e = rw (eqb-true o (end_of b) e, a.more b.origin b.size size) (omega arith)
      go false e = rw (kept-keeps b)

  walk-keeps : (b : Block) (l : List Span) → total (of_block m) (blocks_from b l) ≡ of_block m b + total (of_span m) l
  unfolding total blocks_from
  walk-keeps b [] = kept-keeps b ∙ sym (add-zero (of_block m b))
  walk-keeps b (s ∷ l) =
      total-append (of_block m) (closed b s.offset) (blocks_from (joined b s.offset s.size) l)
      ∙ rw (walk-keeps (joined b s.offset s.size) l) (omega (arith, step_keeps b s.offset s.size))

  -- The blocks have the measure of the spans.
  pub measure-kept : (spans : List Span) → total (of_block m) (blocks_of spans) ≡ total (of_span m) spans
  measure-kept spans = walk-keeps (block 0 0) (by_offset spans) ∙ rw (a.none 0, zero-add) (sorted-keeps-totals rank_of (of_span m) spans)
