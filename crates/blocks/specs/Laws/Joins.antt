-- "A span starting exactly at the running end joins; another closes the block.", said of two spans that follow one another in the order in which
-- they are taken, whatever stands before and behind them. The running end is the end of the span before: so touching neighbours are as one span,
-- and others are cut apart.
use Rattle.std.specs.Prelude.{◌≡◌, List, [], ◌∷◌, ℕ, Some}
use Rattle.std.proofs.Common.{sym, ap, ap₂, arith, eq-eqb, ne_eqb}
use Rattle.std.proofs.Math.Decide.{ℕ_discrete}
use Rattle.blocks.specs.declared.Block.{Block}
use Rattle.blocks.specs.Spans.{Span}
use Rattle.blocks.specs.Walk.{block, kept, blocks_from}

-- a span at an offset
abbrev pub at : ℕ → ℕ → Span
at o size = record { offset = Some o; size = size }

from-none : (p n : ℕ) (r : List Span) → blocks_from (block 0 0) (at p n ∷ r) ≡ blocks_from (block p n) r
unfolding blocks_from
from-none p n r =
    elim (ℕ_discrete p 0) [
      | yes e ↦ rw (eq-eqb p 0 e) (ap (λ (c : Block). blocks_from c r) (ap₂ block (sym e) (omega arith)))
      | no e ↦ rw (ne_eqb p 0 e)
    ]

-- one span is one block, or none where it is empty
pub one_span : (o m : ℕ) → blocks_from (block 0 0) (at o m ∷ []) ≡ kept (block o m)
unfolding blocks_from
one_span o m = from-none o m []
