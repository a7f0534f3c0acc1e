-- Bits: which lie in a block. A bit lies in as many blocks as spans, whatever the spans are. So it lies in some block exactly when it
-- lies in some span that has an offset, and blocks of spans that share no bit share none.
use mathlib.Core.List.{List, [], ◌∷◌, Memᴰ}
use Rattle.std.specs.Prelude.{ℕ, ◌+◌, ◌≤◌, ◌<◌, Option, None, Some}
use Rattle.blocks.specs.declared.Block.{Block}
use Rattle.blocks.specs.Spans.{Span}

-- A bit of a run, of a block, and of a span: one without offset has none.
abbrev pub InRun : ℕ → ℕ → ℕ → Type 0
InRun bit o size = (o ≤ bit) × (bit < o + size)

abbrev pub InBlock : ℕ → Block → Type 0
InBlock bit b = InRun bit b.origin b.size

abbrev pub InPlaced : ℕ → Option ℕ → ℕ → Type 0
InPlaced bit None size = ⊥
InPlaced bit (Some o) size = InRun bit o size

abbrev pub InSpan : ℕ → Span → Type 0
InSpan bit s = InPlaced bit s.offset s.size

-- Some element of a list is so.
abbrev pub SomeElement : {A : Type 0} → (A → Type 0) → List A → Type 0
SomeElement {A} P l = (a : A) × Memᴰ a l × P a

-- No two elements at different places share a bit.
abbrev pub NoSharedBit : {A : Type 0} → (ℕ → A → Type 0) → List A → Type 0
NoSharedBit In [] = Unit {0}
NoSharedBit In (a ∷ l) = ((bit : ℕ) → In bit a → SomeElement (In bit) l → ⊥) × NoSharedBit In l
