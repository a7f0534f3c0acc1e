-- Laws that Theorems/FullFill rests on.
use Rattle.std.specs.Prelude.{◌≡◌, refl, Bool, true, false, List, ◌∷◌, ℕ, ◌+◌, ◌-◌, ◌<◌, Option, None, Some}
use Rattle.std.proofs.Common.{sym, arith, le-ltb}
use Rattle.prelude.specs.Laws.Pick.{pick-false}
use Rattle.bankdef.specs.declared.Bankdef.{Bankdef}
use Rattle.bankdef.specs.Fill.{raised_to, filled_by, end_by, fill_end}
use Rattle.bankdef.specs.FillFacts.{Fills}
use Rattle.bankdef.specs.FullFill.{FullEnd}

-- a bank with fill, size and offset ends at offset + size,
pub fill-end-is : {b : Bankdef} {h : ℕ} (s : Fills b h) → fill_end b ≡ s.from + s.bits
fill-end-is s = rw (s.fill, s.size, s.offset)

-- what a bank's end can be
pub data End (b : Bankdef) : ℕ → Type 0 where
  none : End b 0
  some : {h : ℕ} (s : Fills b h) → End b (s.from + s.bits)

end-cases : (b : Bankdef) (fill : Bool) (size offset : Option ℕ) → b.fill ≡ fill → b.size ≡ size → b.offset ≡ offset → End b (end_by fill size offset)
end-cases b false size offset e f g = none
end-cases b true None offset e f g = none
end-cases b true (Some size) None e f g = none
end-cases b true (Some size) (Some offset) e f g =
    some {h = offset + size - 1} (record { fill = e; bits = size; from = offset; size = f; offset = g; last = refl })

-- and of any other bank the end is 0.
pub end_of : (b : Bankdef) → End b (fill_end b)
end_of b = end-cases b b.fill b.size b.offset refl refl refl

pub first_ends : (b : Bankdef) (l : List Bankdef) (m n : ℕ) → End b m → n ≡ m → 0 < m → FullEnd (b ∷ l) n
first_ends b l m n none e h = absurd (omega arith)
first_ends b l m n (some {h = k} s) e h = (0, k, omega arith, s, e)

-- Inherited fill of a bank, by its end: h is one below it.
pub filled-by-end : (fill : Bool) (size offset : Option ℕ) (n : ℕ) → filled_by fill size offset n ≡ raised_to (end_by fill size offset - 1) n
filled-by-end true (Some size) (Some offset) n = refl
filled-by-end true (Some size) None n = sym (pick-false _ _ (le-ltb n 0 (omega arith)))
filled-by-end true None offset n = sym (pick-false _ _ (le-ltb n 0 (omega arith)))
filled-by-end false size offset n = sym (pick-false _ _ (le-ltb n 0 (omega arith)))
