-- Theorems about what FullFill defines.
use Rattle.std.specs.Prelude.{◌≡◌, refl, List, [], ◌∷◌, ◌⊎◌, ℕ, zero, suc, ◌+◌, ◌≤◌, ◌<◌, max, ltb, length, get_or}
use Rattle.std.proofs.Common.{◌∙◌, inl, inr, arith, ltb-true, ltb-false}
use Rattle.prelude.specs.Laws.Bools.{either}
use Rattle.bankdef.specs.declared.Bankdef.{Bankdef}
use Rattle.bankdef.specs.Check.{no_bank}
use Rattle.bankdef.specs.Fill.{fill_end, full_length}
use Rattle.bankdef.specs.FillFacts.{Fills}
use Rattle.bankdef.specs.FullFill.{FullEnd}
use Rattle.bankdef.specs.Laws.FullFill.{end_of, fill-end-is, first_ends}

-- Full fill's length is at least the end of each bank with fill, size and offset, bank 0 too.
pub full-reaches : (l : List Bankdef) (k h : ℕ) → k < length l → (s : Fills (get_or l k no_bank) h) → s.from + s.bits ≤ full_length l
unfolding full_length
full-reaches [] k h i s = absurd (omega arith)
full-reaches (b ∷ l) zero h i s = omega (arith, fill-end-is s)
full-reaches (b ∷ l) (suc k) h i s = omega (arith, full-reaches l k h (omega arith) s)

-- It is the end of one of them, or 0:
pub full-ends : (l : List Bankdef) → (full_length l ≡ 0) ⊎ FullEnd l (full_length l)
unfolding full_length
full-ends [] = inl refl
full-ends (b ∷ l) =
    either (ltb (full_length l) (fill_end b))
    (λ t.
    let past = ltb-true (full_length l) (fill_end b) t in
    inr (first_ends b l (fill_end b) (max (fill_end b) (full_length l)) (end_of b) (omega arith) (omega arith)))
    (λ t. go (ltb-false (full_length l) (fill_end b) t) (full-ends l))
  where
    go : fill_end b ≤ full_length l → (full_length l ≡ 0) ⊎ FullEnd l (full_length l)
        → (max (fill_end b) (full_length l) ≡ 0) ⊎ FullEnd (b ∷ l) (max (fill_end b) (full_length l))
    go h (inl e) = inl (omega arith)
    go h (inr e) =
        let same : max (fill_end b) (full_length l) ≡ full_length l = omega arith in
        inr (suc e.0, e.1, omega (arith, e.2), e.3, same ∙ e.4)
