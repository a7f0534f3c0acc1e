-- One walk for both choices: lengths that stay if they are less than a gap below a bank's end. Inherited fill is that with a gap of 1, full fill with none.
use mathlib.Core.Path.{◌≡◌, refl, sym, ◌∙◌}
use mathlib.Core.Bool.{Bool, true, false}
use mathlib.Core.List.{List, [], ◌∷◌}
use Prim.Native.Nat.{ℕ, ◌+◌, ◌-◌, max}
use native.Mathlib.Omega.{arith}
use borrow.Author.Tests.{lt-ltb, le-ltb, ltb-true, ltb-false}
use lib.Dec.{ltb}
use Rattle.prelude.specs.Laws.Bools.{either}
use Rattle.prelude.specs.Pick.{pick}
use Rattle.bankdef.specs.declared.Bankdef.{Bankdef}
use Rattle.bankdef.specs.Fill.{raised_to, filled_by, fill_end, fill_from, full_length}
use Rattle.bankdef.specs.Laws.FullFill.{filled-by-end}

abbrev pub raised : ℕ → ℕ → ℕ → ℕ
raised gap n e = pick (ltb (n + gap) e) e n

unfoldable pub raise_from : ℕ → ℕ → List Bankdef → ℕ
raise_from gap n [] = n
raise_from gap n (b ∷ l) = raise_from gap (raised gap n (fill_end b)) l

below-h : (n e : ℕ) → raised 1 n e ≡ raised_to (e - 1) n
below-h n e =
    either (ltb (n + 1) e)
    (λ t. let past = ltb-true (n + 1) e t in rw (t, lt-ltb n (e - 1) (omega arith)) (omega arith))
    (λ t. let low = ltb-false (n + 1) e t in rw (t, le-ltb n (e - 1) (omega arith)))

larger : (n e : ℕ) → raised 0 n e ≡ max n e
larger n e =
    either (ltb (n + 0) e)
    (λ t. let past = ltb-true (n + 0) e t in rw t (omega arith))
    (λ t. let low = ltb-false (n + 0) e t in rw t (omega arith))

inherited : (n : ℕ) (l : List Bankdef) → raise_from 1 n l ≡ fill_from n l
unfolding raise_from fill_from
inherited n [] = refl
inherited n (b ∷ l) = rw (below-h n (fill_end b) ∙ sym (filled-by-end b.fill b.size b.offset n)) (inherited (filled_by b.fill b.size b.offset n) l)

full : (n : ℕ) (l : List Bankdef) → raise_from 0 n l ≡ max n (full_length l)
unfolding raise_from full_length
full n [] = omega arith
full n (b ∷ l) = rw (larger n (fill_end b)) (omega (arith, full (max n (fill_end b)) l))

pub chosen : (t : Bool) (l : List Bankdef) → raise_from (pick t 0 1) 0 l ≡ pick t (full_length l) (fill_from 0 l)
chosen true l = omega (arith, full 0 l)
chosen false l = inherited 0 l
