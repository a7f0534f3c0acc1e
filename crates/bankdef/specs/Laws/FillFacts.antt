-- Laws that Theorems/FillFacts rests on.
use Rattle.std.specs.Prelude.{◌≡◌, refl, Bool, true, false, ℕ, ◌+◌, ◌-◌, ltb, Option, None, Some}
use Rattle.std.proofs.Common.{ltb-true, ltb-false}
use Rattle.prelude.specs.Laws.Bools.{either, clash, unlike}
use Rattle.bankdef.specs.declared.Bankdef.{Bankdef}
use Rattle.bankdef.specs.Fill.{filled_by}
use Rattle.bankdef.specs.FillFacts.{Filled, Fills, enough, raises, without}

some_size : {o : Option ℕ} {m : ℕ} → o ≡ None → o ≡ Some m → ⊥
some_size e f = unlike cc

pub filled-cases : (b : Bankdef) (n : ℕ) (fill : Bool) (size offset : Option ℕ) → b.fill ≡ fill → b.size ≡ size → b.offset ≡ offset
    → Filled b n (filled_by fill size offset n)
filled-cases b n false size offset e f g = without (λ h s. clash s.fill e)
filled-cases b n true None offset e f g = without (λ h s. some_size f s.size)
filled-cases b n true (Some size) None e f g = without (λ h s. some_size g s.offset)
filled-cases b n true (Some size) (Some offset) e f g =
    let h = offset + size - 1 in
    let s : Fills b h = record { fill = e; bits = size; from = offset; size = f; offset = g; last = refl } in
    either (ltb n h) (λ t. rw t (raises h s (ltb-true n h t))) (λ t. rw t (enough h s (ltb-false n h t)))
