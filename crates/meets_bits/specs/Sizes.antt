-- The sizes of some spans, lent as offsets and sizes, that have an offset, added up: "a span whose offset is none is passed over".
use Rattle.std.specs.Prelude.{◌≡◌, List, [], ◌∷◌, ℕ, ◌+◌}
use Rattle.says.specs.Words.{Not}

pub data Placed : (offsets sizes : List ℕ) → ℕ → Type 0 where
  no_span : Placed [] [] 0
  counted : {o s sum : ℕ} {os ss : List ℕ} → Not (o ≡ 18446744073709551615) → Placed os ss sum → Placed (o ∷ os) (s ∷ ss) (s + sum)
  passed_over : {o s sum : ℕ} {os ss : List ℕ} → o ≡ 18446744073709551615 → Placed os ss sum → Placed (o ∷ os) (s ∷ ss) sum
