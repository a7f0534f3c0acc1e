-- Laws that Theorems/Decimal rests on.
use Rattle.std.specs.Prelude.{◌≡◌, refl, List, [], ◌∷◌, ◌++◌, ℕ, zero, suc, ◌+◌, ◌-◌, ◌*◌, ◌/◌, ◌≤◌, ◌<◌, length}
use Rattle.std.proofs.Common.{ap, arith, lt-ltb}
use Rattle.std.proofs.Math.Decide.{dec_lt}
use Rattle.prelude.specs.Laws.Pick.{pick_true}
use Rattle.print_text.specs.Decimal.{decimal, digit, digits_in, value_from}

-- ---- the equations a reader expects

pub few : (steps n : ℕ) → n < 10 → digits_in (suc steps) n ≡ digit n ∷ []
unfolding digits_in
few steps n h = pick_true _ _ (lt-ltb n 10 h)

pub decimal-few : (n : ℕ) → n < 10 → decimal n ≡ digit n ∷ []
unfolding decimal
decimal-few n h = few n n h

pub length-few : (n : ℕ) → n < 10 → length (decimal n) ≡ 1
length-few n h = ap length (decimal-few n h)

-- Induction digit by digit: a number below 10, and a larger one from its tenth.
pub by-tens {ℓ} : (P : ℕ → Type ℓ) → ((n : ℕ) → n < 10 → P n) → ((n : ℕ) → 10 ≤ n → P (n / 10) → P n) → (n : ℕ) → P n
by-tens P one ten n = go (suc n) n (omega arith)
  where
    go : (steps n : ℕ) → n < steps → P n
    go zero n h = absurd (omega arith)
    go (suc steps) n h =
        elim (dec_lt n 10) [
          | yes k ↦ one n k
          | no k ↦ ten n (omega arith) (go steps (n / 10) (omega arith))
        ]

pub value_from-last : (n : ℕ) (ds : List ℕ) (d : ℕ) → value_from n (ds ++ (d ∷ [])) ≡ value_from n ds * 10 + (d - 48)
unfolding value_from
value_from-last n [] d = refl
value_from-last n (e ∷ ds) d = value_from-last (n * 10 + (e - 48)) ds d
