-- Theorems about what Cases defines.
use Rattle.std.specs.Prelude.{ℕ, zero, suc, ◌≡◌, refl, false, true, [], ◌∷◌, pos, get_or, replicate, None}
use Rattle.std.proofs.Common.{arith}
use Rattle.bankdef.specs.Check.{no_bank}
use Rattle.nodes.specs.Lists.{lists}
use Rattle.output.specs.Output.{input}
use Rattle.thm_conversions.specs.Widened.{with_bank1, OneBank}
use Rattle.thm_conversions.specs.DefaultBankCases.{bank, one}

-- The theorem speaks of it.
pub one-bank : OneBank one
one-bank =
    record {
      count = refl;
      table = refl;
      bit = refl;
      unclosed = refl;
      switches = switches;
      room = omega arith;
      operands = refl;
      numbers = refl;
      states = refl;
    }
  where
    switches : (i : ℕ) → get_or one.lists.kinds i 0 ≡ 1 → get_or one.lists.operands i 0 ≡ 0
    switches zero e = refl
    switches (suc zero) e = refl
    switches (suc (suc zero)) e = absurd (let x : ⊥ = omega (arith, e) in x)
    switches (suc (suc (suc i))) e = tail i
      where
        tail : (i : ℕ) → ◌≡◌ {A = ℕ} (get_or (0 ∷ []) i 0) 0
        tail zero = refl
        tail (suc i) = refl

-- What it becomes: bank 0 has its unit and start alone, bank 1 the record; the switch ahead, the other one turned; a zero ahead in each row.
pub becomes : with_bank1 one
    ≡ input
    (record {
      defs =
          record { unit = 8; start = pos 16; size = None; offset = None; align = None; fill = false; fill_bit = 0 } ∷ bank ∷ replicate 14 no_bank;
      len = 2;
    })
    (lists (1 ∷ 1 ∷ 2 ∷ 4 ∷ 8 ∷ []) (1 ∷ 1 ∷ 0 ∷ 3 ∷ 0 ∷ []) (0 ∷ 5 ∷ 6 ∷ 8 ∷ 16 ∷ 0 ∷ 5 ∷ 6 ∷ 8 ∷ 32 ∷ [])
    (0 ∷ 0 ∷ 0 ∷ 2 ∷ 0 ∷ 0 ∷ 0 ∷ 0 ∷ 1 ∷ 0 ∷ []) 2 (255 ∷ 255 ∷ []))
    (record { limit = 3; fill = 0; closed = true })
becomes = refl
