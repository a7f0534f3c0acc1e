-- Refusal 2: "a bank number is beyond its limit, or a filled bank has size 0"; Ticket 6: "2 also for bank 0 with fill bit one, filled or
-- not". A unit above 65,535, and a size, an offset or an alignment above 4,294,967,295, stand in no bank: the record's types do not hold
-- them. What is left to test is the rest.
use Rattle.std.specs.Prelude.{◌≡◌, Bool, true, false, not, ◌&&◌, ◌||◌, ℕ, ◌≤◌, ◌<◌, ltb, eqb, ℤ, pos, neg_ℤ, nat_abs, Option, None, Some}
use Rattle.std.specs.Int.Signed.{le_z}
use Rattle.prelude.specs.Limits.{max_start}
use Rattle.bankdef.specs.declared.Bankdef.{Bankdef}

-- "start address: -2^40 to 2^40"
abbrev pub start_sound : ℤ → Bool
start_sound start = le_z (neg_ℤ (pos max_start)) start && le_z start (pos max_start)

-- a size that is there and is 0
abbrev pub is_zero : Option ℕ → Bool
is_zero None = false
is_zero (Some bits) = eqb bits 0

-- the bank's fill bit, by a name without an underscore
abbrev pub fill_bit : Bankdef → ℕ
fill_bit b = b.fill_bit

-- "address unit: 1 to 65,535 bits"; the start; a fill bit that is neither 0 nor 1; "a filled bank has size 0", with or without an offset
abbrev pub bank_fault : Bankdef → Bool
bank_fault b = eqb b.unit 0 || (not (start_sound b.start) || (ltb 1 (fill_bit b) || (b.fill && is_zero b.size)))

-- "bank 0 with fill bit one, filled or not"
abbrev pub zero_fault : Bankdef → Bool
zero_fault b = eqb (fill_bit b) 1

-- whether bank i, with this record, is at fault
abbrev pub fault_at : ℕ → Bankdef → Bool
fault_at i b = bank_fault b || (eqb i 0 && zero_fault b)

-- What a bank with no fault has.
pub record SoundBank (b : Bankdef) : Type 0 where
  pub unit : 0 < b.unit
  pub start : nat_abs b.start ≤ max_start
  pub filled : b.fill ≡ true → is_zero b.size ≡ false
  pub bit : fill_bit b ≤ 1

-- ---- the faults, each by plain facts

-- Why bank i is refused 2.
pub data Faulty (i : ℕ) (b : Bankdef) : Type 0 where
  no-unit : b.unit ≡ 0 → Faulty i b
  far-start : max_start < nat_abs b.start → Faulty i b
  no-bit : 1 < fill_bit b → Faulty i b
  filled-empty : b.fill ≡ true → b.size ≡ Some 0 → Faulty i b
  bank-0-one : i ≡ 0 → fill_bit b ≡ 1 → Faulty i b
