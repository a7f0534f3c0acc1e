-- What the fill does to the image's length, bank by bank and over the whole table: document 01, "Fill takes every bank in order, bank 0
-- too. With fill, size and offset, let h = offset + size - 1; if the image length is below h, it becomes h + 1."
use Rattle.std.specs.Prelude.{◌≡◌, true, ℕ, ◌+◌, ◌-◌, ◌≤◌, ◌<◌, Some}
use Rattle.bankdef.specs.declared.Bankdef.{Bankdef}
use Rattle.bankdef.specs.Fill.{filled_by}

-- "With fill, size and offset", the bank's last bit is h
pub record Fills (b : Bankdef) (h : ℕ) : Type 0 where
  pub fill : b.fill ≡ true
  pub bits : ℕ
  pub from : ℕ
  pub size : b.size ≡ Some bits
  pub offset : b.offset ≡ Some from
  pub last : h ≡ from + bits - 1

-- the length after one bank
abbrev pub after_bank : Bankdef → ℕ → ℕ
after_bank b n = filled_by b.fill b.size b.offset n

-- what a bank's fill can do to a length
pub data Filled (b : Bankdef) (n : ℕ) : ℕ → Type 0 where
  raises : (h : ℕ) → Fills b h → n < h → Filled b n (h + 1)
  enough : (h : ℕ) → Fills b h → h ≤ n → Filled b n n
  without : ((h : ℕ) → Fills b h → ⊥) → Filled b n n
