-- Refusals 1, 2 and 3 of a table, each exactly when document 01 gives it, with its place: `decided`. What a caller learns of an accepted
-- table is `accepted`.
use Rattle.std.specs.Prelude.{◌≡◌, true, false, List, ℕ, ◌≤◌, ◌<◌, length, get_or, Err}
use Rattle.prelude.specs.Limits.{max_banks}
use Rattle.prelude.specs.declared.Refusal.TheVariants.{BankCount, BankNumber, BanksOverlap}
use Rattle.prelude.specs.Verdict.{Verdict, Accepted}
use Rattle.bankdef.specs.declared.Bankdef.{Bankdef}
use Rattle.bankdef.specs.declared.Bankdefs.{Bankdefs}
use Rattle.bankdef.specs.Numbers.{fill_bit, fault_at, SoundBank}
use Rattle.bankdef.specs.Check.{no_bank, banks_of, count_sound}
use Rattle.bankdef.specs.Pairs.{OverlapAt, FirstOverlap}

-- the first bank at fault
pub record FirstFault (l : List Bankdef) (i : ℕ) : Type 0 where
  pub there : i < length l
  pub fault : fault_at i (get_or l i no_bank) ≡ true
  pub no-earlier : (k : ℕ) → k < length l → fault_at k (get_or l k no_bank) ≡ true → i ≤ k

abbrev pub NoFault : List Bankdef → Type 0
NoFault l = (k : ℕ) → k < length l → fault_at k (get_or l k no_bank) ≡ true → ⊥

-- What is said of a table, and the verdict on it.
pub data Decided (t : Bankdefs) : Verdict → Type 0 where
  count : count_sound t.len ≡ false → Decided t (Err BankCount)
  number : {i : ℕ} → count_sound t.len ≡ true → FirstFault (banks_of t) i → Decided t (Err (BankNumber i))
  pair : {i j : ℕ} → count_sound t.len ≡ true → NoFault (banks_of t) → FirstOverlap (banks_of t) i j → Decided t (Err (BanksOverlap i j))
  sound : count_sound t.len ≡ true → NoFault (banks_of t) → ((i j : ℕ) → OverlapAt (banks_of t) i j → ⊥) → Decided t Accepted

-- What a caller learns of an accepted table: it has 1 to 16 banks, the numbers of each are sound, and no two overlap.
pub record SoundTable (t : Bankdefs) : Type 0 where
  pub least : 1 ≤ t.len
  pub most : t.len ≤ max_banks
  pub each : (i : ℕ) → i < t.len → i < length t.defs → SoundBank (get_or t.defs i no_bank)
  pub disjoint : (i j : ℕ) → OverlapAt (banks_of t) i j → ⊥
  pub bank-0 : 0 < length t.defs → fill_bit (get_or t.defs 0 no_bank) ≡ 0
