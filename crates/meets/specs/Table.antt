-- What `bankdef::check` says of a table of records, by the sentences on banks. That the definition says it, and that it leaves one answer: Theorems/Banks.
use Rattle.std.specs.Prelude.{◌≡◌, true, ◌⊎◌, ℕ, ◌<◌, Option, Some}
use Rattle.prelude.specs.Told.{Told, gives, refuses, Nothing, nothing}
use Rattle.prelude.specs.declared.Place.TheVariants.{One, Two}
use Rattle.bankdef.specs.declared.Bankdef.{Bankdef}
use Rattle.bankdef.specs.declared.Bankdefs.{Bankdefs}
use Rattle.says.specs.Banks.{Fault, Meet}
use Rattle.says.specs.Words.{Tries, Is, First, FirstPair, At}

-- a number of a record that is there
abbrev pub Has : Option ℕ → ℕ → Type 0
Has x m = x ≡ Some m

module _ (t : Bankdefs) where
  -- bank i of the table: of the first `len` records
  abbrev pub Bank : ℕ → Bankdef → Type 0
  Bank i b = (i < t.len) × At t.defs i b

  abbrev pub CountOutside : Unit {0} → Type 0
  CountOutside _ = (t.len < 1) ⊎ (16 < t.len)

  abbrev pub AtFault : ℕ → Type 0
  AtFault i =
      (b : Bankdef) × Bank i b × Fault i b.unit b.start (Has b.size) (Has b.offset) (Has b.align) (b.fill ≡ true) b.fill_bit

  -- "Pairs are compared in rising order; bank 0 .. never"
  abbrev pub Overlapping : ℕ → ℕ → Type 0
  Overlapping i j = (a : Bankdef) × (b : Bankdef) × (0 < i) × (i < j) × Bank i a × Bank j b
      × Meet (Has a.offset) (Has a.size) (Has b.offset) (Has b.size)

  -- "1, 2 by ascending bank, 3": 1 with place 0, 2 with "its bank", 3 with "the first pair".
  abbrev pub CheckSays : Told Nothing → Type 0
  CheckSays =
      Tries CountOutside (λ _. refuses 1 (One 0))
      (Tries (First AtFault) (λ i. refuses 2 (One i))
      (Tries (λ (p : ℕ × ℕ). FirstPair Overlapping p.0 p.1) (λ p. refuses 3 (Two p.0 p.1))
      (Is (gives nothing))))
