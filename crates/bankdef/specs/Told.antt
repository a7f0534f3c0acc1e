-- What a caller is told of a table, in document 01's figures: refusals 1, 2 and 3, each with its place, and when.
use Rattle.std.specs.Prelude.{ℕ, ◌≡◌, true, false}
use Rattle.prelude.specs.Told.{Told, gives, refuses, Nothing, nothing}
use Rattle.prelude.specs.declared.Place.TheVariants.{One, Two}
use Rattle.bankdef.specs.declared.Bankdefs.{Bankdefs}
use Rattle.bankdef.specs.Check.{banks_of, count_sound}
use Rattle.bankdef.specs.Pairs.{OverlapAt, FirstOverlap}
use Rattle.bankdef.specs.Refused.{FirstFault, NoFault}

pub data Checks (t : Bankdefs) : Told Nothing → Type 0 where
  -- "1: the bank count is outside 1 to 16", place 0
  count : count_sound t.len ≡ false → Checks t (refuses 1 (One 0))
  -- "2 its bank": the first at fault
  number : {i : ℕ} → count_sound t.len ≡ true → FirstFault (banks_of t) i → Checks t (refuses 2 (One i))
  -- "3 the first pair"
  pair : {i j : ℕ} → count_sound t.len ≡ true → NoFault (banks_of t) → FirstOverlap (banks_of t) i j → Checks t (refuses 3 (Two i j))
  sound : count_sound t.len ≡ true → NoFault (banks_of t) → ((i j : ℕ) → OverlapAt (banks_of t) i j → ⊥) → Checks t (gives nothing)
