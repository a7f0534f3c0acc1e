-- What a caller is told, in document 01's figures. "If an answer is an enum, a definition tells you this paper's number and values for each
-- of its cases. The promises use that definition." An answer enum of any crate is told by one function into `Told`.
use Rattle.std.specs.Prelude.{ℕ, Err}
use Rattle.prelude.specs.Refusals.{number_of, place_of}
use Rattle.prelude.specs.declared.Refusal.{Refusal}
use Rattle.prelude.specs.declared.Place.{Place}
use Rattle.prelude.specs.Verdict.{Verdict, Accepted}

-- An answer: the values of an accepted call; or a refusal's number and place.
pub data Told {ℓ} (X : Type ℓ) : Type ℓ where
  gives : X → Told X
  refuses : ℕ → Place → Told X

-- the number that is told: none is 0
abbrev pub told_number {ℓ} : {X : Type ℓ} → Told X → ℕ
told_number (gives x) = 0
told_number (refuses n p) = n

-- a refusal, told by its number and its place
abbrev pub told_refusal {ℓ} : {X : Type ℓ} → Refusal → Told X
told_refusal r = refuses (number_of r) (place_of r)

-- a verdict gives no value
pub data Nothing : Type 0 where
  nothing : Nothing

abbrev pub told_verdict : Verdict → Told Nothing
told_verdict Accepted = gives nothing
told_verdict (Err r) = told_refusal r
