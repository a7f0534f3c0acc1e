-- Answers told in document 01's figures, so that the cases stand in one table: 0 for what is accepted, and a refusal's number with its
-- place.
use Rattle.std.specs.Prelude.{ℕ, List, [], ◌∷◌, Err, Result, Ok}
use Rattle.iter.specs.declared.Skipped.{Skipped}
use Rattle.prelude.specs.Refusals.{number_of, place_of}
use Rattle.prelude.specs.declared.Refusal.{Refusal}
use Rattle.prelude.specs.declared.Place.{Place}
use Rattle.prelude.specs.declared.Place.TheVariants.{One, Two}
use Rattle.prelude.specs.Verdict.{Verdict, Accepted}
use Rattle.blocks.specs.declared.Block.{Block}

abbrev pub of_place : Place → List ℕ
of_place (One p) = p ∷ []
of_place (Two p q) = p ∷ q ∷ []

abbrev pub of_refusal : Refusal → List ℕ
of_refusal why = number_of why ∷ of_place (place_of why)

abbrev pub of_verdict : Verdict → List ℕ
of_verdict Accepted = 0 ∷ []
of_verdict (Err why) = of_refusal why

abbrev pub of_distance : Result Skipped Refusal → List ℕ
of_distance (Ok s) = s.bits ∷ []
of_distance (Err why) = of_refusal why

abbrev pub of_blocks : List Block → List ℕ
of_blocks [] = []
of_blocks (b ∷ l) = b.origin ∷ b.size ∷ of_blocks l

-- K, and the passes run
abbrev pub of_resolution : Result ℕ Refusal → ℕ → List ℕ
of_resolution (Ok k) passes = k ∷ passes ∷ []
of_resolution (Err why) passes = of_refusal why
