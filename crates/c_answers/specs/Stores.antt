-- The answer to an offer, and to a list of offers, in numbers.
use Rattle.std.specs.Prelude.{ℕ}
use Rattle.prelude.specs.Told.{Told, gives, refuses, Nothing}
use Rattle.c_answers.specs.Told.{first_of, second_of}
use Rattle.c_answers.specs.declared.DkOffer.{DkOffer}
use Rattle.c_answers.specs.declared.DkOffered.{DkOffered}

-- an answer's figures as numbers, with the counts of intervals and marks: no refusal has number 0, and a place of one number has 0 for its second
abbrev pub in_figures : Told Nothing → ℕ → ℕ → DkOffer
in_figures (gives x) count marks = record { refusal = 0; place = 0; second = 0; count = count; marks = marks }
in_figures (refuses number place) count marks =
    record { refusal = number; place = first_of place; second = second_of place; count = count; marks = marks }

-- an answer with an offer's number
abbrev pub numbered : DkOffer → ℕ → DkOffered
numbered r offer =
    record { refusal = r.refusal; place = r.place; second = r.second; count = r.count; marks = r.marks; offer = offer }
