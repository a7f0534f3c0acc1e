-- What stands between the build and its records: the answer, with the image and the spans in what was lent for them.
use Rattle.std.specs.Prelude.{List, ℕ, Result}
use Rattle.print_answer.specs.Answer.{answered_by}
use Rattle.print_records.specs.Text.{done_text}
use Rattle.print_records.specs.declared.Wanted.{Wanted}
use Rattle.output.specs.declared.Built.{Built}
use Rattle.prelude.specs.declared.Refusal.{Refusal}

-- The room that the program lends for its text, for the image and for its spans and blocks.
abbrev pub text_room : ℕ
text_room = 131072

-- The text, from the spans at the front of the lent lists.
abbrev pub answered : Wanted → Result Built Refusal → List ℕ → List ℕ → List ℕ → List ℕ
answered w = answered_by (λ k. done_text w)
