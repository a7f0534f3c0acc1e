-- A layout file in the other form, as a caller in another language is told of it.
use Rattle.std.specs.Prelude.{◌≡◌, Bool, List, ℕ, length, Result}
use Rattle.prelude.specs.declared.Refusal.{Refusal}
use Rattle.form_fields.specs.Contents.{Contents, written}
use Rattle.form_fields.specs.Shape.{form_in}
use Rattle.form_fields.specs.Whole.{contents_in}
use Rattle.form_fields.specs.declared.Kind.{Kind}
use Rattle.form_convert.specs.Convert.{answer_by, out_after}
use Rattle.c_answers.specs.Counts.{conversion_count}
use Rattle.c_answers.specs.declared.DkCount.{DkCount}

-- What a way from one form to another promises: its answer, told in numbers, and every byte of the lent buffer.
module _ (from to : Kind) (turn : Contents → Contents) (drops : Contents → Bool) (file old : List ℕ) where
  abbrev pub answer_in : Result ℕ Refusal
  answer_in =
      answer_by to (form_in from file) (contents_in from file) (turn (contents_in from file)) (drops (contents_in from file)) (length old)

  pub record WayTold (r : DkCount) (new : List ℕ) : Type 0 where
    pub answer : r ≡ conversion_count answer_in
    pub out : new ≡ out_after answer_in (written to (turn (contents_in from file))) old
