-- When a call of the converter is refused, with which number and place, and when it is not: exactly, of every answer that meets its contract.
use Rattle.std.specs.Prelude.{◌≤◌, ◌≡◌, length, Result, Ok}
use Rattle.prelude.specs.declared.Refusal.{Refusal}
use Rattle.form_fields.specs.declared.Kind.{Kind}
use Rattle.form_fields.specs.declared.Shape.{Shape}
use Rattle.form_fields.specs.Contents.{Contents, written}
use Rattle.form_convert.specs.Told.{Counts}

-- No cause of 4: the file is sound, the counts are within their limits, no one-bank file names another bank, and the result is within its form's length.
pub record Fair (k : Kind) (form : Result Shape Refusal) (c d : Contents) : Type 0 where
  pub shape : Shape
  pub sound : form ≡ Ok shape
  pub counts : Counts c d
  pub within : length (written k d) ≤ k.longest
