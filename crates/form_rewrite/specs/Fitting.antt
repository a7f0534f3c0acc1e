-- What the converter makes fits the form it is made for, and how long it is.
use Rattle.std.specs.Prelude.{List, ◌≡◌, ℕ, Ok}
use Rattle.form_fields.specs.declared.Kind.{Kind}
use Rattle.form_fields.specs.declared.Shape.{Shape}
use Rattle.form_fields.specs.Shape.{form_in}
use Rattle.form_fields.specs.Whole.{Bytes}

-- A sound file, of bytes.
pub record Read (k : Kind) (file : List ℕ) (s : Shape) : Type 0 where
  pub bytes : Bytes file
  pub sound : form_in k file ≡ Ok s
