-- The place of a broken file is "the first field at which no valid file can go on": after the fields of some contents as far as they go, a
-- field with which no file of the form goes on is named by its index, and where the file ends there, that is the number of fields.
use Rattle.std.specs.Prelude.{ℕ, Result, Err}
use Rattle.form_fields.specs.declared.Shape.{Shape}
use Rattle.prelude.specs.declared.Refusal.TheVariants.{Malformed}
use Rattle.prelude.specs.declared.Refusal.{Refusal}

abbrev pub broken_at : ℕ → Result Shape Refusal
broken_at place = Err (Malformed place)
