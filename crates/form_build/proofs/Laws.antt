-- The build over the lists of a sound file is the build of the file.
use Rattle.std.specs.Prelude.{Option, Err, Ok}
use mathlib.Core.Path.{◌≡◌, refl, sym, ap, subst, ◌∙◌}
use mathlib.Core.List.{List}
use Prim.Native.Nat.{ℕ, ◌*◌}
use lib.ListN.{take}
use Rattle.prelude.specs.declared.Refusal.{Refusal}
use Rattle.bankdef.specs.declared.Bankdefs.{Bankdefs}
use Rattle.form_fields.specs.declared.Shape.{Shape}
use Rattle.form_fields.specs.Shape.{form_of}
use Rattle.form_fields.specs.Banks.{table_of}
use Rattle.form_fields.specs.Lists.{kinds_of, operands_of, numbers_of, states_of, values_by}
use Rattle.form_fields.specs.Theorems.Filled.{places}
use Rattle.nodes.specs.Lists.{lists}
use Rattle.resolver.specs.declared.Choices.{Choices}
use Rattle.output.specs.Output.{input, Lent, room_of, refused_after}
use Rattle.output.specs.declared.Output.{Output}
use Rattle.form_build.specs.Paged.{BuiltIn}
use Rattle.form_build.specs.Filed.{choices_of, FileBuilt, HeldIn, lists_in, output_by}

module _ (file : List ℕ) (fill : ℕ) (page : Option ℕ) (old : Lent) where
  -- a broken file
  pub broken : (why : Refusal) → form_of file ≡ Err why → FileBuilt file fill page old (refused_after 0 why) old
  broken why e = record { answer = sym (ap (output_by file fill page (room_of old)) e); left = refl }

  -- a sound one
  module _ (s : Shape) (sound : form_of file ≡ Ok s) {r : Output} {new : Lent} where
    as_read : BuiltIn page (input (table_of file) (lists_in file) (choices_of s fill)) old r new → FileBuilt file fill page old r new
    as_read b = record { answer = b.answer ∙ sym (ap (output_by file fill page (room_of old)) sound); left = b.left }

    pub laid_out : (banks : Bankdefs) (kinds operands numbers states values : List ℕ) (choices : Choices) → HeldIn file s kinds operands numbers states
        → choices ≡ choices_of s fill → banks ≡ table_of file → values ≡ values_by file (form_of file)
        → BuiltIn page (input banks
        (lists (take s.nodes kinds) (take s.nodes operands) (take (s.rows * s.nodes) numbers) (take (s.rows * s.nodes) states) s.rows values)
        choices) old r new
        → FileBuilt file fill page old r new
    laid_out banks kinds operands numbers states values choices h ec eb ev b =
        as_read (subst
        (λ (x : ℕ). BuiltIn page (input (table_of file)
        (lists (kinds_of file) (operands_of file) (numbers_of file) (states_of file) x (values_by file (form_of file))) (choices_of s fill)) old r new)
        (places file s sound).rows
        (rw (ec, eb, ev, h.of-kinds, h.of-operands, h.of-numbers, h.of-states) at b))
