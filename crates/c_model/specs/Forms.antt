-- A layout file laid out, told in numbers.
use Rattle.std.specs.Prelude.{◌≡◌, List, ℕ, Option}
use Rattle.output.specs.Output.{Lent, room_of}
use Rattle.form_build.specs.Filed.{file_output, FileBuilt}
use Rattle.c_answers.specs.Told.{layout_told}
use Rattle.c_answers.specs.declared.DkLayout.{DkLayout}

-- What `dk_form` and `dk_form_paged` promise: that build, told in numbers.
pub record FormTold (file : List ℕ) (fill : ℕ) (page : Option ℕ) (old : Lent) (r : DkLayout) (new : Lent) : Type 0 where
  pub answer : r ≡ layout_told (file_output file fill page (room_of old))
  pub built : FileBuilt file fill page old (file_output file fill page (room_of old)) new
