-- A file's build has one outcome: two that meet its contract for the same file and the same things lent are equal, everything lent included.
use Rattle.std.specs.Prelude.{◌≡◌, List, ℕ, Option}
use Rattle.prelude.specs.Laws.Pick.{determined}
use Rattle.output.specs.Output.{Lent}
use Rattle.output.specs.declared.Output.{Output}
use Rattle.form_build.specs.Filed.{FileBuilt}

pub one-file-build : {file : List ℕ} {fill : ℕ} {page : Option ℕ} {old x y : Lent} {r s : Output} → FileBuilt file fill page old r x
    → FileBuilt file fill page old s y → (r ≡ s) × (x ≡ y)
one-file-build c d =
    let same = determined c.answer d.answer in
    (same, determined c.left (rw (← same) at d.left))
