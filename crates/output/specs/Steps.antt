-- What the build's inner functions promise one another. A reader of the public contract needs none of it.
use Rattle.std.specs.Prelude.{◌≡◌, Bool, ℕ, ◌+◌, ◌*◌, ◌≤◌, ltb, Err}
use mathlib.Core.List.{List, Memᴰ}
use Rattle.prelude.specs.Pick.{pick}
use Rattle.prelude.specs.declared.Refusal.TheVariants.{TooShort}
use Rattle.prelude.specs.Verdict.{Verdict, Accepted}
use Rattle.nodes.specs.Lists.{Row}
use Rattle.resolver.specs.Once.{Program}
use Rattle.build_visits.specs.Visits.{visits}
use Rattle.build_visits.specs.Items.{Item}
use Rattle.output.specs.Output.{Lent, room_of, output_of, build_row, left_by}
use Rattle.output.specs.declared.Output.{Output}

-- items that come from within `values` value bytes
abbrev pub InValues : ℕ → List Item → Type 0
InValues values xs = (x : Item) → Memᴰ x xs → x.from + x.size ≤ 8 * values

-- "14: a lent output is too short: image 0, spans 1", of an image in bytes and of places for spans
abbrev pub room_verdict : ℕ → ℕ → ℕ → ℕ → Verdict
room_verdict bytes places bits spans =
    pick (ltb (8 * bytes) bits) (Err (TooShort 0)) (pick (ltb places spans) (Err (TooShort 1)) Accepted)

-- The build of a row: its answer, and everything lent afterwards.
pub record RowBuilt (p : Program) (row : Row) (closed : Bool) (fill k passes : ℕ) (values : List ℕ) (old : Lent) (r : Output) (new : Lent)
    : Type 0 where
  pub answer : r ≡ output_of p row passes (build_row closed (visits p row) fill (room_of old) k)
  pub left : new ≡ left_by p.banks (visits p row) values old r.build
