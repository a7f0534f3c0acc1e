-- What the second walk asks of its caller: that everything it writes has room.
use mathlib.Core.List.{List, Memᴰ}
use Rattle.std.specs.Prelude.{ℕ, ◌+◌, ◌*◌, ◌≤◌, length}
use Rattle.build_visits.specs.Items.{Item, end_of, items_of}
use Rattle.build_visits.specs.Spans.{spans_of}
use Rattle.build_visits.specs.declared.Visit.{Visit}

-- items that come from within `values` value bytes, and whose bits lie within an image of `bytes` bytes
abbrev pub Fit : ℕ → ℕ → List Item → Type 0
Fit values bytes xs = (x : Item) → Memᴰ x xs → (end_of x ≤ 8 * bytes) × (x.from + x.size ≤ 8 * values)

-- The written items of visits fit, and there is a place for each of their spans in each of three lists.
pub record HasRoom (vs : List Visit) (values bytes addresses offsets sizes : ℕ) : Type 0 where
  pub items : Fit values bytes (items_of vs)
  pub first : length (spans_of vs) ≤ addresses
  pub second : length (spans_of vs) ≤ offsets
  pub third : length (spans_of vs) ≤ sizes
