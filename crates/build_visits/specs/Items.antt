-- Written items, the image's length and the image (document 01, "Image, spans, blocks"): lists made from the visits, and folds over them.
use Rattle.std.specs.Prelude.{ℕ, ◌+◌, ◌≤◌, ◌<◌, max, Bool, List, [], ◌∷◌, Option, None, Some}
use Rattle.prelude.specs.Pick.{pick}
use Rattle.nodes.specs.declared.Node.{Node}
use Rattle.nodes.specs.Kinds.{is_item}
use Rattle.bitvec.specs.Written.{written}
use Rattle.build_visits.specs.declared.Visit.{Visit}
use Rattle.build_visits.specs.Visits.{each}

-- "written items (4, 5, 6)"
abbrev pub is_written : Node → Bool
is_written n = is_item n.kind

-- An item as it is written: its place in the output, its size, and its "starting bit in the value bytes".
pub record Item : Type 0 where
  pub at : ℕ
  pub size : ℕ
  pub from : ℕ

-- the first bit past an item
abbrev pub end_of : Item → ℕ
end_of x = x.at + x.size

-- a bit of the image belongs to an item
abbrev pub InItem : ℕ → Item → Type 0
InItem bit x = (x.at ≤ bit) × (bit < end_of x)

-- an item that stands somewhere in the output
abbrev pub standing : Option ℕ → Node → List Item
standing None n = []
standing (Some o) n = record { at = o; size = n.number; from = n.operand } ∷ []

-- the item of a node that is written, if it is
abbrev pub item_at : Node → Option ℕ → List Item
item_at n out = pick (is_written n) (standing out n) []

abbrev pub item_of : Visit → List Item
item_of v = item_at v.node v.out

-- the written items, in node order
abbrev pub items_of : List Visit → List Item
items_of vs = each item_of vs

-- "Image length is the larger of the fill's and the furthest end of a written item; a written item of size 0 still counts its position."
unfoldable pub length_of : ℕ → List Item → ℕ
length_of fill [] = fill
length_of fill (x ∷ l) = length_of (max fill (end_of x)) l

-- The image: a blank one, and each item's bits in it. "Bits run from the top of each byte, value bytes too."
unfoldable pub image_of : List ℕ → List ℕ → List Item → List ℕ
image_of values blank [] = blank
image_of values blank (x ∷ l) = image_of values (written blank x.at values x.from x.size) l
