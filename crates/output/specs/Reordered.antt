-- Ticket 11, "Order of lines doesn't matter", the image. "Also, writing the accepted items' bits in any order gives the same image." Said of
-- the image and its length as they are defined, of calls that write one item after another, and of two accepted builds. It is about items that
-- stand where they stand: an item is its place in the output, its size and its starting bit. Moving lines of a layout can move positions, and
-- then the items are others.
use Rattle.std.specs.Prelude.{List, [], ◌∷◌, ℕ}
use Rattle.prelude.specs.Verdict.{Accepted}
use Rattle.bitvec.specs.Written.{Writes}
use Rattle.build_visits.specs.Items.{Item}

-- ---- calls that write items one after another

-- Calls that were all accepted, by the contract of the call that writes one item: the image before, the items in turn, the image afterwards.
pub data WrittenInTurn (values : List ℕ) : List ℕ → List Item → List ℕ → Type 0 where
  none_left : {image : List ℕ} → WrittenInTurn values image [] image
  one_then : {image next last : List ℕ} {x : Item} {l : List Item} → Writes image x.at values x.from x.size Accepted next
      → WrittenInTurn values next l last → WrittenInTurn values image (x ∷ l) last
