-- What people want of an accepted build's image, in document 01's words: "In an accepted build each bit of a written item is that item's own
-- bit, most significant first"; every other bit is the blank image's. No two items share a bit, none has a bit of a reserve,
-- and "image length is the larger of the fill's and the furthest end of a written item".
use Rattle.std.specs.Prelude.{ℕ, ◌+◌}
use Rattle.build_visits.specs.declared.Visit.{Visit}
use Rattle.build_visits.specs.Visits.{position_of}
use Rattle.build_visits.specs.Items.{Item}
use Rattle.output.specs.Output.{fill_of}
use Rattle.output.specs.Calls.{Call}

-- the item of node n, in a bank with an offset: "offset plus position", the node's number, and its starting bit
abbrev pub item_for : Visit → ℕ → Item
item_for v offset = record { at = offset + position_of v; size = v.node.number; from = v.node.operand }

-- "the fill's" length of a call's banks, by its choice
abbrev pub fill_in : Call → ℕ
fill_in c = fill_of c.given
