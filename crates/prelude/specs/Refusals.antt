-- Document 01, "Numbers a caller gets back", and document 02 from 17 on: the number and the place of each refusal.
use Rattle.std.specs.Prelude.{ℕ}
use Rattle.prelude.specs.declared.Refusal.{Refusal}
use Rattle.prelude.specs.declared.Refusal.TheVariants.{BankCount, BankNumber, BanksOverlap, Malformed, PositionPast, LabelOffBoundary, Unresolved}
use Rattle.prelude.specs.declared.Refusal.TheVariants.{DefaultBank, PastBank, NoOutput, Overlap, StoreFull, TooShort, BadStore, BadPart, PartlyCovered}
use Rattle.prelude.specs.declared.Refusal.TheVariants.{FillBitDropped, OffProfile}
use Rattle.prelude.specs.declared.Place.{Place}
use Rattle.prelude.specs.declared.Place.TheVariants.{One, Two}

-- The table's first column, with the words of its second.
abbrev pub number_of : Refusal → ℕ
-- "the bank count is outside 1 to 16"
number_of BankCount = 1
-- "a bank number is beyond its limit, or a filled bank has size 0"
number_of (BankNumber bank) = 2
-- "two banks overlap"
number_of (BanksOverlap first second) = 3
-- "the list or a call's number is malformed: count, kind, bank number, state, limit, value range"
number_of (Malformed place) = 4
-- "a position would pass 4,294,967,295"
number_of (PositionPast node) = 5
-- 6, "a negative address in bits meets a nonzero alignment", is no longer given: document 02, Ticket 3
-- "a label in the last pass is off an address boundary"
number_of (LabelOffBoundary node) = 7
-- "the last pass ended unresolved"
number_of Unresolved = 8
-- "bank 0 is used while other banks exist"
number_of (DefaultBank node) = 9
-- "an item ends past its bank's size"
number_of (PastBank node) = 10
-- "an item is written in a bank without output offset"
number_of (NoOutput node) = 11
-- "a placement overlaps"
number_of (Overlap start size) = 12
-- "the store holds 512 and the offer, of nonzero size, shares no bit"
number_of (StoreFull node) = 13
-- "a lent output is too short: image 0, spans 1, blocks 2, hex 3"
number_of (TooShort buffer) = 14
-- "a store is given with over 512 entries, or entries past an offer's limits, empty, not ascending or sharing a bit"
number_of (BadStore entry) = 15
-- "a part of an image is empty, outside it, or not on byte edges"
number_of BadPart = 16
-- document 02, Ticket 4: "17 (new) for a range partly covered"
number_of PartlyCovered = 17
-- document 02, Ticket 7: "18 (new) for a way back that would drop a fill bit of one"
number_of FillBitDropped = 18
-- document 02, Ticket 9: "19 (new), after 4 and before the first pass; place: rule and bank or node"
number_of (OffProfile rule at) = 19

-- "Places: 2 its bank; 3 the first pair; 4 in a layout the node, or field 0, 1, 2 for node count, row count, limit; 5, 6, 7, 9, 10,
-- 11 the node, 13 too in a build; 12 the stored start and size; 14 the buffer; 15 the first entry at fault, 512 for the count;
-- otherwise 0." Of 19, document 02: "place: rule and bank or node".
abbrev pub place_of : Refusal → Place
place_of BankCount = One 0
place_of (BankNumber bank) = One bank
place_of (BanksOverlap first second) = Two first second
place_of (Malformed place) = One place
place_of (PositionPast node) = One node
place_of (LabelOffBoundary node) = One node
place_of Unresolved = One 0
place_of (DefaultBank node) = One node
place_of (PastBank node) = One node
place_of (NoOutput node) = One node
place_of (Overlap start size) = Two start size
place_of (StoreFull node) = One node
place_of (TooShort buffer) = One buffer
place_of (BadStore entry) = One entry
place_of BadPart = One 0
place_of PartlyCovered = One 0
place_of FillBitDropped = One 0
place_of (OffProfile rule at) = Two rule at
