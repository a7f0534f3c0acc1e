-- Document 01, "Banks": the length that fill gives the image. Ticket 8: full fill beside it.
use Rattle.std.specs.Prelude.{ℕ, ◌+◌, ◌-◌, max, Bool, true, false, List, [], ◌∷◌, ltb, eqb, Option, Some, None}
use Rattle.prelude.specs.Pick.{pick}
use Rattle.bankdef.specs.declared.Bankdef.{Bankdef}

-- "if the image length is below h, it becomes h + 1"
abbrev pub raised_to : ℕ → ℕ → ℕ
raised_to h n = pick (ltb n h) (h + 1) n

-- "With fill, size and offset, let h = offset + size - 1". A bank of no bits at offset 0 leaves the length as it is: of natural
-- numbers, 0 - 1 is 0. (A filled bank of size 0 is refused by the table's check.)
abbrev pub filled_by : Bool → Option ℕ → Option ℕ → ℕ → ℕ
filled_by true (Some size) (Some offset) n = raised_to (offset + size - 1) n
filled_by true (Some size) None n = n
filled_by true None offset n = n
filled_by false size offset n = n

-- "Fill takes every bank in order"
unfoldable pub fill_from : ℕ → List Bankdef → ℕ
fill_from n [] = n
fill_from n (b ∷ l) = fill_from (filled_by b.fill b.size b.offset n) l

-- "bank 0 too"; an image that nothing is written to begins at length 0
abbrev pub fill_length : List Bankdef → ℕ
fill_length l = fill_from 0 l

-- Ticket 8: "offset + size among banks with fill, size and offset"; of another bank 0
abbrev pub end_by : Bool → Option ℕ → Option ℕ → ℕ
end_by true (Some size) (Some offset) = offset + size
end_by true (Some size) None = 0
end_by true None offset = 0
end_by false size offset = 0

abbrev pub fill_end : Bankdef → ℕ
fill_end b = end_by b.fill b.size b.offset

-- "full fill, where the fill's length is the largest offset + size .., or 0"
unfoldable pub full_length : List Bankdef → ℕ
full_length [] = 0
full_length (b ∷ l) = max (fill_end b) (full_length l)

-- "Add a choice to the build: inherited fill, the default .., or full fill": 1 is full fill. (A choice above 1 is refused before the fill.)
abbrev pub fill_by : ℕ → List Bankdef → ℕ
fill_by choice l = pick (eqb choice 1) (full_length l) (fill_length l)
