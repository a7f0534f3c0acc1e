-- What is refused before anything is written. Document 02, Ticket 1: "Refusals: 16 for a block by document 01's rule, 4 for blocks not ascending or
-- sharing a bit, an address past 2^32 - 1 or a bad file, then 14." Ticket 12: "4 also for an address that doesn't fit the width".
use Rattle.std.specs.Prelude.{ℕ, ◌+◌, ◌/◌, Bool, true, ◌&&◌, List, [], ◌∷◌, drop, ◌==◌, nat_le, slice_index}
use Rattle.prelude.specs.Pick.{pick}
use Rattle.blocks.specs.declared.Block.{Block}
use Rattle.blocks.specs.Walk.{end_of}
use Rattle.bitvec.specs.Part.{is_part}
use Rattle.record_write.specs.Cut.{blocks_in}

-- "a part of an image is empty, outside it, or not on byte edges": no block is.
unfoldable pub all_parts : ℕ → List Block → Bool
all_parts len [] = true
all_parts len (b ∷ l) = is_part len b.origin b.size && all_parts len l

-- A block ends before the next one starts, and its last byte has an address below 2^32.
abbrev pub starts_behind : ℕ → List Block → Bool
starts_behind end [] = true
starts_behind end (b ∷ l) = nat_le end b.origin

abbrev pub placed : ℕ → Block → List Block → Bool
placed load b l = starts_behind (end_of b) l && nat_le (load + b.origin / 8 + b.size / 8) 4294967296

-- Block i of those that are lent as offsets and sizes ends before the one behind it starts, if there is one.
abbrev pub ends_free : List ℕ → List ℕ → ℕ → Bool
ends_free offsets sizes i = starts_behind (slice_index offsets i + slice_index sizes i) (blocks_in (drop (i + 1) offsets) (drop (i + 1) sizes))

-- So do all blocks.
unfoldable pub all_placed : ℕ → List Block → Bool
all_placed load [] = true
all_placed load (b ∷ l) = placed load b l && all_placed load l

-- The last byte of each block has an address of 16 bits.
unfoldable pub all_short : ℕ → List Block → Bool
all_short load [] = true
all_short load (b ∷ l) = nat_le (load + b.origin / 8 + b.size / 8) 65536 && all_short load l

-- Format 2 has addresses of 16 bits, and the others of 32.
abbrev pub fits_width : ℕ → ℕ → List Block → Bool
fits_width format load blocks = pick (format == 2) (all_short load blocks) true
