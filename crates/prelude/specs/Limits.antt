-- Document 01's table "Thing, Accepted": each limit by a name. A limit that is the range of a type in the code is here too, since
-- the definitions speak of plain numbers.
use Rattle.std.specs.Prelude.{ℕ}

-- "banks, bank 0 included: 1 to 16"
abbrev pub max_banks : ℕ
max_banks = 16

-- "address unit: 1 to 65,535 bits"
abbrev pub max_unit : ℕ
max_unit = 65535

-- "start address: -2^40 to 2^40"
abbrev pub max_start : ℕ
max_start = 1099511627776

-- "size, offset, alignment, position: 0 to 4,294,967,295"
abbrev pub max_position : ℕ
max_position = 4294967295

-- "offer to the store: position to 8,589,934,590, size to 4,294,967,295"
abbrev pub max_offer : ℕ
max_offer = 8589934590

-- "nodes; rows; pass limit: 0 to 4,096; 1 to 16; 0 to 255"
abbrev pub max_nodes : ℕ
max_nodes = 4096

abbrev pub max_rows : ℕ
max_rows = 16

abbrev pub max_limit : ℕ
max_limit = 255

-- "stored intervals: 512"
abbrev pub max_stored : ℕ
max_stored = 512
