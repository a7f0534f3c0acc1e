-- How many things a call wrote, or why none: a number, or a refusal's number and place.
use Rattle.std.specs.Prelude.{Result, ℕ, Ok, Err}
use Rattle.prelude.specs.declared.Refusal.{Refusal}
use Rattle.c_answers.specs.Told.{counted, refused_count}
use Rattle.c_answers.specs.declared.DkCount.{DkCount}

-- blocks
abbrev pub blocks_count : Result ℕ Refusal → DkCount
blocks_count (Ok n) = counted n
blocks_count (Err why) = refused_count why

-- digits of hex
abbrev pub hex_count : Result ℕ Refusal → DkCount
hex_count (Ok n) = counted n
hex_count (Err why) = refused_count why

-- characters of a file of records
abbrev pub written_count : Result ℕ Refusal → DkCount
written_count (Ok n) = counted n
written_count (Err why) = refused_count why

-- bytes of a converted file
abbrev pub conversion_count : Result ℕ Refusal → DkCount
conversion_count (Ok n) = counted n
conversion_count (Err why) = refused_count why

-- runs of bytes that differ
abbrev pub listed_count : Result ℕ Refusal → DkCount
listed_count (Ok n) = counted n
listed_count (Err why) = refused_count why
