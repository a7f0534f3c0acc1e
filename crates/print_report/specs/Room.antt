-- Every report fits the buffer that the program lends for it, and one byte more than the longest file is all that need be read of the input.
use Rattle.std.specs.Prelude.{ℕ}

-- The buffer: at most 4,096 blocks of 30 bytes, 32,768 digits and two words are 155,674 bytes.
abbrev pub report_room : ℕ
report_room = 163840

-- "Form 2 may have 65,536 bytes": the longest file, and a byte more.
abbrev pub file_room : ℕ
file_room = 65537
