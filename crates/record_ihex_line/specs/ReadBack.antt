-- Every record that is written is good by the reader's own rule, and says what was put in: a data record its bytes from its address on, a type 04 record its
-- upper half, and the end record that it ends.
use Rattle.std.specs.Prelude.{List, [], ◌∷◌, ◌++◌, ℕ, ◌/◌, ◌%◌, length}
use Rattle.record_lines.specs.Digits.{bytes_text}
use Rattle.record_ihex_line.specs.Format.{record_bytes, check_of}

-- The bytes of a record with its checksum, and the characters of its line.
abbrev pub whole_of : ℕ → ℕ → List ℕ → List ℕ
whole_of type field bytes = length bytes ∷ field / 256 ∷ field % 256 ∷ type ∷ (bytes ++ (check_of (record_bytes type field bytes) ∷ []))

abbrev pub line_of : ℕ → ℕ → List ℕ → List ℕ
line_of type field bytes = 58 ∷ bytes_text (whole_of type field bytes)
