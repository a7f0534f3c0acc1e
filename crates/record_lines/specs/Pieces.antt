-- Bytes at addresses. A file, whatever its format and whoever wrote it, gives pieces: an address, and the bytes from there on.
use Rattle.std.specs.Prelude.{◌≡◌, ℕ, ◌+◌, ◌<◌, List, length, slice_index_or}
use mathlib.Core.List.{Memᴰ}

pub record Piece : Type 0 where
  pub address : ℕ
  pub bytes : List ℕ

abbrev pub piece : ℕ → List ℕ → Piece
piece address bytes = record { address = address; bytes = bytes }

-- The address behind its last byte.
abbrev pub end_of : Piece → ℕ
end_of p = p.address + length p.bytes

-- "the same bytes at the same addresses": pieces give the byte b at the address a when one of them has it there.
pub record GivesAt (pieces : List Piece) (a b : ℕ) : Type 0 where
  pub from : Piece
  pub among : Memᴰ from pieces
  pub index : ℕ
  pub inside : index < length from.bytes
  pub place : from.address + index ≡ a
  pub byte : slice_index_or from.bytes index 0 ≡ b
