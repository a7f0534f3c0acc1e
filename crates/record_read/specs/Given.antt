-- What a file gives, address by address, and the lent bytes afterwards. Document 02, Ticket 1: "It fills lent bytes and blocks, counted from that address."
-- "Exactly the bytes that the file gives change. Every other lent byte, gaps too, keeps its contents."
use Rattle.std.specs.Prelude.{Bool, false, ◌&&◌, ◌||◌, List, [], ◌∷◌, ℕ, ◌+◌, ◌-◌, leb, ltb, length, get_or}
use Rattle.prelude.specs.Pick.{pick}
use Rattle.bitvec.specs.Lists.{list_of}
use Rattle.record_lines.specs.Pieces.{Piece, end_of}

-- A piece has a byte at an address.
abbrev pub holds : Piece → ℕ → Bool
holds p a = leb p.address a && ltb a (end_of p)

-- So has one of the pieces.
unfoldable pub given : List Piece → ℕ → Bool
given [] a = false
given (p ∷ l) a = holds p a || given l a

-- The byte that pieces give at an address, or what was there. (A sound file gives no byte twice.)
unfoldable pub byte_at : List Piece → ℕ → ℕ → ℕ
byte_at [] a old = old
byte_at (p ∷ l) a old = byte_at l a (pick (holds p a) (get_or p.bytes (a - p.address) 0) old)

-- The lent bytes afterwards: the first is that of the load address.
unfoldable pub filled : ℕ → List Piece → List ℕ → List ℕ
filled load pieces old = list_of (length old) (λ j. byte_at pieces (load + j) (get_or old j 0))
