-- Text that a program hands on: it stands at the front of a buffer, all of it, and so many bytes are handed on.
use Rattle.std.specs.Prelude.{◌≡◌, List, ◌++◌, ℕ, ◌≤◌, length, take, drop}

-- A text is put at the front of a buffer: how long it is, that there is room, and that everything behind it is as it was.
pub record Stands (text old : List ℕ) (count : ℕ) (new : List ℕ) : Type 0 where
  pub counted : count ≡ length text
  pub fits : length text ≤ length old
  pub buffer : new ≡ text ++ drop (length text) old

-- The first `count` bytes of a buffer are a text, and all of it.
pub record Shows (text : List ℕ) (count : ℕ) (buffer : List ℕ) : Type 0 where
  pub counted : count ≡ length text
  pub front : take count buffer ≡ text

-- Room for a refusal's line: the word, a number of two digits, and a place of at most two numbers of twenty.
abbrev pub line_room : ℕ
line_room = 128
