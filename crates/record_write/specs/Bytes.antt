-- "The first byte of a block goes to a load address from the caller plus offset / 8": byte j of a block stands in a piece at the address j behind that, by the
-- definition of a file's bytes and addresses that knows no writer (`GivesAt`).
use Rattle.std.specs.Prelude.{◌≡◌, ℕ, ◌+◌, ◌/◌, ◌<◌, ◌≤◌, List, slice_index_or}
use mathlib.Core.List.{Memᴰ}
use Rattle.blocks.specs.declared.Block.{Block}

-- "the same bytes at the same addresses": the byte of a block that is written to an address.
pub record BlockByte (load : ℕ) (image : List ℕ) (blocks : List Block) (a b : ℕ) : Type 0 where
  pub of : Block
  pub among : Memᴰ of blocks
  pub index : ℕ
  pub inside : index < of.size / 8
  pub place : load + of.origin / 8 + index ≡ a
  pub byte : slice_index_or image (of.origin / 8 + index) 0 ≡ b

-- The same by addresses: a block has a byte at an address,
pub record Covers (load : ℕ) (blocks : List Block) (a : ℕ) : Type 0 where
  pub of : Block
  pub among : Memᴰ of blocks
  pub above : load + of.origin / 8 ≤ a
  pub below : a < load + of.origin / 8 + of.size / 8
