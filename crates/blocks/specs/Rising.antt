-- The blocks ascend by offset, and none is empty.
use Rattle.std.specs.Prelude.{ℕ}
use Rattle.blocks.specs.declared.Block.{Block}

-- a block's first bit
abbrev pub origin_of : Block → ℕ
origin_of b = b.origin
