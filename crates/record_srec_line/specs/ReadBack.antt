-- A line that was written says what was put into it, at either width: one law over the width.
use Rattle.std.specs.Prelude.{ℕ}

-- ---- the item

-- S1 with S9, S3 with S7
pub data Width : ℕ → Type 0 where
  two : Width 2
  four : Width 4
