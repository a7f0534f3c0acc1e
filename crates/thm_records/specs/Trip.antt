-- "Reading back our own file gives the same bytes at the same addresses, touching blocks joined."
use Rattle.std.specs.Prelude.{◌≡◌, List, ℕ, ◌≤◌, ◌<◌, length, get_or, Result}
use Rattle.prelude.specs.Told.{gives}
use Rattle.prelude.specs.declared.Refusal.{Refusal}
use Rattle.blocks.specs.declared.Block.{Block}
use Rattle.blocks.specs.Outcome.{origins, sizes, over, ToldBy}
use Rattle.record_read.specs.Outcome.{Lent}
use Rattle.thm_records.specs.Joined.{joined, InSome}

-- The room that the blocks take when they come back, and no more: a place for each of their bytes, and an element of both lists for each block, touching ones
-- joined.
pub record Room (blocks : List Block) (old : Lent) : Type 0 where
  pub bytes : (x : ℕ) → InSome blocks x → x < length old.bytes
  pub offsets : length (joined blocks) ≤ length old.offsets
  pub sizes : length (joined blocks) ≤ length old.sizes

-- What comes back of an image's blocks, in everything that was lent: the number of blocks, with touching ones joined; each byte of a block where it was in the
-- image; every other byte as it was; and the blocks, with those past them as they were.
pub record Back (image : List ℕ) (blocks : List Block) (old : Lent) (r : Result ℕ Refusal) (new : Lent) : Type 0 where
  pub told : ToldBy r ≡ gives (length (joined blocks))
  pub same : (j : ℕ) → InSome blocks j → get_or new.bytes j 0 ≡ get_or image j 0
  pub kept : (j : ℕ) → j < length old.bytes → (InSome blocks j → ⊥) → get_or new.bytes j 0 ≡ get_or old.bytes j 0
  pub long : length new.bytes ≡ length old.bytes
  pub offsets : new.offsets ≡ over (origins (joined blocks)) old.offsets
  pub sizes : new.sizes ≡ over (sizes (joined blocks)) old.sizes
