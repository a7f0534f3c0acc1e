-- What the list of runs says: exactly the bytes that are listed, each run maximal, ascending.
use Rattle.std.specs.Prelude.{◌≡◌, true, List, ℕ, ◌+◌, ◌*◌, ◌≤◌, ◌<◌, length, get_or}
use Rattle.blocks.specs.declared.Block.{Block}
use Rattle.blocks.specs.Walk.{block}
use Rattle.overlay.specs.Cover.{covered_bit}
use Rattle.overlay.specs.Trial.{Trial}

-- Byte b is one of the bytes of some run of the list.
pub record Holds (runs : List Block) (b : ℕ) : Type 0 where
  pub place : ℕ
  pub listed : place < length runs
  pub from : (get_or runs place (block 0 0)).origin ≤ b
  pub below : b < (get_or runs place (block 0 0)).origin + (get_or runs place (block 0 0)).size

-- ---- the list of the bench

-- A byte of the list: inside both images, all eight bits covered, not the same in the two.
pub record IsListed (t : Trial) (b : ℕ) : Type 0 where
  pub overlaid : b < length t.overlay
  pub issued : b < length t.released
  pub covered : (k : ℕ) → 8 * b ≤ k → k < 8 * b + 8 → covered_bit t.offsets t.sizes k ≡ true
  pub different : get_or t.overlay b 0 ≡ get_or t.released b 0 → ⊥
