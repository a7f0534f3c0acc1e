-- Blocks written one behind the other into what is lent for them, as far as that goes.
use Rattle.std.specs.Prelude.{◌≡◌, List, ℕ, ◌+◌, length}
use Rattle.std.proofs.lemmas.List.Edits.{sets}
use Rattle.blocks.specs.declared.Block.{Block}
use Rattle.blocks.specs.Outcome.{origins, sizes}

-- What is lent, with `blocks` stored from the place `count` on, and the count after them. `sets l i v` stores the elements of v in l
-- from i on, and those past l's end nowhere.
pub record Put (blocks : List Block) (count : ℕ) (origins₀ sizes₀ : List ℕ) (r : ℕ) (origins₁ sizes₁ : List ℕ) : Type 0 where
  pub counted : r ≡ count + length blocks
  pub first : origins₁ ≡ sets origins₀ count (origins blocks)
  pub second : sizes₁ ≡ sets sizes₀ count (sizes blocks)
