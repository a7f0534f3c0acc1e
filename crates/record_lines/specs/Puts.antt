-- Text written at the front of a lent part. What does not fit is left out, so that a text's length can be asked with an empty part.
use Rattle.std.specs.Prelude.{◌≡◌, ℕ, List, length}
use Rattle.std.proofs.lemmas.List.Edits.{sets}

-- The length of the text, and every character of the part afterwards.
pub record Puts (text old : List ℕ) (count : ℕ) (new : List ℕ) : Type 0 where
  pub long : count ≡ length text
  pub part : new ≡ sets old 0 text
