-- An image before anything is written. Document 01: "The rest of the lent image is zero."
use Rattle.std.specs.Prelude.{◌≡◌, List, ℕ, length, replicate}

-- What clearing leaves: as many bytes, each 0.
abbrev pub cleared : List ℕ → List ℕ
cleared image = replicate (length image) 0

pub record Clears (image after : List ℕ) : Type 0 where
  pub zeros : after ≡ cleared image
