-- An item written into an image: which bit of the image afterwards comes from where. Document 01: "Bits run from the top of each byte,
-- value bytes too." An item's bit j, counted from value bit `start`, is the image's bit `position` + j; every other bit stays.
use Rattle.std.specs.Prelude.{◌≡◌, Bool, ◌&&◌, List, ℕ, ◌+◌, ◌-◌, ◌*◌, ◌≤◌, ◌<◌, length, Err}
use Rattle.prelude.specs.Pick.{pick}
use Rattle.prelude.specs.Told.{Told, gives, refuses, Nothing, nothing, told_verdict}
use Rattle.prelude.specs.declared.Place.TheVariants.{One}
use Rattle.prelude.specs.declared.Refusal.TheVariants.{Malformed}
use Rattle.prelude.specs.Verdict.{Verdict, Accepted}
use Rattle.bitvec.specs.Within.{ends_within, covers}
use Rattle.bitvec.specs.Bits.{bit_at, of_bits}

-- Bit k of the image afterwards.
unfoldable pub written_bit : List ℕ → ℕ → List ℕ → ℕ → ℕ → ℕ → ℕ
written_bit image position values start size k =
    pick (covers position size k) (bit_at values (start + (k - position))) (bit_at image k)

-- The image afterwards.
unfoldable pub written : List ℕ → ℕ → List ℕ → ℕ → ℕ → List ℕ
written image position values start size = of_bits (length image) (written_bit image position values start size)

-- An item is written when it passes neither the image's end nor the values'.
abbrev pub is_written : List ℕ → ℕ → List ℕ → ℕ → ℕ → Bool
is_written image position values start size =
    ends_within (length image) position size && ends_within (length values) start size

-- What is told of a call: an item that passes neither end is written; one that passes either is refused 4, place 0.
pub data WriteTold (image : List ℕ) (position : ℕ) (values : List ℕ) (start size : ℕ) : Told Nothing → Type 0 where
  both-within : position + size ≤ 8 * length image → start + size ≤ 8 * length values → WriteTold image position values start size (gives nothing)
  past-image : 8 * length image < position + size → WriteTold image position values start size (refuses 4 (One 0))
  past-values : 8 * length values < start + size → WriteTold image position values start size (refuses 4 (One 0))

-- A call: its answer, and the image afterwards, which a refusal leaves as it was; and the answer's figures.
pub record Writes (image : List ℕ) (position : ℕ) (values : List ℕ) (start size : ℕ) (verdict : Verdict) (after : List ℕ) : Type 0 where
  pub answer : verdict ≡ pick (is_written image position values start size) Accepted (Err (Malformed 0))
  pub bytes : after ≡ pick (is_written image position values start size) (written image position values start size) image
  pub told : WriteTold image position values start size (told_verdict verdict)
