-- Document 01: "For a block on byte edges the caller gets back that part of its own image, not a copy. Refused (16), the part is empty,
-- and the number is asked for separately."
use Rattle.std.specs.Prelude.{◌≡◌, Bool, ◌&&◌, List, [], ℕ, ◌+◌, ◌*◌, ◌/◌, ◌%◌, ◌≤◌, ◌<◌, ltb, eqb, length, take, drop, Err}
use Rattle.prelude.specs.Pick.{pick}
use Rattle.prelude.specs.Told.{Told, gives, refuses, Nothing, nothing, told_verdict}
use Rattle.prelude.specs.declared.Place.TheVariants.{One}
use Rattle.prelude.specs.declared.Refusal.TheVariants.{BadPart}
use Rattle.prelude.specs.Verdict.{Verdict, Accepted}
use Rattle.bitvec.specs.Within.{ends_within}

-- 16 is given when "a part of an image is empty, outside it, or not on byte edges"; this is the contrary.
unfoldable pub is_part : ℕ → ℕ → ℕ → Bool
is_part len offset size =
    ltb 0 size && eqb (offset % 8) 0 && eqb (size % 8) 0 && ends_within len offset size

-- What each part has that is handed out.
pub record IsPart (len offset size : ℕ) : Type 0 where
  pub some : 0 < size
  pub starts : offset % 8 ≡ 0
  pub ends : size % 8 ≡ 0
  pub inside : offset + size ≤ 8 * len

-- 16: "a part of an image is empty, outside it, or not on byte edges"
pub data Unfit (len offset size : ℕ) : Type 0 where
  empty : size ≡ 0 → Unfit len offset size
  outside : 8 * len < offset + size → Unfit len offset size
  ragged-start : (offset % 8 ≡ 0 → ⊥) → Unfit len offset size
  ragged-end : (size % 8 ≡ 0 → ⊥) → Unfit len offset size

-- The bytes that the caller gets back.
abbrev pub part_of : List ℕ → ℕ → ℕ → List ℕ
part_of image offset size = pick (is_part (length image) offset size) (take (size / 8) (drop (offset / 8) image)) []

-- The answer of the call that asks for the number.
abbrev pub part_verdict : List ℕ → ℕ → ℕ → Verdict
part_verdict image offset size = pick (is_part (length image) offset size) Accepted (Err BadPart)

-- What is told of a part: it can be handed out, or is refused 16, place 0.
pub data PartTold (len offset size : ℕ) : Told Nothing → Type 0 where
  fit : IsPart len offset size → PartTold len offset size (gives nothing)
  unfit : Unfit len offset size → PartTold len offset size (refuses 16 (One 0))

pub record Parts (image : List ℕ) (offset size : ℕ) (part : List ℕ) : Type 0 where
  pub bytes : part ≡ part_of image offset size

pub record Judges (image : List ℕ) (offset size : ℕ) (verdict : Verdict) : Type 0 where
  pub answer : verdict ≡ part_verdict image offset size
  pub told : PartTold (length image) offset size (told_verdict verdict)
