-- What `dk_part` says of a block of an image, from document 01.
use Rattle.std.specs.Prelude.{◌≡◌, List, ℕ, ◌+◌, ◌*◌, ◌<◌, ◌%◌, length}
use Rattle.c_answers.specs.declared.DkPart.{DkPart}
use Rattle.says.specs.Words.{Tries, Not}

module _ (image : List ℕ) (offset size : ℕ) where
  -- 16: "a part of an image is empty, outside it, or not on byte edges": `size` bits from bit `offset` on
  pub data Unfit : Type 0 where
    empty : size ≡ 0 → Unfit
    outside : 8 * length image < offset + size → Unfit
    starts-off : Not (offset % 8 ≡ 0) → Unfit
    ends-off : Not ((offset + size) % 8 ≡ 0) → Unfit

  -- "For a block on byte edges the caller gets back that part of its own image": its first byte there, and how many bytes
  pub data Located : DkPart → Type 0 where
    located : {first count : ℕ} → offset ≡ 8 * first → size ≡ 8 * count → Located (record { refusal = 0; start = first; length = count })

  -- "Refused (16), the part is empty"
  abbrev pub PartSays : DkPart → Type 0
  PartSays = Tries (λ (_ : Unit {0}). Unfit) (λ _. record { refusal = 16; start = 0; length = 0 }) Located
