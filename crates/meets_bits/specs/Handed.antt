-- What `bitvec::part` hands out and `bitvec::part_verdict` answers, from document 01, by what `dk_part` says is no part of an image. That they do, and that
-- it leaves one outcome: Theorems/Part.
use Rattle.std.specs.Prelude.{◌≡◌, List, [], ℕ, ◌+◌, ◌*◌, ◌<◌, length, get_or}
use Rattle.prelude.specs.Told.{Told, gives, refuses, Nothing, nothing}
use Rattle.prelude.specs.declared.Place.TheVariants.{One}
use Rattle.says.specs.Words.{Tries, Is}
use Rattle.says.specs.Part.{Unfit}

module _ (image : List ℕ) (offset size : ℕ) where
  -- The bytes that `bitvec::part` hands out: that part, each byte of it.
  pub record Own (part : List ℕ) : Type 0 where
    pub first : ℕ
    pub starts : offset ≡ 8 * first
    pub as_long : size ≡ 8 * length part
    pub bytes : (i : ℕ) → i < length part → get_or part i 0 ≡ get_or image (first + i) 0

  abbrev pub BytesSay : List ℕ → Type 0
  BytesSay = Tries (λ (_ : Unit {0}). Unfit image offset size) (λ _. []) Own

  -- "and the number is asked for separately": 16 or none, of `bitvec::part_verdict`
  abbrev pub VerdictSays : Told Nothing → Type 0
  VerdictSays = Tries (λ (_ : Unit {0}). Unfit image offset size) (λ _. refuses 16 (One 0)) (Is (gives nothing))
