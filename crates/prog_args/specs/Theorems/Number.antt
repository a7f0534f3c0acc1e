-- Theorems about what Number defines.
use Rattle.std.specs.Prelude.{◌≡◌, refl, Bool, true, false, List, [], ◌∷◌, ℕ, ◌+◌, ◌*◌, ◌<◌, ltb, None, Some}
use Rattle.std.proofs.Common.{arith}
use Rattle.std.proofs.lemmas.Bool.{lt-leb}
use Rattle.prelude.specs.Limits.{max_position}
use Rattle.prog_args.specs.Laws.Number.{either-none}
use Rattle.prog_args.specs.Number.{digit_value, number_from, base_of, number_in}

grows : (hex : Bool) (value d : ℕ) → max_position < value → max_position < base_of hex * value + d
grows true value d h = omega arith
grows false value d h = omega arith

-- Digits behind a number past the limit spell none within it.
pub past-stays-past : (hex : Bool) (value : ℕ) (text : List ℕ) → max_position < value → number_from (base_of hex) value text ≡ None
unfolding number_from
past-stays-past hex value [] h = rw (lt-leb value max_position h)
past-stays-past hex value (c ∷ text) h =
    either-none (ltb (digit_value c) (base_of hex)) (number_from (base_of hex) (base_of hex * value + digit_value c) text)
    (past-stays-past hex (base_of hex * value + digit_value c) text (grows hex value (digit_value c) h))

-- `128` spells 128, and so does `0x80`; `4294967296` is past the limit, and `12x` and `0x` are none.
pub spells-128 : number_in (49 ∷ 50 ∷ 56 ∷ []) ≡ Some 128
unfolding number_from
spells-128 = refl

pub spells-0x80 : number_in (48 ∷ 120 ∷ 56 ∷ 48 ∷ []) ≡ Some 128
unfolding number_from
spells-0x80 = refl

pub spells-0xFf : number_in (48 ∷ 88 ∷ 70 ∷ 102 ∷ []) ≡ Some 255
unfolding number_from
spells-0xFf = refl

pub spells-no-0x : number_in (48 ∷ 120 ∷ []) ≡ None
spells-no-0x = refl

pub spells-no-4294967296 : number_in (52 ∷ 50 ∷ 57 ∷ 52 ∷ 57 ∷ 54 ∷ 55 ∷ 50 ∷ 57 ∷ 54 ∷ []) ≡ None
unfolding number_from
spells-no-4294967296 = refl

pub spells-no-12x : number_in (49 ∷ 50 ∷ 120 ∷ []) ≡ None
unfolding number_from
spells-no-12x = refl
