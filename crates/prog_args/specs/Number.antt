-- The number that a text spells: decimal digits, or hexadecimal ones behind 0x, at least one, up to 4,294,967,295.
use Rattle.std.specs.Prelude.{◌≡◌, Bool, ◌&&◌, ◌||◌, List, [], ◌∷◌, ℕ, ◌+◌, ◌*◌, ◌-◌, leb, ltb, eqb, get_or, drop, Option, Some, None}
use Rattle.prelude.specs.Limits.{max_position}
use Rattle.prelude.specs.Pick.{pick}

-- `0` to `9`, `A` to `F`, `a` to `f`; 16 is no digit's value.
abbrev pub digit_value : ℕ → ℕ
digit_value c =
    pick (ltb c 48) 16
    (pick (leb c 57) (c - 48) (pick (ltb c 65) 16 (pick (leb c 70) (c - 55) (pick (ltb c 97) 16 (pick (leb c 102) (c - 87) 16)))))

-- What digits of a base spell behind a number that is spelled already.
unfoldable pub number_from : ℕ → ℕ → List ℕ → Option ℕ
number_from base value [] = pick (leb value max_position) (Some value) None
number_from base value (c ∷ text) = pick (ltb (digit_value c) base) (number_from base (base * value + digit_value c) text) None

abbrev pub spelled_in : ℕ → List ℕ → Option ℕ
spelled_in base [] = None
spelled_in base (c ∷ text) = number_from base 0 (c ∷ text)

abbrev pub base_of : Bool → ℕ
base_of hex = pick hex 16 10

-- "0x" or "0X"
abbrev pub is_hex : List ℕ → Bool
is_hex text = eqb (get_or text 0 0) 48 && (eqb (get_or text 1 0) 120 || eqb (get_or text 1 0) 88)

abbrev pub number_in : List ℕ → Option ℕ
number_in text = pick (is_hex text) (spelled_in 16 (drop 2 text)) (spelled_in 10 text)

-- What some text spells.
abbrev pub Spelled : Option ℕ → Type 0
Spelled r = (text : List ℕ) × (r ≡ number_in text)
