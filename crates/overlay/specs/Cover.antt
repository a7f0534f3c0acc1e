-- Which bits the overlay's blocks cover, and what that makes of a byte and of a range (document 02, Ticket 4).
use Rattle.std.specs.Prelude.{Bool, true, false, not, ◌&&◌, ◌||◌, List, [], ◌∷◌, ℕ, zero, suc, ◌+◌, ◌*◌}
use Rattle.bitvec.specs.Within.{covers}

-- Blocks are lent as two lists, offsets and sizes in bits. Bit k is covered when it is one of the bits of some block.
unfoldable pub covered_bit : List ℕ → List ℕ → ℕ → Bool
covered_bit [] sizes k = false
covered_bit (o ∷ offsets) [] k = false
covered_bit (o ∷ offsets) (s ∷ sizes) k = covers o s k || covered_bit offsets sizes k

-- All of test 0, test 1, .. test (n - 1) hold.
unfoldable pub every : ℕ → (ℕ → Bool) → Bool
every zero test = true
every (suc n) test = every n test && test n

-- From here on, which bits are covered is a function. "A byte counts as covered only when all eight bits are."
unfoldable pub covered_byte : (ℕ → Bool) → ℕ → Bool
covered_byte bit b = every 8 (λ i. bit (8 * b + i))

-- "every byte of the range is covered": the `count` bytes from byte `first` on
unfoldable pub all_covered : (ℕ → Bool) → ℕ → ℕ → Bool
all_covered bit first count = every count (λ i. covered_byte bit (first + i))

-- "if no bit of it is"
unfoldable pub none_covered : (ℕ → Bool) → ℕ → ℕ → Bool
none_covered bit first count = every (8 * count) (λ i. not (bit (8 * first + i)))
