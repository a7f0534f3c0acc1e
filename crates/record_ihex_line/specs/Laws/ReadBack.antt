-- Laws that Theorems/ReadBack rests on.
use Rattle.std.specs.Prelude.{◌≡◌, [], ◌∷◌, ℕ, ◌+◌, ◌-◌, ◌/◌, ◌%◌, ◌<◌}
use Rattle.std.proofs.Common.{arith}
use Rattle.bitvec.specs.Bits.{Bytes}
use Rattle.record_lines.specs.Laws.Spelled.{bytes-none, bytes-cons}

pub zero-sum : (s : ℕ) → (s + (256 - s % 256) % 256) % 256 ≡ 0
zero-sum s = omega arith

pub upper-bytes : (upper : ℕ) → upper < 65536 → Bytes (upper / 256 ∷ upper % 256 ∷ [])
upper-bytes u h = bytes-cons (u / 256) (u % 256 ∷ []) (omega arith) (bytes-cons (u % 256) [] (omega arith) bytes-none)
