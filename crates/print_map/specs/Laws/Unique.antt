-- The text's contract is `Writes` of the file's text, which leaves one outcome: the answer and every byte of the buffer.
use Rattle.std.specs.Prelude.{◌≡◌, List, ℕ}
use Rattle.prelude.specs.Laws.Pick.{determined}
use Rattle.print_text.specs.Puts.{Writes}

pub writes-unique : {text old : List ℕ} {at r s : ℕ} {a b : List ℕ} → Writes text old at r a → Writes text old at s b → (r ≡ s) × (a ≡ b)
writes-unique p q = (determined p.place q.place, determined p.buffer q.buffer)
