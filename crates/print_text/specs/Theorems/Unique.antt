-- What a function that writes may do is one thing: its contract is `Puts` of its text, and two outcomes that meet `Puts` for the same
-- text, buffer and place are equal, the answer and every byte of the buffer. This is so of put_word, put_number, put_line,
-- put_refusal, put_passes, put_blocks, put_image and put_layout.
use Rattle.std.specs.Prelude.{◌≡◌, List, ℕ, Option}
use Rattle.prelude.specs.Laws.Pick.{determined}
use Rattle.print_text.specs.Puts.{Puts}

pub puts-unique : {text old : List ℕ} {at : ℕ} {r s : Option ℕ} {a b : List ℕ} → Puts text old at r a → Puts text old at s b → (r ≡ s) × (a ≡ b)
puts-unique p q = (determined p.place q.place, determined p.buffer q.buffer)
