-- Laws that Theorems/Has rests on.
use Rattle.std.specs.Prelude.{List, ◌≡◌, ℕ, ◌+◌, length}
use Rattle.std.proofs.Common.{arith}
use Rattle.form_fields.specs.Contents.{bytes16, field}

pub field-length : (tag : ℕ) (payload : List ℕ) → length (field tag payload) ≡ 3 + length payload
unfolding field bytes16
field-length tag payload = omega arith
