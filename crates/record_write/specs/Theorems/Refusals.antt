-- What follows from the promises of `write_ihex` and `write_srec`: one outcome.
use Rattle.std.specs.Prelude.{◌≡◌, ℕ, List, Result}
use Rattle.prelude.specs.Laws.Pick.{determined}
use Rattle.prelude.specs.declared.Refusal.{Refusal}
use Rattle.record_write.specs.Hex.{WritesHex}
use Rattle.record_write.specs.Srec.{WritesSrec}

module _ {image offsets sizes : List ℕ} {load : ℕ} {old : List ℕ} where
  -- One answer, and one text.
  pub hex-one-writing : {r s : Result ℕ Refusal} {a b : List ℕ} → WritesHex image offsets sizes load old r a → WritesHex image offsets sizes load old s b
      → (r ≡ s) × (a ≡ b)
  hex-one-writing p q = (determined p.writes.answer q.writes.answer, determined p.writes.lent q.writes.lent)

  pub srec-one-writing : {width : ℕ} {r s : Result ℕ Refusal} {a b : List ℕ} → WritesSrec image offsets sizes load width old r a
      → WritesSrec image offsets sizes load width old s b
      → (r ≡ s) × (a ≡ b)
  srec-one-writing p q = (determined p.answer q.answer, determined p.lent q.lent)
