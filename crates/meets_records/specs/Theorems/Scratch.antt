-- Lent scratch of `dk_read_records` stays as it is, and nothing else depends on it (of `dk_record_fault` in FaultDecides). From the sentences alone.
use Rattle.std.specs.Prelude.{◌≡◌, refl, List, ◌⊎◌, ℕ, ◌-◌, ◌≤◌, ◌<◌, length}
use Rattle.std.proofs.Common.{ap}
use Rattle.record_lines.specs.Pieces.{Piece}
use Rattle.c_answers.specs.declared.DkCount.{DkCount}
use Rattle.says.specs.Words as words
use Rattle.says.specs.Words.{Tries}
use Rattle.says.specs.Read as s
use Rattle.says.specs.Read.{GivenTo, Good, Blocks, Lent, Outcome, refusal, Filled, Accepts, ReadSays}
use Rattle.meets_records.specs.Theorems.ReadDecides.{read-decides}

-- what is lent, with other scratch
abbrev pub with_scratch : Lent → List ℕ → Lent
with_scratch l scratch = record { bytes = l.bytes; offsets = l.offsets; sizes = l.sizes; scratch = scratch }

module _ (format load : ℕ) (text : List ℕ) (old : Lent) where
  pub read-keeps-scratch : (y : Outcome) → ReadSays format load text old y → y.lent.scratch ≡ old.scratch
  read-keeps-scratch y (s.bad n) = refl
  read-keeps-scratch y (s.read g b (words.refused a m)) = refl
  read-keeps-scratch y (s.read g b (words.passed none (words.refused x m))) = refl
  read-keeps-scratch y (s.read g b (words.passed none (words.passed enough (s.accepts f o z)))) = refl

  module _ (scratch : List ℕ) where
    abbrev new : Lent
    new = with_scratch old scratch

    filled-too : {ps : List Piece} {bytes : List ℕ} → Filled format load text old ps bytes → Filled format load text new ps bytes
    filled-too f = record { as_long = f.as_long; given = f.given; kept = f.kept }

    other-scratch : (y : Outcome) → ReadSays format load text old y
        → ReadSays format load text new (record { answer = y.answer; lent = with_scratch y.lent scratch })
    other-scratch y (s.bad n) = s.bad n
    other-scratch y (s.read g b (words.refused a m)) = s.read g b (words.refused a m)
    other-scratch y (s.read g b (words.passed none (words.refused x m))) = s.read g b (words.passed none (words.refused x m))
    other-scratch y (s.read g b (words.passed none (words.passed enough (s.accepts f o z)))) =
        s.read g b (words.passed none (words.passed enough (s.accepts (filled-too f) o z)))

    -- With other scratch the answer and everything else that is lent are the same.
    pub any-scratch : (y z : Outcome) → ReadSays format load text old y → ReadSays format load text (with_scratch old scratch) z
        → z ≡ record { answer = y.answer; lent = with_scratch y.lent scratch }
    any-scratch y z a b = read-decides format load text new z _ b (other-scratch y a)
