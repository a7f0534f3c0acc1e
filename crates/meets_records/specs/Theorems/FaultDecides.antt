-- The sentences of `dk_record_fault` leave one outcome, the answer and the lent scratch: the scratch as it was, and an answer that does not depend on it.
-- From the sentences alone.
use Rattle.std.specs.Prelude.{◌≡◌, refl, List, ◌⊎◌, ℕ, suc, ◌≤◌, ◌<◌, take}
use Rattle.std.proofs.Common.{sym, ap, ◌∙◌, ⊎_elim, arith, take-take}
use Rattle.sort.specs.Laws.Sorted.{le-or-lt}
use Rattle.record_lines.specs.Pieces.{Piece}
use Rattle.c_answers.specs.declared.DkFault.{DkFault}
use Rattle.meets.specs.Laws.Words.{OneOnly}
use Rattle.says.specs.Read as r
use Rattle.says.specs.Read.{Good, GoesOn, FaultSays}

module _ (format load : ℕ) (text : List ℕ) where
  fewer : (m n : ℕ) → m ≤ n → GoesOn format load text n → GoesOn format load text m
  fewer m n h (r.goes_on {ls = ls} {ms = ms} g a b e) =
      r.goes_on g a b (sym (take-take m n ms h) ∙ ap (λ (l : List (List ℕ)). take m l) e ∙ take-take m n ls h)

  itself : (n : ℕ) {ps : List Piece} → Good format load text ps → GoesOn format load text n
  itself n (r.good (r.hex f a s) w o) = r.goes_on (r.good (r.hex f a s) w o) a a refl
  itself n (r.good (r.s-records f d a s) w o) = r.goes_on (r.good (r.s-records f d a s) w o) a a refl

  -- in a format that is neither no file is good
  no_other : {n : ℕ} → (format ≡ 0 → ⊥) → (format ≡ 1 → ⊥) → GoesOn format load text n → ⊥
  no_other p q (r.goes_on (r.good (r.hex f a s) w o) x y e) = p f
  no_other p q (r.goes_on (r.good (r.s-records f d a s) w o) x y e) = q f

  not-below : (i j : ℕ) → i < j → GoesOn format load text j → (GoesOn format load text (suc i) → ⊥) → ⊥
  not-below i j h on never = never (fewer (suc i) j (omega arith) on)

  pub fault-decides : (scratch : List ℕ) → OneOnly (FaultSays format load text scratch)
  fault-decides scratch y z (r.none g) (r.none h) = refl
  fault-decides scratch y z (r.none g) (r.at {i} on never) = absurd (never (itself (suc i) g))
  fault-decides scratch y z (r.at {i} on never) (r.none h) = absurd (never (itself (suc i) h))
  fault-decides scratch y z (r.at {i} on never) (r.at {i = j} go stop) =
      let same : i ≡ j = ⊎_elim
      (λ le. ⊎_elim (λ ge. omega arith) (λ lt. absurd (not-below i j lt go never)) (le-or-lt j i))
      (λ lt. absurd (not-below j i lt on stop))
      (le-or-lt i j) in
      rw same
  fault-decides scratch y z (r.none g) (r.no-format p q) = absurd (no_other p q (itself 0 g))
  fault-decides scratch y z (r.no-format p q) (r.none h) = absurd (no_other p q (itself 0 h))
  fault-decides scratch y z (r.at on never) (r.no-format p q) = absurd (no_other p q on)
  fault-decides scratch y z (r.no-format p q) (r.at on never) = absurd (no_other p q on)
  fault-decides scratch y z (r.no-format p q) (r.no-format p' q') = refl

  -- the scratch is given back as it was
  pub fault-keeps-scratch : {scratch : List ℕ} (y : DkFault × List ℕ) → FaultSays format load text scratch y → y.1 ≡ scratch
  fault-keeps-scratch y (r.none g) = refl
  fault-keeps-scratch y (r.at on never) = refl
  fault-keeps-scratch y (r.no-format p q) = refl

  -- with other scratch it answers the same
  other-scratch : {scratch : List ℕ} (other : List ℕ) (y : DkFault × List ℕ) → FaultSays format load text scratch y
      → FaultSays format load text other (y.0, other)
  other-scratch other y (r.none g) = r.none g
  other-scratch other y (r.at on never) = r.at on never
  other-scratch other y (r.no-format p q) = r.no-format p q

  pub any-scratch-fault : {scratch other : List ℕ} (y z : DkFault × List ℕ) → FaultSays format load text scratch y → FaultSays format load text other z
      → y.0 ≡ z.0
  any-scratch-fault {scratch} {other} y z a b =
      ap (λ (x : DkFault × List ℕ). x.0) (fault-decides other (y.0, other) z (other-scratch other y a) b)
