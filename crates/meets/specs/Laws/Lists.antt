-- Lists by their places: the value that stands for a missing one doesn't matter where there is one, and a list written over the front of another.
use Rattle.std.specs.Prelude.{◌≡◌, refl, List, [], ◌∷◌, ◌++◌, ℕ, zero, suc, ◌+◌, ◌-◌, ◌≤◌, ◌<◌, length, get_or, drop}
use Rattle.std.proofs.Common.{sym, ap, ◌∙◌, arith, length-append, length-drop, get_or-append-add, get_or-drop}
use Rattle.std.proofs.Math.ListN.{get_or-append}
use Rattle.says.specs.Words.{Begins}

pub any-default : {A : Type 0} (l : List A) (i : ℕ) (d e : A) → i < length l → get_or l i d ≡ get_or l i e
any-default [] i d e h = absurd (omega arith)
any-default (a ∷ l) zero d e h = refl
any-default (a ∷ l) (suc i) d e h = any-default l i d e (omega arith)

-- What is written stands at the front; what stands past it stays.
pub over-begins : (new old : List ℕ) → length new ≤ length old → Begins new old (new ++ drop (length new) old)
over-begins new old h = record {
  as_long = length-append new (drop (length new) old) ∙ omega (arith, length-drop (length new) old);
  front = λ i k. get_or-append new (drop (length new) old) 0 i k;
  kept = λ i k.
      let e : i ≡ length new + (i - length new) = omega arith in
      ap (λ (x : ℕ). get_or (new ++ drop (length new) old) x 0) e ∙ get_or-append-add new (drop (length new) old) (i - length new) 0
      ∙ get_or-drop (length new) old (i - length new) 0 ∙ ap (λ (x : ℕ). get_or old x 0) (sym e);
}
