-- A lent list with another written over its front, or 14 where it is too short.
use Rattle.std.specs.Prelude.{◌≡◌, List, ◌++◌, ℕ, ◌+◌, ◌-◌, ◌≤◌, ◌<◌, length, get_or, drop}
use Rattle.std.proofs.Common.{sym, ap, ◌∙◌, arith, length-append, length-drop, get_or-append-add, get_or-drop}
use Rattle.std.proofs.Math.ListN.{get_or-append}
use Rattle.says.specs.Words.{Tries, Begins}
use Rattle.says.specs.Write.{Given, Outcome, refusal, Accepts}

pub begins : (new old : List ℕ) → length new ≤ length old → Begins new old (new ++ drop (length new) old)
begins t old h = record {
  as_long = length-append t (drop (length t) old) ∙ omega (arith, length-drop (length t) old);
  front = λ i k. get_or-append t (drop (length t) old) 0 i k;
  kept = λ i k.
      let e : i ≡ length t + (i - length t) = omega arith in
      ap (λ (x : ℕ). get_or (t ++ drop (length t) old) x 0) e ∙ get_or-append-add t (drop (length t) old) (i - length t) 0
      ∙ get_or-drop (length t) old (i - length t) 0 ∙ ap (λ (x : ℕ). get_or old x 0) (sym e);
}

-- what is left where a text is to be written, in the sentences of `dk_write_hex` and `dk_write_srec`
abbrev pub Leaves : Given → List ℕ → List ℕ → Outcome → Type 0
Leaves g old t = Tries (λ (_ : Unit {0}). length old < length t) (λ _. refusal g old 14 3) (Accepts g old t)
