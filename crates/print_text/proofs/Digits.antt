-- The digits of a number, written from the last to the first.
use Prim.Native.Nat.{ℕ, suc, ◌+◌, ◌-◌, ◌/◌, ◌%◌, ◌≤◌, ◌<◌}
use mathlib.Core.Path.{◌≡◌, sym, ap, ◌∙◌}
use mathlib.Core.List.{List, [], ◌∷◌, ◌++◌, append_assoc}
use native.Mathlib.Omega.{arith}
use lib.ListN.{length, set, length-set}
use lib.Seq.{sets}
use Rattle.print_text.specs.Decimal.{decimal, digit}
use Rattle.print_text.specs.Laws.Decimal.{decimal-few, length-few}
use Rattle.print_text.proofs.Decimal.{decimal-more, decimal-some, length_more}
use Rattle.print_text.specs.Laws.Sets.{sets-before}

-- what is written so far is `tail`, from behind i on
pub record Digits (old : List ℕ) (at n : ℕ) (out : List ℕ) (left i : ℕ) : Type 0 where
  pub tail : List ℕ
  pub digits : decimal left ++ tail ≡ decimal n
  pub next : i + 1 ≡ at + length (decimal left)
  pub inside : length (decimal left) ≤ length (decimal n)
  pub buffer : out ≡ sets old (suc i) tail
  pub long : length out ≡ length old

-- a turn writes the last digit of what is left
pub turn : {old : List ℕ} {at n : ℕ} {out : List ℕ} {left i : ℕ} (d : ℕ) → 10 ≤ left → d ≡ digit (left % 10)
    → Digits old at n out left i → Digits old at n (set out i d) (left / 10) (i - 1)
turn {old} {at} {n} {out} {left} {i} d h e k =
    let one = length_more left h in
    let some = decimal-some (left / 10) in
    let now : suc (i - 1) ≡ i = omega (arith, k.next, one, some) in
    record {
      tail = d ∷ k.tail;
      digits = rw e (sym (append_assoc (decimal (left / 10)) (digit (left % 10) ∷ []) k.tail) ∙ ap (λ (l : List ℕ). l ++ k.tail) (sym
          (decimal-more left h)) ∙ k.digits);
      next = omega (arith, k.next, one, some);
      inside = omega (arith, k.inside, one);
      buffer = ap (λ (l : List ℕ). set l i d) k.buffer ∙ sets-before old (suc i) k.tail i d (omega arith) ∙ ap (λ (j : ℕ). sets old j (d ∷ k.tail))
          (sym now);
      long = simp length-set k.long;
    }

-- the last turn writes what is left, and all digits stand
pub last : {old : List ℕ} {at n : ℕ} {out : List ℕ} {left i : ℕ} (d : ℕ) → left < 10 → d ≡ digit left
    → Digits old at n out left i → set out i d ≡ sets old at (decimal n)
last {old} {at} {n} {out} {left} {i} d h e k =
    let now : i ≡ at = omega (arith, k.next, length-few left h) in
    let all : d ∷ k.tail ≡ decimal n = rw e (ap (λ (l : List ℕ). l ++ k.tail) (sym (decimal-few left h)) ∙ k.digits) in
    ap (λ (l : List ℕ). set l i d) k.buffer ∙ sets-before old (suc i) k.tail i d (omega arith)
    ∙ ap (λ (j : ℕ). sets old j (d ∷ k.tail)) now ∙ ap (sets old at) all
