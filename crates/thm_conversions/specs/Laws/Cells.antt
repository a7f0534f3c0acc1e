-- Laws that Theorems/Cells rests on.
use Rattle.std.specs.Prelude.{ℕ, zero, suc, ◌+◌, ◌*◌, ◌<◌, ◌≤◌, ◌≡◌, refl, List, [], ◌∷◌, eqb, get_or, length, take, drop}
use Rattle.std.proofs.Common.{sym, ap, ◌∙◌, not-suc-le-zero, arith, length-append, length-drop, length-take-le, take-take, drop-drop}
use Rattle.std.proofs.lemmas.List.{take-append-le}
use Rattle.std.proofs.Math.Seq.{drop-append-add}
use Rattle.prelude.specs.Pick.{pick}
use Rattle.thm_conversions.specs.Widened.{turned, zeros_ahead}

-- ---- one column

rest : (n m : ℕ) (cells : List ℕ) → length cells ≡ suc m * n → length (drop n cells) ≡ m * n
rest n m cells e = let d = length-drop n cells in omega (arith, suc-times m n)
  where
    suc-times : (m n : ℕ) → suc m * n ≡ n + m * n
    suc-times m n = omega arith

front : (n m : ℕ) (cells : List ℕ) → length cells ≡ suc m * n → length (take n cells) ≡ n
front n m cells e = length-take-le n cells (first (m * n) (suc-times m n))
  where
    suc-times : (m n : ℕ) → suc m * n ≡ n + m * n
    suc-times m n = omega arith

    first : (k : ℕ) → suc m * n ≡ n + k → n ≤ length cells
    first k f = omega (arith, e, f)

pub length-ahead : (n rows : ℕ) (cells : List ℕ) → length cells ≡ rows * n → length (zeros_ahead n rows cells) ≡ rows * suc n
length-ahead n zero cells e = omega arith
length-ahead n (suc m) cells e =
    ap suc (length-append (take n cells) (zeros_ahead n m (drop n cells)))
    ∙ more (length (take n cells)) (length (zeros_ahead n m (drop n cells))) (front n m cells e) (length-ahead n m (drop n cells) (rest n m cells e))
  where
    more : (a b : ℕ) → a ≡ n → b ≡ m * suc n → suc (a + b) ≡ suc m * suc n
    more a b f g = rw (f, g) (omega arith)

-- Row r of a column with the zeros is a zero and row r of the column.
pub row-ahead : (n rows : ℕ) (cells : List ℕ) → length cells ≡ rows * n → (r : ℕ) → r < rows
    → take (suc n) (drop (r * suc n) (zeros_ahead n rows cells)) ≡ 0 ∷ take n (drop (r * n) cells)
row-ahead n zero cells e r h = absurd (not-suc-le-zero h)
row-ahead n (suc m) cells e zero h =
    ap (λ (k : ℕ). take (suc n) (drop k (zeros_ahead n (suc m) cells))) (none (suc n))
    ∙ ap (λ (l : List ℕ). 0 ∷ l)
    (take-append-le n (take n cells) (zeros_ahead n m (drop n cells)) (whole (front n m cells e)) ∙ take-take n n cells (omega arith))
    ∙ ap (λ (k : ℕ). 0 ∷ take n (drop k cells)) (sym (none n))
  where
    none : (k : ℕ) → 0 * k ≡ 0
    none k = omega arith

    whole : {k : ℕ} → k ≡ n → n ≤ k
    whole f = omega arith
row-ahead n (suc m) cells e (suc r) h =
    ap (λ (k : ℕ). take (suc n) (drop k (zeros_ahead n (suc m) cells))) (past (length (take n cells)) (front n m cells e))
    ∙ ap (λ (l : List ℕ). take (suc n) l) (drop-append-add (0 ∷ take n cells) (zeros_ahead n m (drop n cells)) (r * suc n))
    ∙ row-ahead n m (drop n cells) (rest n m cells e) r (omega arith)
    ∙ ap (λ (l : List ℕ). 0 ∷ take n l) (drop-drop (r * n) n cells ∙ ap (λ (k : ℕ). drop k cells) (sym (times r n)))
  where
    times : (r n : ℕ) → suc r * n ≡ n + r * n
    times r n = omega arith

    past : (a : ℕ) → a ≡ n → suc r * suc n ≡ suc a + r * suc n
    past a f = rw f (omega arith)

-- ---- the operands

pub turned-length : (kinds operands : List ℕ) → length operands ≡ length kinds → length (turned kinds operands) ≡ length kinds
turned-length [] operands e = e
turned-length (k ∷ kinds) [] e = absurd (zero-suc e)
  where
    zero-suc : {n : ℕ} → zero ≡ suc n → ⊥
    zero-suc f = omega arith
turned-length (k ∷ kinds) (o ∷ operands) e = ap suc (turned-length kinds operands (pred e))
  where
    pred : {a b : ℕ} → suc a ≡ suc b → a ≡ b
    pred f = omega arith

pub turned-at : (kinds operands : List ℕ) → length operands ≡ length kinds → (i : ℕ)
    → get_or (turned kinds operands) i 0 ≡ pick (eqb (get_or kinds i 0) 1) 1 (get_or operands i 0)
turned-at [] operands e i = refl
turned-at (k ∷ kinds) [] e i = absurd (zero-suc e)
  where
    zero-suc : {n : ℕ} → zero ≡ suc n → ⊥
    zero-suc f = omega arith
turned-at (k ∷ kinds) (o ∷ operands) e zero = refl
turned-at (k ∷ kinds) (o ∷ operands) e (suc i) = turned-at kinds operands (pred e) i
  where
    pred : {a b : ℕ} → suc a ≡ suc b → a ≡ b
    pred f = omega arith
