-- Laws for the tests of a file: the library's words for a test of all and for a search, over a list, a column and two lists.
use mathlib.Core.Bool.{Bool, true, false, cond, ◌&&◌}
use mathlib.Core.List.{List, [], ◌∷◌}
use mathlib.Core.Path.{◌≡◌, refl, sym, ap, ap₂, ◌∙◌}
use Prim.Native.Nat.{ℕ, zero, suc, ◌+◌, ◌*◌, ◌≤◌}
use native.Mathlib.Omega.{arith}
use lib.Dec.{eqb}
use lib.ListN.{length}
use Rattle.std.proofs.Common.{Option, Some}
use Rattle.std.specs.Prelude.{unwrap_or}
use Rattle.std.specs.Cmp.Lexicographic.{pointwise}
use Rattle.std.specs.List.{list_all, find, range_with_len}
use Rattle.prelude.specs.Pick.{pick}
use Rattle.prelude.specs.Laws.Bools.{either}
use Rattle.bankdef.specs.Search.{first_where}
use Rattle.form_fields.specs.Columns.{column}
use Rattle.form_rewrite.specs.Turning.{all_of, same}

pub all_is : {A : Type 0} (test : A → Bool) (l : List A) → list_all test l ≡ all_of test l
unfolding all_of
all_is test [] = refl
all_is test (x ∷ l) = ap (λ (t : Bool). test x && t) (all_is test l)

pub same-is : (l m : List ℕ) → pointwise eqb l m ≡ same l m
unfolding same
same-is [] [] = refl
same-is [] (y ∷ m) = refl
same-is (x ∷ l) [] = refl
same-is (x ∷ l) (y ∷ m) = ap (λ (t : Bool). eqb x y && t) (same-is l m)

-- ---- a column by its numbers: p of the number, counted from a, is the test of what stands there

-- the same of the rest of a column
rest : {A : Type 0} (p : ℕ → Bool) (test : A → Bool) (read : ℕ → A) (step at a : ℕ) → ((i : ℕ) → p (a + i) ≡ test (read (at + i * step)))
    → (i : ℕ) → p (a + 1 + i) ≡ test (read (at + step + i * step))
rest p test read step at a h i =
    ap p {x = a + 1 + i} {y = a + (i + 1)} (omega arith) ∙ h (i + 1)
    ∙ ap (λ (k : ℕ). test (read k)) {x = at + (i + 1) * step} {y = at + step + i * step} (omega arith)

-- and of the first
first : {A : Type 0} (p : ℕ → Bool) (test : A → Bool) (read : ℕ → A) (step at a : ℕ) → ((i : ℕ) → p (a + i) ≡ test (read (at + i * step)))
    → p a ≡ test (read at)
first p test read step at a h =
    ap p {x = a} {y = a + 0} (omega arith) ∙ h 0 ∙ ap (λ (k : ℕ). test (read k)) {x = at + 0 * step} {y = at} (omega arith)

pub column_all : {A : Type 0} (p : ℕ → Bool) (test : A → Bool) (read : ℕ → A) (step at a n : ℕ) → ((i : ℕ) → p (a + i) ≡ test (read (at + i * step)))
    → list_all p (range_with_len a n) ≡ all_of test (column read step at n)
unfolding all_of column
column_all p test read step at a zero h = refl
column_all p test read step at a (suc n) h =
    ap₂ ◌&&◌ (first p test read step at a h) (column_all p test read step (at + step) (a + 1) n (rest p test read step at a h))

found : (t : Bool) (a n k : ℕ) (o : Option ℕ) → unwrap_or o (a + 1 + n) ≡ a + 1 + k → unwrap_or (cond t (Some a) o) (a + suc n) ≡ a + pick t 0 (suc k)
found true a n k o h = omega arith
found false a n k o h = ap (unwrap_or o) {x = a + suc n} {y = a + 1 + n} (omega arith) ∙ h ∙ omega arith

pub column_find : {A : Type 0} (p : ℕ → Bool) (test : A → Bool) (read : ℕ → A) (step at a n : ℕ) → ((i : ℕ) → p (a + i) ≡ test (read (at + i * step)))
    → unwrap_or (find p (range_with_len a n)) (a + n) ≡ a + first_where test (column read step at n)
unfolding first_where column
column_find p test read step at a zero h = refl
column_find p test read step at a (suc n) h =
    let more = column_find p test read step (at + step) (a + 1) n (rest p test read step at a h) in
    rw (sym (first p test read step at a h)) (found (p a) a n (first_where test (column read step (at + step) n)) (find p (range_with_len (a + 1) n)) more)

pub all_same : {A B : Type 0} (p : A → Bool) (q : B → Bool) (f : ℕ → A) (g : ℕ → B) → ((a : ℕ) → p (f a) ≡ q (g a)) → (step at n : ℕ)
    → all_of p (column f step at n) ≡ all_of q (column g step at n)
unfolding all_of column
all_same p q f g e step at zero = refl
all_same p q f g e step at (suc n) = ap₂ ◌&&◌ (e at) (all_same p q f g e step (at + step) n)

pub first-within : {A : Type 0} (p : A → Bool) (l : List A) → first_where p l ≤ length l
unfolding first_where
first-within p [] = omega arith
first-within p (x ∷ l) =
    let more = first-within p l in
    either (p x) (λ t. rw t (omega arith)) (λ t. rw t (omega arith))
