-- Stretches of bytes that agree: equal slices, and a whole stretch passed over at once.
use mathlib.Core.Path.{◌≡◌, sym, ap, ◌∙◌}
use mathlib.Core.Bool.{Bool, true}
use mathlib.Core.List.{List}
use Prim.Native.Nat.{ℕ, zero, suc, ◌+◌, ◌-◌, ◌≤◌, ◌<◌}
use borrow.Author.Tests.{eq-eqb}
use lib.ListN.{get_or, take, drop}
use Rattle.std.proofs.lemmas.List.{get_or-take, get_or-drop}
use native.Mathlib.Omega.{arith}
use Rattle.overlay.specs.Runs.{length_from, AgreeOn}
use Rattle.overlay.proofs.RunLaws.{look-on}

-- slices that are equal agree at each byte
pub stretch-agrees : (o r : List ℕ) (at m n : ℕ) → m ≡ n → take m (drop at o) ≡ take m (drop at r) → AgreeOn o r at n
stretch-agrees o r at m n k e x lo hi =
    let here : (xs : List ℕ) → get_or (take m (drop at xs)) (x - at) 0 ≡ get_or xs x 0 =
    λ xs. get_or-take m (drop at xs) (x - at) 0 (omega arith) ∙ get_or-drop at xs (x - at) 0 ∙ ap (λ (j : ℕ). get_or xs j 0) (omega arith) in
    eq-eqb (get_or o x 0) (get_or r x 0) (sym (here o) ∙ ap (λ (l : List ℕ). get_or l (x - at) 0) e ∙ here r)

module _ (test : ℕ → Bool) where
  -- n bytes at which the test holds, passed over at once
  pub look-far : (n at to i : ℕ) → i + n ≤ to → ((x : ℕ) → i ≤ x → x < i + n → test x ≡ true)
      → at + length_from test at (to - at) ≡ i + length_from test i (to - i)
      → at + length_from test at (to - at) ≡ (i + n) + length_from test (i + n) (to - (i + n))
  look-far zero at to i h e inv = inv ∙ ap (λ (k : ℕ). k + length_from test k (to - k)) (omega arith)
  look-far (suc n) at to i h e inv =
      look-far n at to (i + 1) (omega arith) (λ x lo hi. e x (omega arith) (omega arith))
      (look-on test at to i (omega arith) (e i (omega arith) (omega arith)) inv)
      ∙ ap (λ (k : ℕ). k + length_from test k (to - k)) (omega arith)
