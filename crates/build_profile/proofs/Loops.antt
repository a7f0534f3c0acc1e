-- What a turn of a loop over banks, nodes or rows shows, and how the code reads a node's number.
use Prim.Native.Nat.{ℕ, zero, suc, ◌+◌, ◌*◌, ◌<◌, ◌≤◌}
use mathlib.Core.Path.{◌≡◌, refl, sym, ap, ◌∙◌, fun_ext}
use mathlib.Core.Bool.{Bool, true, false, not, ◌||◌}
use mathlib.Core.List.{List, [], ◌∷◌, ◌++◌, map}
use mathlib.Core.Logic.{⊎_elim}
use native.Mathlib.Nat.{eq-or-lt_of_le, not-suc-le-zero, le_of_suc-le-suc}
use native.Mathlib.Numerals.{add-one}
use native.Mathlib.Omega.{arith}
use lib.Dec.{eqb}
use lib.ListN.{get_or, length, take, drop, set, replicate}
use lib.Seq.{get_or-take, get_or-drop}
use borrow.Author.Tests.{eqb-true, ne_eqb, not-true, not-false}
use Rattle.prelude.specs.Laws.Bools.{either}
use Rattle.prelude.specs.Pick.{pick}
use Rattle.prelude.specs.Laws.Pick.{pick-false}
use Rattle.bankdef.specs.declared.Bankdefs.{Bankdefs}
use Rattle.build_profile.specs.Laws.RuleLaws.{KeptTo}
use Rattle.build_profile.specs.Rules.{all, number_in, aligned, node_aligned, multiple, addr_kept}
use Rattle.build_profile.specs.Standing.{bank_before, bank_of_node}
use Rattle.build_profile.specs.Steps.{Sized, nodes_of}

module _ (keeps : ℕ → Bool) where
  pub none_yet : KeptTo keeps 0
  none_yet k h = absurd (not-suc-le-zero h)

  pub one_more : (i : ℕ) → KeptTo keeps i → {t : Bool} → t ≡ keeps i → not t ≡ false → KeptTo keeps (i + 1)
  one_more i kept {t} e n k h =
      let g : k ≤ i = omega arith in
      ⊎_elim (λ (q : k ≡ i). rw q (sym e ∙ not-false t n)) (λ (g : k < i). kept k g) (eq-or-lt_of_le g)

  pub is-broken : (i : ℕ) {t : Bool} → t ≡ keeps i → not t ≡ true → keeps i ≡ false
  is-broken i {t} e n = sym e ∙ not-true t n

module _ (kinds operands numbers : List ℕ) (rows i : ℕ) (listed : i < length kinds) where
  -- it is what the row shows, but for kind 5
  shown : (r : ℕ) → (get_or kinds i 0 ≡ 5 → ⊥) → number_in (nodes_of kinds operands numbers rows) r i ≡ get_or numbers (r * length kinds + i) 0
  shown r other =
      pick-false _ _ (ne_eqb (get_or kinds i 0) 5 other)
      ∙ (get_or-take (length kinds) (drop (r * length kinds) numbers) i 0 listed ∙ get_or-drop (r * length kinds) numbers i 0)

  gated : (want : ℕ) (test : ℕ → Bool) → (want ≡ 5 → ⊥) → (r : ℕ)
      → not (eqb (get_or kinds i 0) want) || test (get_or numbers (r * length kinds + i) 0)
      ≡ not (eqb (get_or kinds i 0) want) || test (number_in (nodes_of kinds operands numbers rows) r i)
  gated want test other r =
      either (eqb (get_or kinds i 0) want)
      (λ t.
      let k = eqb-true (get_or kinds i 0) want t in
      ap (λ (x : ℕ). not (eqb (get_or kinds i 0) want) || test x) (sym (shown r (λ five. other (sym k ∙ five)))))
      (λ t. rw t)

  pub aligns-read : all (λ r. node_aligned (get_or kinds i 0) (get_or numbers (r * length kinds + i) 0)) rows
      ≡ all (λ r. node_aligned (get_or kinds i 0) (number_in (nodes_of kinds operands numbers rows) r i)) rows
  aligns-read = ap (λ (f : ℕ → Bool). all f rows) (fun_ext (gated 8 aligned (λ e. omega arith)))

  pub addrs-read : (unit : ℕ) → all (λ r. addr_kept unit (get_or kinds i 0) (get_or numbers (r * length kinds + i) 0)) rows
      ≡ all (λ r. addr_kept unit (get_or kinds i 0) (number_in (nodes_of kinds operands numbers rows) r i)) rows
  addrs-read unit = ap (λ (f : ℕ → Bool). all f rows) (fun_ext (gated 9 (λ x. multiple x unit) (λ e. omega arith)))

-- the bank in force, carried along
module _ (kinds operands : List ℕ) where
  pub begins : 0 ≡ bank_before kinds operands 0
  unfolding bank_before
  begins = refl

  pub goes_on : (i : ℕ) {bank next : ℕ} → bank ≡ bank_before kinds operands i → next ≡ pick (eqb (get_or kinds i 0) 1) (get_or operands i 0) bank
      → next ≡ bank_of_node kinds operands i
  unfolding bank_before
  goes_on i e f = f ∙ ap (λ (b : ℕ). pick (eqb (get_or kinds i 0) 1) (get_or operands i 0) b) e

  -- it is one of the table's
  pub stays-listed : (banks : Bankdefs) (numbers : List ℕ) (rows : ℕ) → Sized banks kinds operands numbers rows → (i : ℕ) → i ≤ length kinds
      → bank_before kinds operands i < banks.len
  unfolding bank_before
  stays-listed banks numbers rows s zero h = s.some
  stays-listed banks numbers rows s (suc i) h =
      either (eqb (get_or kinds i 0) 1)
      (λ t. rw t (s.switches i (omega arith) (eqb-true (get_or kinds i 0) 1 t)))
      (λ t. rw t (stays-listed banks numbers rows s i (omega arith)))

-- one element more of a list that is filled from the front
module _ {A : Type 0} (f : A → ℕ) (x : ℕ) (d : A) where
  next-filled : (l : List A) (i m : ℕ) → i < length l
      → set (map f (take i l) ++ replicate (suc m) x) i (f (get_or l i d)) ≡ map f (take (suc i) l) ++ replicate m x
  next-filled [] i m h = absurd (not-suc-le-zero h)
  next-filled (a ∷ l) zero m h = refl
  next-filled (a ∷ l) (suc i) m h = ap (λ (t : List ℕ). f a ∷ t) (next-filled l i m (le_of_suc-le-suc h))

  pub fill-next : (l : List A) (i m : ℕ) → i < length l
      → set (map f (take i l) ++ replicate (suc m) x) i (f (get_or l i d)) ≡ map f (take (i + 1) l) ++ replicate m x
  fill-next l i m h = rw add-one (next-filled l i m h)
