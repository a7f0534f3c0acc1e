-- std's search by position is the definitions' search, and a walk over banks by it. Assumes nothing.
use Rattle.std.proofs.Common.{◌≡◌, refl, ap, sym, ◌∙◌, Bool, true, false, ℕ, ◌+◌, ◌<◌, List, [], ◌∷◌, length, get_or, drop, drop-cons, add-one, ◌≤◌, ltb-false, Some, None, Iter, Bor, arith}
use Rattle.std.specs.Prelude.{Option, ltb, unwrap_or, Err}
use Rattle.std.specs.List.{position, position_or_len}
use Rattle.std.specs.List.{enumerate_from}
use Rattle.std.specs.Slice.Iter.{iter_rest}
use Rattle.std.specs.Iterator.Adapters.{skip_source, skip_count, skip_steps, enumerate_source, enumerate_count, enumerate_steps}
use Rattle.std.specs.declared.iter.Skip.{Skip}
use Rattle.std.specs.declared.iter.Enumerate.{Enumerate}
use Rattle.std.proofs.iter.Yields.{fronts}
use Rattle.std.proofs.lemmas.Iterator.{YieldsList, YieldsList-from_slice}
use Rattle.std.proofs.lemmas.Iterator.Adapters.{YieldsList-from_skip}
use Rattle.std.proofs.lemmas.Iterator.Consumers.{YieldsList-from_enumerate}
use Rattle.std.proofs.lemmas.List.Recursion.{is_position_or_len}
use Rattle.std.proofs.lemmas.List.FromFn.{length-enumerate_from, get_or-enumerate_from}
use Rattle.std.proofs.lemmas.List.{at_drop_all}
use Rattle.std.proofs.lemmas.List.Sums.{prefix_len-le-length}
use Rattle.std.proofs.lemmas.Grind.{get_or_after_one}
use Rattle.prelude.specs.Laws.Bools.{either}
use Rattle.prelude.specs.declared.Refusal.TheVariants.{BanksOverlap}
use Rattle.prelude.specs.Verdict.{Verdict, Accepted}
use Rattle.bankdef.specs.declared.Bankdef.{Bankdef}
use Rattle.bankdef.specs.Overlap.{pair_overlaps}
use Rattle.bankdef.specs.Search.{first_where, some_where}
use Rattle.bankdef.specs.Check.{first_pair}

module _ {A : Type 0} (p : A → Bool) where
  -- how many stand before the first that passes
  pub counted : (l : List A) → first_where p l ≡ position_or_len p l
  unfolding first_where
  counted l = is_position_or_len (first_where p) p refl (λ x xs. either (p x) (λ e. rw e (omega arith)) (λ e. rw e (omega arith))) l

  -- what is found, and that nothing is
  pub found : (l : List A) {j : ℕ} → position p l ≡ Some j → (some_where p l ≡ true) × (first_where p l ≡ j)
  found l {j} e = rw counted (either (ltb (position_or_len p l) (length l))
      (λ t. let s : Some (position_or_len p l) ≡ Some j = rw t at e in (t, cc))
      (λ t. let s : ◌≡◌ {A = Option ℕ} None (Some j) = rw t at e in absurd (cc)))

  pub unfound : (l : List A) → position p l ≡ None → some_where p l ≡ false
  unfound l e = rw counted (either (ltb (position_or_len p l) (length l))
      (λ t. let s : ◌≡◌ {A = Option ℕ} (Some (position_or_len p l)) None = rw t at e in absurd (cc))
      (λ t. t))

  -- the first that passes, or the count where none does
  pub or_count : (l : List A) → unwrap_or (position p l) (length l) ≡ first_where p l
  or_count l =
      let most : position_or_len p l ≤ length l = prefix_len-le-length _ l in
      rw counted (either (ltb (position_or_len p l) (length l)) (λ t. rw t) (λ t. rw t (omega (arith, ltb-false _ _ t))))

-- A walk over the banks after bank 0, each with its number: what it goes over, what it meets, and its end.
pub numbered : {s : Skip (Enumerate (Iter Bankdef))} (l : List Bankdef) → iter_rest (enumerate_source (skip_source s)) ≡ l
    → enumerate_count (skip_source s) ≡ 0 → skip_count s ≡ 1
    → YieldsList (skip_steps (enumerate_steps fronts)) (λ (p : ℕ × Bor Bankdef). (p.0, p.1.now)) s (drop 1 (enumerate_from 0 l))
numbered l e f g = YieldsList-from_skip 1 (YieldsList-from_enumerate (YieldsList-from_slice l e) f) g

met : (l : List Bankdef) (k : ℕ) (x : ℕ × Bankdef)
    → (k < length (drop 1 (enumerate_from 0 l))) × (x ≡ get_or (drop 1 (enumerate_from 0 l)) k x)
    → (x.0 ≡ 1 + k) × (x.0 < length l) × (x.1 ≡ get_or l x.0 x.1)
met [] k x t = absurd (omega (arith, t.0))
met (z ∷ l) k x t =
    let h : k < length l = omega (arith, t.0, length-enumerate_from 1 l) in
    let e : x ≡ (1 + k, get_or l k x.1) = t.1 ∙ get_or-enumerate_from 1 l k x h in
    let i : x.0 ≡ 1 + k = ap (λ (y : ℕ × Bankdef). y.0) e in (
      i,
      omega arith,
      ap (λ (y : ℕ × Bankdef). y.1) e ∙ get_or_after_one (z ∷ l) k x.1 ∙ ap (λ (j : ℕ). get_or (z ∷ l) j x.1) (sym i),
    )

pub past : (l : List Bankdef) (k : ℕ) {v : Verdict} → k ≡ length (drop 1 (enumerate_from 0 l)) → v ≡ first_pair (1 + k) (drop (1 + k) l) → Accepted ≡ v
unfolding first_pair
past [] k e inv = sym (inv ∙ at_drop_all (first_pair (1 + k)) [] (1 + k) (omega arith))
past (z ∷ l) k e inv =
    let h : length (z ∷ l) ≤ 1 + k = omega (arith, e, length-enumerate_from 1 l) in
    sym (inv ∙ at_drop_all (first_pair (1 + k)) (z ∷ l) (1 + k) h)

-- A bank's search among the banks after it: a bank found is the pair's second, and otherwise the pairs go on after it.
module _ (l : List Bankdef) (k : ℕ) (x : ℕ × Bankdef) (t : (k < length (drop 1 (enumerate_from 0 l))) × (x ≡ get_or (drop 1 (enumerate_from 0 l)) k x))
    {v : Verdict} (inv : v ≡ first_pair (1 + k) (drop (1 + k) l)) {later : List Bankdef} (after : later ≡ drop (x.0 + 1) l) where
  here : v ≡ first_pair x.0 (x.1 ∷ later)
  here =
      let m = met l k x t in
      inv ∙ ap (λ (i : ℕ). first_pair i (drop i l)) (sym m.0) ∙ ap (first_pair x.0) (drop-cons l x.0 x.1 m.1 ∙ cc (add-one x.0))

  pub pair : {j : ℕ} → position (pair_overlaps x.1) later ≡ Some j → Err (BanksOverlap x.0 (x.0 + 1 + j)) ≡ v
  unfolding first_pair
  pair {j} s =
      let f = found (pair_overlaps x.1) later s in
      rw (here, f.0, f.1)

  pub no-pair : position (pair_overlaps x.1) later ≡ None → v ≡ first_pair (1 + (k + 1)) (drop (1 + (k + 1)) l)
  unfolding first_pair
  no-pair s =
      let f = unfound (pair_overlaps x.1) later s in
      let n : x.0 + 1 ≡ 1 + (k + 1) = omega (arith, (met l k x t).0) in
      let e : v ≡ first_pair (x.0 + 1) later = rw f at here in
      e ∙ ap (first_pair (x.0 + 1)) after ∙ ap (λ (i : ℕ). first_pair i (drop i l)) n
