-- Laws that Theorems/RunFacts rests on.
use Rattle.std.specs.Prelude.{◌≡◌, refl, Bool, ◌⊎◌, get_or}
use Rattle.std.proofs.Common.{sym, ap, ◌∙◌}
use Rattle.std.proofs.Math.Path.{subst}
use Rattle.std.proofs.Math.Bool.{true, false}
use mathlib.Core.List.{List, ◌∷◌}
use Rattle.std.proofs.Math.Logic.{inl, inr, ⊎_elim}
use Prim.Native.Nat.{ℕ, zero, suc, ◌+◌, ◌≤◌, ◌<◌}
use Rattle.std.proofs.Math.Decide.{dec_lt}
use native.Mathlib.Omega.{arith}
use Rattle.std.proofs.Math.ListN.{length}
use Rattle.prelude.specs.Pick.{pick}
use Rattle.blocks.specs.declared.Block.{Block}
use Rattle.blocks.specs.Walk.{block}
use Rattle.overlay.specs.Laws.CoverFacts.{either, clash}
use Rattle.overlay.specs.Runs.{length_from, runs_from}
use Rattle.overlay.specs.RunFacts.{Holds}

holds-next : (r : Block) (l : List Block) (b : ℕ) → Holds l b → Holds (r ∷ l) b
holds-next r l b h = record { place = suc h.place; listed = omega (arith, h.listed); from = h.from; below = h.below }

-- ---- how far a test holds

module _ (test : ℕ → Bool) where
  pub length-le : (at n : ℕ) → length_from test at n ≤ n
  unfolding length_from
  length-le at zero = omega arith
  length-le at (suc n) = go (test at) (length-le (suc at) n)
    where
      go : (t : Bool) → length_from test (suc at) n ≤ n → pick t (suc (length_from test (suc at) n)) 0 ≤ suc n
      go true h = omega arith
      go false h = omega arith

  pub length-holds : (at n x : ℕ) → at ≤ x → x < at + length_from test at n → test x ≡ true
  unfolding length_from
  length-holds at zero x l u = absurd (omega arith)
  length-holds at (suc n) x l u =
      either (test at)
      (λ e.
      let v : x < at + suc (length_from test (suc at) n) = rw e at u in
      elim (dec_lt at x) [
        | yes y ↦ length-holds (suc at) n x (omega arith) (omega arith)
        | no y ↦ subst (λ (m : ℕ). test m ≡ true) (omega arith) e
      ])
      (λ e. let v : x < at + 0 = rw e at u in absurd (omega arith))

  pub length-stops : (at n : ℕ) → length_from test at n < n → test (at + length_from test at n) ≡ false
  unfolding length_from
  length-stops at zero h = absurd (omega arith)
  length-stops at (suc n) h =
      either (test at)
      (λ e.
      let v : suc (length_from test (suc at) n) < suc n = rw e at h in
      rw e (subst (λ (m : ℕ). test m ≡ false) (omega arith) (length-stops (suc at) n (omega arith))))
      (λ e. rw e (subst (λ (m : ℕ). test m ≡ false) (omega arith) e))

  -- ---- the runs

  abbrev pub none : Block
  none = block 0 0

  -- what each run is, among those of the n bytes from `at` on
  pub record Good (at n : ℕ) (inside : Bool) (r : Block) : Type 0 where
    pub from : at ≤ r.origin
    pub some : 0 < r.size
    pub within : r.origin + r.size ≤ at + n
    pub holds : (b : ℕ) → r.origin ≤ b → b < r.origin + r.size → test b ≡ true
    pub after : r.origin + r.size < at + n → test (r.origin + r.size) ≡ false
    pub before : (b : ℕ) → at ≤ b → suc b ≡ r.origin → test b ≡ false
    pub fresh : at ≡ r.origin → inside ≡ false

  good-later : (at n : ℕ) (inside : Bool) (r : Block) → Good (suc at) n (test at) r → Good at (suc n) inside r
  good-later at n inside r g =
      record {
        from = omega (arith, g.from);
        some = g.some;
        within = omega (arith, g.within);
        holds = g.holds;
        after = λ h. g.after (omega arith);
        before = λ b l e.
            elim (dec_lt at b) [
              | yes y ↦ g.before b y e
              | no y ↦ subst (λ (m : ℕ). test m ≡ false) (omega arith) (g.fresh (omega arith))
            ];
        fresh = λ e. absurd (omega (arith, g.from));
      }

  good-here : (at n : ℕ) → test at ≡ true → Good at (suc n) false (block at (length_from test at (suc n)))
  unfolding length_from
  good-here at n e =
      record {
        from = omega arith;
        some = rw e (omega arith);
        within = omega (arith, length-le at (suc n));
        holds = length-holds at (suc n);
        after = λ h. length-stops at (suc n) (omega arith);
        before = λ b l s. absurd (omega arith);
        fresh = λ s. refl;
      }

  -- the list by its first byte
  runs_here : (at n : ℕ) → test at ≡ true → runs_from test at (suc n) false ≡ block at (length_from test at (suc n)) ∷ runs_from test (suc at) n (test at)
  unfolding runs_from
  runs_here at n e = rw e

  runs_on : (at n : ℕ) → runs_from test at (suc n) true ≡ runs_from test (suc at) n (test at)
  unfolding runs_from
  runs_on at n = either (test at) (λ e. rw e) (λ e. rw e)

  runs_past : (at n : ℕ) (inside : Bool) → test at ≡ false → runs_from test at (suc n) inside ≡ runs_from test (suc at) n (test at)
  unfolding runs_from
  runs_past at n inside e = rw e

  first-or : (at n : ℕ) → test at ≡ true → (i : ℕ)
      → ((j : ℕ) → j < length (runs_from test (suc at) n (test at)) → Good at (suc n) false (get_or (runs_from test (suc at) n (test at)) j none))
      → i < length (block at (length_from test at (suc n)) ∷ runs_from test (suc at) n (test at))
      → Good at (suc n) false (get_or (block at (length_from test at (suc n)) ∷ runs_from test (suc at) n (test at)) i none)
  first-or at n e zero rest h = good-here at n e
  first-or at n e (suc i) rest h = rest i (omega arith)

  pub each-good : (at n : ℕ) (inside : Bool) (i : ℕ) → i < length (runs_from test at n inside) → Good at n inside (get_or (runs_from test at n inside) i none)
  unfolding runs_from
  each-good at zero inside i h = absurd (omega arith)
  each-good at (suc n) true i h =
      let l : i < length (runs_from test (suc at) n (test at)) = subst (λ (m : List Block). i < length m) (runs_on at n) h in
      subst (λ (m : List Block). Good at (suc n) true (get_or m i none)) (sym (runs_on at n))
      (good-later at n true (get_or (runs_from test (suc at) n (test at)) i none) (each-good (suc at) n (test at) i l))
  each-good at (suc n) false i h =
      let rest = runs_from test (suc at) n (test at) in
      either (test at)
      (λ e.
      let l : i < length (block at (length_from test at (suc n)) ∷ rest) = subst (λ (m : List Block). i < length m) (runs_here at n e) h in
      subst (λ (m : List Block). Good at (suc n) false (get_or m i none)) (sym (runs_here at n e))
      (first-or at n e i (λ j k. good-later at n false (get_or rest j none) (each-good (suc at) n (test at) j k)) l))
      (λ e.
      let l : i < length rest = subst (λ (m : List Block). i < length m) (runs_past at n false e) h in
      subst (λ (m : List Block). Good at (suc n) false (get_or m i none)) (sym (runs_past at n false e))
      (good-later at n false (get_or rest i none) (each-good (suc at) n (test at) i l)))

  first_below : (r : Block) (l : List Block) → ((m : ℕ) → m < length l → r.origin < (get_or l m none).origin)
      → ((i j : ℕ) → i < j → j < length l → (get_or l i none).origin < (get_or l j none).origin)
      → (i j : ℕ) → i < j → j < length (r ∷ l) → (get_or (r ∷ l) i none).origin < (get_or (r ∷ l) j none).origin
  first_below r l below rest zero zero h k = absurd (omega arith)
  first_below r l below rest zero (suc j) h k = below j (omega arith)
  first_below r l below rest (suc i) zero h k = absurd (omega arith)
  first_below r l below rest (suc i) (suc j) h k = rest i j (omega arith) (omega arith)

  -- runs begin one behind the other
  pub rise : (at n : ℕ) (inside : Bool) (i j : ℕ) → i < j → j < length (runs_from test at n inside)
      → (get_or (runs_from test at n inside) i none).origin < (get_or (runs_from test at n inside) j none).origin
  unfolding runs_from
  rise at zero inside i j l h = absurd (omega arith)
  rise at (suc n) true i j l h =
      let k : j < length (runs_from test (suc at) n (test at)) = subst (λ (m : List Block). j < length m) (runs_on at n) h in
      subst (λ (m : List Block). (get_or m i none).origin < (get_or m j none).origin) (sym (runs_on at n)) (rise (suc at) n (test at) i j l k)
  rise at (suc n) false i j l h =
      let rest = runs_from test (suc at) n (test at) in
      either (test at)
      (λ e.
      let k : j < length (block at (length_from test at (suc n)) ∷ rest) = subst (λ (m : List Block). j < length m) (runs_here at n e) h in
      subst (λ (m : List Block). (get_or m i none).origin < (get_or m j none).origin) (sym (runs_here at n e))
      (first_below (block at (length_from test at (suc n))) rest (λ m v. omega (arith, (each-good (suc at) n (test at) m v).from))
      (rise (suc at) n (test at)) i j l k))
      (λ e.
      let k : j < length rest = subst (λ (m : List Block). j < length m) (runs_past at n false e) h in
      subst (λ (m : List Block). (get_or m i none).origin < (get_or m j none).origin) (sym (runs_past at n false e)) (rise (suc at) n (test at) i j l k))

  -- a byte at which the test holds is in a run, or in the one that came before
  pub reached : (at n : ℕ) (inside : Bool) (b : ℕ) → at ≤ b → b < at + n → test b ≡ true
      → ((inside ≡ true) × (b < at + length_from test at n)) ⊎ Holds (runs_from test at n inside) b
  unfolding length_from
  reached at zero inside b l h e = absurd (omega arith)
  reached at (suc n) inside b l h e =
      let rest = runs_from test (suc at) n (test at) in
      either (test at)
      (λ t.
      let long : length_from test at (suc n) ≡ suc (length_from test (suc at) n) = rw t in
      elim (dec_lt b (at + suc (length_from test (suc at) n))) [
        | yes y ↦
            either inside
            (λ i. inl (i, rw t y))
            (λ i. inr (subst (λ (m : List Block). Holds m b) (sym (ap (runs_from test at (suc n)) i ∙ runs_here at n t))
            (record { place = 0; listed = omega arith; from = l; below = rw t y })))
        | no y ↦
            ⊎_elim
            (λ p. absurd (omega arith))
            (λ p. inr (either inside
            (λ i. subst (λ (m : List Block). Holds m b) (sym (ap (runs_from test at (suc n)) i ∙ runs_on at n)) p)
            (λ i. subst (λ (m : List Block). Holds m b) (sym (ap (runs_from test at (suc n)) i ∙ runs_here at n t))
            (holds-next (block at (length_from test at (suc n))) rest b p))))
            (reached (suc at) n (test at) b (omega arith) (omega arith) e)
      ])
      (λ t.
      let past : at < b = elim (dec_lt at b) [ yes y ↦ y | no y ↦ let s : b ≡ at = omega arith in absurd (clash (rw s at e) t) ] in
      ⊎_elim
      (λ p. absurd (clash p.0 t))
      (λ p. inr (subst (λ (m : List Block). Holds m b) (sym (runs_past at n inside t)) p))
      (reached (suc at) n (test at) b past (omega arith) e))
