-- `dk_overlay_runs`: by its contract it says the sentences (`runs-meet`), and they leave one outcome, the answer and both lists lent for it (`runs-decide`).
use Rattle.std.specs.Prelude.{◌≡◌, refl, Bool, true, false, List, [], ◌∷◌, ℕ, zero, suc, ◌+◌, ◌≤◌, ◌<◌, leb, length, get_or, Ok, Err}
use Rattle.std.proofs.Common.{sym, subst, inl, inr, ⊎_elim, arith, leb-true, leb-false}
use Rattle.std.proofs.lemmas.List.{length-map}
use Rattle.prelude.specs.Pick.{pick}
use Rattle.prelude.specs.declared.Refusal.TheVariants.{Malformed, TooShort}
use Rattle.blocks.specs.declared.Block.{Block}
use Rattle.blocks.specs.Outcome.{origins, sizes, over}
use Rattle.blocks.specs.Walk.{block}
use Rattle.overlay.specs.Order.{in_order}
use Rattle.overlay.specs.Runs.{runs_of}
use Rattle.overlay.specs.RunFacts.{IsListed}
use Rattle.overlay.specs.Theorems.RunFacts.{runs-hold-exactly, runs-maximal, runs-ascending}
use Rattle.overlay.specs.Trial.{Trial, trial}
use Rattle.c_model.specs.Overlays.{RunsTold}
use Rattle.c_answers.specs.Counts.{listed_count}
use Rattle.c_answers.specs.declared.DkCount.{DkCount}
use Rattle.meets.specs.Laws.Lists.{over-begins}
use Rattle.meets.specs.Laws.Words.{OneOnly, tries-one, begins-one}
use Rattle.says.specs.Words.{refused, passed}
use Rattle.meets_overlay.specs.Laws.Blocks.{bad-blocks, no-bad-blocks, is-covered, covered-is}
use Rattle.says.specs.Overlay as says
use Rattle.says.specs.Overlay.{BadBlocks, Listed, Runs, turned, Accepts, Lists, RunsSay}

module _ (overlay released os ss : List ℕ) where
  abbrev IsRuns : ℕ → List ℕ → List ℕ → Type 0
  IsRuns = Runs overlay released os ss

  abbrev Is : ℕ → Type 0
  Is = Listed overlay released os ss

  -- ---- they leave one outcome

  -- the first byte that is listed, and the first behind it that is not
  same_first : {at f g n m : ℕ} → at ≤ f → at ≤ g → 0 < n → 0 < m → ((b : ℕ) → at ≤ b → b < f → Is b → ⊥) → ((b : ℕ) → at ≤ b → b < g → Is b → ⊥)
      → ((b : ℕ) → f ≤ b → b < f + n → Is b) → ((b : ℕ) → g ≤ b → b < g + m → Is b) → f ≡ g
  same_first {at} {f} {g} {n} {m} a b some more p q in_f in_g =
      let no_less : f < g → ⊥ = λ h. q f a h (in_f f (omega arith) (omega arith)) in
      let no_more : g < f → ⊥ = λ h. p g b h (in_g g (omega arith) (omega arith)) in
      omega arith

  same_count : {f n m : ℕ} → ((b : ℕ) → f ≤ b → b < f + n → Is b) → ((b : ℕ) → f ≤ b → b < f + m → Is b) → (Is (f + n) → ⊥) → (Is (f + m) → ⊥) → n ≡ m
  same_count {f} {n} {m} in-n in-m past-n past-m =
      let no_less : n < m → ⊥ = λ h. past-n (in-m (f + n) (omega arith) (omega arith)) in
      let no_more : m < n → ⊥ = λ h. past-m (in-n (f + m) (omega arith) (omega arith)) in
      omega arith

  pub runs-one : {at : ℕ} {fs gs ns ms : List ℕ} → IsRuns at fs ns → IsRuns at gs ms → (fs ≡ gs) × (ns ≡ ms)
  runs-one (says.none p) (says.none q) = (refl, refl)
  runs-one (says.none p) (says.run {f = g} {n = m} b more q in_g past-g s) = absurd (p g b (in_g g (omega arith) (omega arith)))
  runs-one (says.run {f} {n} a some p in_f past-f r) (says.none q) = absurd (q f a (in_f f (omega arith) (omega arith)))
  runs-one (says.run {at} {f} {n} a some p in_f past-f r) (says.run {f = g} {n = m} {fs = gs} {ns = ms} b more q in_g past-g s) =
      let first : f ≡ g = same_first a b some more p q in_f in_g in
      let here : (x : ℕ) → f ≤ x → x < f + m → Is x = λ x l u. in_g x (omega arith) (omega arith) in
      let past : Is (f + m) → ⊥ = subst (λ (x : ℕ). Is (x + m) → ⊥) (sym first) past-g in
      let count : n ≡ m = same_count in_f here past-f past in
      let end : g + m ≡ f + n = omega arith in
      let rest = runs-one r (subst (λ (x : ℕ). IsRuns x gs ms) end s) in
      (rw (first, rest.0), rw (count, rest.1))

  module _ (firsts₀ counts₀ : List ℕ) where
    accepts-one : (fs ns : List ℕ) → OneOnly (Accepts overlay released os ss firsts₀ counts₀ fs ns)
    accepts-one fs ns y z (says.accepts f g) (says.accepts h k) = rw (begins-one fs firsts₀ _ _ f h, begins-one ns counts₀ _ _ g k)

    lists-one : OneOnly (Lists overlay released os ss firsts₀ counts₀)
    lists-one y z (says.lists {fs} {ns} r p) (says.lists {fs = gs} {ns = ms} s q) =
        let same = runs-one r s in
        tries-one (λ (_ : Unit {0}). says.TooShort overlay released os ss firsts₀ counts₀ fs ns) (λ _. turned overlay released os ss firsts₀ counts₀ 14 2)
        (Accepts overlay released os ss firsts₀ counts₀ fs ns) (λ a b m n. refl) (accepts-one fs ns) y z p (rw (← same.0, ← same.1) at q)

    pub runs-decide : OneOnly (RunsSay overlay released os ss firsts₀ counts₀)
    runs-decide = tries-one (λ (_ : Unit {0}). BadBlocks overlay released os ss) (λ _. turned overlay released os ss firsts₀ counts₀ 4 0) _ (λ a b m n. refl)
        lists-one

  -- ---- the contract says them

  abbrev t : Trial
  t = trial overlay released os ss

  module _ (good : in_order 0 os ss ≡ true) where
    listed : (b : ℕ) → IsListed t b → Is b
    listed b l = record {
      in-overlay = l.overlaid;
      in-released = l.issued;
      covered = λ k a u. is-covered overlay released os ss k (l.covered k a u);
      different = l.different;
    }

    lists : (b : ℕ) → Is b → IsListed t b
    lists b l = record {
      overlaid = l.in-overlay;
      issued = l.in-released;
      covered = λ k a u. covered-is overlay released os ss good k (l.covered k a u);
      different = l.different;
    }

    abbrev none : Block
    none = block 0 0

    -- some runs from a byte on, by their places
    record Facts (at : ℕ) (l : List Block) : Type 0 where
      pub from : (i : ℕ) → i < length l → at ≤ (get_or l i none).origin
      pub some : (i : ℕ) → i < length l → 0 < (get_or l i none).size
      pub inside : (i b : ℕ) → i < length l → (get_or l i none).origin ≤ b → b < (get_or l i none).origin + (get_or l i none).size → Is b
      pub behind : (i : ℕ) → i < length l → Is ((get_or l i none).origin + (get_or l i none).size) → ⊥
      pub apart : (i j : ℕ) → i < j → j < length l → (get_or l i none).origin + (get_or l i none).size < (get_or l j none).origin
      pub each : (b : ℕ) → at ≤ b → Is b
          → (i : ℕ) × (i < length l) × ((get_or l i none).origin ≤ b) × (b < (get_or l i none).origin + (get_or l i none).size)

    runs_of_lem : (at : ℕ) (l : List Block) → Facts at l → IsRuns at (origins l) (sizes l)
    runs_of_lem at [] f = says.none (λ b h l. let e = f.each b h l in omega (arith, e.1))
    runs_of_lem at (r ∷ l) f = says.run (f.from 0 (omega arith)) (f.some 0 (omega arith)) before (λ b. f.inside 0 b (omega arith)) (f.behind 0 (omega arith))
        (runs_of_lem (r.origin + r.size) l (record {
          from = λ i h. let a = f.apart 0 (suc i) (omega arith) (omega arith) in omega arith;
          some = λ i h. f.some (suc i) (omega arith);
          inside = λ i b h. f.inside (suc i) b (omega arith);
          behind = λ i h. f.behind (suc i) (omega arith);
          apart = λ i j h k. f.apart (suc i) (suc j) (omega arith) (omega arith);
          each = λ b h is. later b h (f.each b (let a = f.from 0 (omega arith) in omega arith) is);
        }))
      where
        before : (b : ℕ) → at ≤ b → b < r.origin → Is b → ⊥
        before b h u is = go (f.each b h is)
          where
            go : (i : ℕ) × (i < length (r ∷ l)) × ((get_or (r ∷ l) i none).origin ≤ b) × (b < (get_or (r ∷ l) i none).origin + (get_or (r ∷ l) i none).size) → ⊥
            go (zero, h, p, q) = omega arith
            go (suc i, h, p, q) = let a = f.apart 0 (suc i) (omega arith) h in omega arith

        later : (b : ℕ) → r.origin + r.size ≤ b
            → (i : ℕ) × (i < length (r ∷ l)) × ((get_or (r ∷ l) i none).origin ≤ b) × (b < (get_or (r ∷ l) i none).origin + (get_or (r ∷ l) i none).size)
            → (i : ℕ) × (i < length l) × ((get_or l i none).origin ≤ b) × (b < (get_or l i none).origin + (get_or l i none).size)
        later b h (zero, k, p, q) = absurd (omega arith)
        later b h (suc i, k, p, q) = (i, omega arith, p, q)

    pub runs-meets : IsRuns 0 (origins (runs_of t)) (sizes (runs_of t))
    runs-meets = runs_of_lem 0 (runs_of t) (record {
      from = λ i h. omega arith;
      some = λ i h. (runs-maximal t i h).some;
      inside = λ i b h l u. listed b ((runs-hold-exactly t b).0 (record { place = i; listed = h; from = l; below = u }));
      behind = λ i h l. (runs-maximal t i h).behind (lists _ l);
      apart = runs-ascending t;
      each = λ b h l. let p = (runs-hold-exactly t b).1 (lists b l) in (p.place, p.listed, p.from, p.below);
    })

  module _ (fs₀ cs₀ : List ℕ) where
    abbrev n : ℕ
    n = length (runs_of t)

    many : (length (origins (runs_of t)) ≡ n) × (length (sizes (runs_of t)) ≡ n)
    many = (length-map (runs_of t) (λ r. r.origin), length-map (runs_of t) (λ r. r.size))

    answered : (o a b : Bool) → in_order 0 os ss ≡ o → leb n (length fs₀) ≡ a → leb n (length cs₀) ≡ b → RunsSay overlay released os ss fs₀ cs₀ (record {
      answer = listed_count (pick o (pick (pick a b false) (Ok n) (Err (TooShort 2))) (Err (Malformed 0)));
      firsts = pick o (pick (pick a b false) (over (origins (runs_of t)) fs₀) fs₀) fs₀;
      counts = pick o (pick (pick a b false) (over (sizes (runs_of t)) cs₀) cs₀) cs₀;
    })
    answered false a b e f g = refused tt (bad-blocks overlay released os ss e)
    answered true false b e f g = passed (λ _. no-bad-blocks overlay released os ss e) (says.lists (runs-meets e)
        (refused tt (inl (let s = leb-false n (length fs₀) f in omega (arith, many.0)))))
    answered true true false e f g = passed (λ _. no-bad-blocks overlay released os ss e) (says.lists (runs-meets e)
        (refused tt (inr (let s = leb-false n (length cs₀) g in omega (arith, many.1)))))
    answered true true true e f g =
        let p = leb-true n (length fs₀) f in
        let q = leb-true n (length cs₀) g in
        passed (λ _. no-bad-blocks overlay released os ss e) (says.lists (runs-meets e)
        (passed (λ _ s. ⊎_elim (λ h. omega (arith, many.0)) (λ h. omega (arith, many.1)) s)
        (subst (λ (k : ℕ). Accepts overlay released os ss fs₀ cs₀ (origins (runs_of t)) (sizes (runs_of t)) (record {
          answer = record { refusal = 0; place = 0; count = k };
          firsts = over (origins (runs_of t)) fs₀;
          counts = over (sizes (runs_of t)) cs₀;
        })) many.0
        (says.accepts (over-begins (origins (runs_of t)) fs₀ (omega (arith, many.0))) (over-begins (sizes (runs_of t)) cs₀ (omega (arith, many.1)))))))

    pub runs-meet : (r : DkCount) (fs₁ cs₁ : List ℕ) → RunsTold t fs₀ cs₀ r fs₁ cs₁
        → RunsSay overlay released os ss fs₀ cs₀ (record { answer = r; firsts = fs₁; counts = cs₁ })
    runs-meet r fs₁ cs₁ c = rw (c.answer, c.first, c.second) (answered (in_order 0 os ss) (leb n (length fs₀)) (leb n (length cs₀)) refl refl refl)
