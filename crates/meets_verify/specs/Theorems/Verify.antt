-- `dk_verify`: by its contract it says the sentences (`verify-meets`), they leave one outcome, the answer and all three lists lent for it (`verify-decides`),
-- and no run is listed exactly where every byte that is asked for is given with its value (`same-exactly`).
use Rattle.std.specs.Prelude.{◌≡◌, refl, Bool, true, false, List, [], ◌∷◌, ◌⊎◌, ◌↔◌, ℕ, ◌+◌, ◌≤◌, ◌<◌, leb, length, get_or, Err, Ok, Result}
use Rattle.std.proofs.Common.{sym, ap, subst, ◌∙◌, inl, inr, ⊎_elim, arith, leb-true, leb-false}
use Rattle.std.proofs.lemmas.List.{length-map}
use Rattle.prelude.specs.Pick.{pick}
use Rattle.prelude.specs.declared.Refusal.TheVariants.{Malformed, BadPart as Unfit, TooShort as Short}
use Rattle.prelude.specs.declared.Refusal.{Refusal}
use Rattle.blocks.specs.Outcome.{over}
use Rattle.overlay.specs.Order.{in_order}
use Rattle.verify.specs.Whole.{all_whole, Sound}
use Rattle.verify.specs.Laws.Whole.{sound-from}
use Rattle.verify.specs.Put.{firsts, counts, kinds}
use Rattle.verify.specs.Runs.{Readback, readback, runs_of}
use Rattle.verify.specs.List as model
use Rattle.c_answers.specs.Counts.{listed_count}
use Rattle.c_answers.specs.declared.DkCount.{DkCount}
use Rattle.meets.specs.Laws.Lists.{over-begins}
use Rattle.meets.specs.Laws.Words.{OneOnly, tries-one, begins-one}
use Rattle.meets_overlay.specs.Laws.Blocks.{bad-blocks, no-bad-blocks}
use Rattle.meets_verify.specs.Laws.Blocks.{some-unfit, none-unfit}
use Rattle.meets_verify.specs.Laws.Runs.{runs-meets}
use Rattle.says.specs.Words.{refused, passed}
use Rattle.says.specs.Verify as says
use Rattle.says.specs.Verify.{BadBlocks, BadPart, Listed, Of, Runs, turned, Accepts, Lists, VerifySays}

module _ (image os ss bytes gos gss : List ℕ) where
  abbrev IsRuns : ℕ → List ℕ → List ℕ → List ℕ → Type 0
  IsRuns = Runs image os ss bytes gos gss

  abbrev Is : ℕ → Type 0
  Is = Listed image os ss bytes gos gss

  abbrev IsOf : ℕ → ℕ → Type 0
  IsOf = Of image os ss bytes gos gss

  -- ---- they leave one outcome

  of-listed : {b k : ℕ} → IsOf b k → Is b
  of-listed (says.one m) = inl m
  of-listed (says.two d) = inr d

  one-kind : {b k j : ℕ} → IsOf b k → IsOf b j → k ≡ j
  one-kind (says.one m) (says.one l) = refl
  one-kind (says.one m) (says.two d) = absurd (m.absent d.given)
  one-kind (says.two d) (says.one m) = absurd (m.absent d.given)
  one-kind (says.two d) (says.two l) = refl

  -- the first byte that is listed, and the first behind it that is not of its kind
  same_first : {at f g n m k j : ℕ} → at ≤ f → at ≤ g → 0 < n → 0 < m → ((b : ℕ) → at ≤ b → b < f → Is b → ⊥) → ((b : ℕ) → at ≤ b → b < g → Is b → ⊥)
      → ((b : ℕ) → f ≤ b → b < f + n → IsOf b k) → ((b : ℕ) → g ≤ b → b < g + m → IsOf b j) → f ≡ g
  same_first {at} {f} {g} {n} {m} a b some more p q in_f in_g =
      let no_less : f < g → ⊥ = λ h. q f a h (of-listed (in_f f (omega arith) (omega arith))) in
      let no_more : g < f → ⊥ = λ h. p g b h (of-listed (in_g g (omega arith) (omega arith))) in
      omega arith

  same_count : {f n m k : ℕ} → ((b : ℕ) → f ≤ b → b < f + n → IsOf b k) → ((b : ℕ) → f ≤ b → b < f + m → IsOf b k) → (IsOf (f + n) k → ⊥)
      → (IsOf (f + m) k → ⊥) → n ≡ m
  same_count {f} {n} {m} in-n in-m past-n past-m =
      let no_less : n < m → ⊥ = λ h. past-n (in-m (f + n) (omega arith) (omega arith)) in
      let no_more : m < n → ⊥ = λ h. past-m (in-n (f + m) (omega arith) (omega arith)) in
      omega arith

  runs-one : {at : ℕ} {fs gs ns ms ks js : List ℕ} → IsRuns at fs ns ks → IsRuns at gs ms js → (fs ≡ gs) × (ns ≡ ms) × (ks ≡ js)
  runs-one (says.none p) (says.none q) = (refl, refl, refl)
  runs-one (says.none p) (says.run {f = g} {n = m} b more q in_g past-g s) = absurd (p g b (of-listed (in_g g (omega arith) (omega arith))))
  runs-one (says.run {f} {n} a some p in_f past-f r) (says.none q) = absurd (q f a (of-listed (in_f f (omega arith) (omega arith))))
  runs-one (says.run {at} {f} {n} {k} a some p in_f past-f r) (says.run {f = g} {n = m} {k = j} {fs = gs} {ns = ms} {ks = js} b more q in_g past-g s) =
      let first : f ≡ g = same_first a b some more p q in_f in_g in
      let kind : j ≡ k = one-kind (in_g f (omega arith) (omega arith)) (in_f f (omega arith) (omega arith)) in
      let here : (x : ℕ) → f ≤ x → x < f + m → IsOf x k = λ x l u. subst (λ (y : ℕ). IsOf x y) kind (in_g x (omega arith) (omega arith)) in
      let past : IsOf (f + m) k → ⊥ = λ o. past-g (subst (λ (x : ℕ). IsOf (x + m) j) first (subst (λ (y : ℕ). IsOf (f + m) y) (sym kind) o)) in
      let count : n ≡ m = same_count in_f here past-f past in
      let end : g + m ≡ f + n = omega arith in
      let rest = runs-one r (subst (λ (x : ℕ). IsRuns x gs ms js) end s) in
      (rw (first, rest.0), rw (count, rest.1), rw (kind, rest.2))

  module _ (fs₀ cs₀ ks₀ : List ℕ) where
    abbrev Turned : ℕ → ℕ → says.Outcome image os ss bytes gos gss
    Turned = turned image os ss bytes gos gss fs₀ cs₀ ks₀

    abbrev Taken : List ℕ → List ℕ → List ℕ → says.Outcome image os ss bytes gos gss → Type 0
    Taken = Accepts image os ss bytes gos gss fs₀ cs₀ ks₀

    accepts-one : (fs ns ks : List ℕ) → OneOnly (Taken fs ns ks)
    accepts-one fs ns ks y z (says.accepts f g h) (says.accepts i j k) = rw (begins-one fs fs₀ _ _ f i, begins-one ns cs₀ _ _ g j, begins-one ks ks₀ _ _ h k)

    lists-one : OneOnly (Lists image os ss bytes gos gss fs₀ cs₀ ks₀)
    lists-one y z (says.lists {fs} {ns} {ks} r p) (says.lists {fs = gs} {ns = ms} {ks = js} s q) =
        let same = runs-one r s in
        tries-one (λ (_ : Unit {0}). says.TooShort image os ss bytes gos gss fs₀ cs₀ ks₀ fs ns ks) (λ _. Turned 14 2) (Taken fs ns ks) (λ a b m n. refl)
        (accepts-one fs ns ks) y z p (rw (← same.0, ← same.1, ← same.2) at q)

    pub verify-decides : OneOnly (VerifySays image os ss bytes gos gss fs₀ cs₀ ks₀)
    verify-decides =
        tries-one (λ (_ : Unit {0}). BadBlocks image os ss bytes gos gss) (λ _. Turned 4 0) _ (λ a b m n. refl)
        (tries-one (λ (_ : Unit {0}). BadPart image os ss bytes gos gss) (λ _. Turned 16 0) _ (λ a b m n. refl) lists-one)

  -- ---- the contract says them

  abbrev t : Readback
  t = readback image os ss bytes gos gss

  abbrev n : ℕ
  n = length (runs_of t)

  no-bad : in_order 0 os ss ≡ true → in_order 0 gos gss ≡ true → BadBlocks image os ss bytes gos gss → ⊥
  no-bad e f (says.of_image b) = no-bad-blocks image bytes os ss e b
  no-bad e f (says.of-given b) = no-bad-blocks image bytes gos gss f b

  module _ (e : in_order 0 os ss ≡ true) (f : in_order 0 gos gss ≡ true) (g : all_whole (length image) os ss ≡ true) (h : all_whole (length bytes) gos gss ≡ true)
    where
      sound : Sound os ss
      sound = sound-from (length image) os ss e g

      given : Sound gos gss
      given = sound-from (length bytes) gos gss f h

      no_part : BadPart image os ss bytes gos gss → ⊥
      no_part (says.of_image {i} l u) = none-unfit image os ss sound g i l u
      no_part (says.of-given {i} l u) = none-unfit bytes gos gss given h i l u

      runs : IsRuns 0 (firsts (runs_of t)) (counts (runs_of t)) (kinds (runs_of t))
      runs = runs-meets t sound given

  module _ (fs₀ cs₀ ks₀ : List ℕ) where
    many : (length (firsts (runs_of t)) ≡ n) × (length (counts (runs_of t)) ≡ n) × (length (kinds (runs_of t)) ≡ n)
    many = (length-map (runs_of t) (λ r. r.first), length-map (runs_of t) (λ r. r.count), length-map (runs_of t) (λ r. r.kind))

    abbrev Says : DkCount → List ℕ → List ℕ → List ℕ → Type 0
    Says r fs₁ cs₁ ks₁ = VerifySays image os ss bytes gos gss fs₀ cs₀ ks₀ (record { answer = r; firsts = fs₁; counts = cs₁; kinds = ks₁ })

    module _ (e : in_order 0 os ss ≡ true) (f : in_order 0 gos gss ≡ true) (g : all_whole (length image) os ss ≡ true)
        (h : all_whole (length bytes) gos gss ≡ true) where
      short : (length fs₀ < n) ⊎ ((length cs₀ < n) ⊎ (length ks₀ < n)) → Says (listed_count (Err (Short 2))) fs₀ cs₀ ks₀
      short s = passed (λ _. no-bad e f) (passed (λ _. no_part e f g h) (says.lists (runs e f g h) (refused tt (rw (many.0, many.1, many.2) s))))

      enough : n ≤ length fs₀ → n ≤ length cs₀ → n ≤ length ks₀
          → Says (listed_count (Ok n)) (over (firsts (runs_of t)) fs₀) (over (counts (runs_of t)) cs₀) (over (kinds (runs_of t)) ks₀)
      enough p q r =
          passed (λ _. no-bad e f) (passed (λ _. no_part e f g h) (says.lists (runs e f g h)
          (passed (λ _ s. ⊎_elim (λ l. omega (arith, many.0)) (λ s. ⊎_elim (λ l. omega (arith, many.1)) (λ l. omega (arith, many.2)) s) s)
          (subst (λ (k : ℕ). Accepts image os ss bytes gos gss fs₀ cs₀ ks₀ (firsts (runs_of t)) (counts (runs_of t)) (kinds (runs_of t)) (record {
            answer = record { refusal = 0; place = 0; count = k };
            firsts = over (firsts (runs_of t)) fs₀;
            counts = over (counts (runs_of t)) cs₀;
            kinds = over (kinds (runs_of t)) ks₀;
          })) many.0
          (says.accepts (over-begins (firsts (runs_of t)) fs₀ (omega (arith, many.0))) (over-begins (counts (runs_of t)) cs₀ (omega (arith, many.1)))
          (over-begins (kinds (runs_of t)) ks₀ (omega (arith, many.2))))))))

    answered : (a b c d x y z : Bool) → in_order 0 os ss ≡ a → in_order 0 gos gss ≡ b → all_whole (length image) os ss ≡ c → all_whole (length bytes) gos gss ≡ d
        → leb n (length fs₀) ≡ x → leb n (length cs₀) ≡ y → leb n (length ks₀) ≡ z
        → Says (listed_count (pick (pick a b false) (pick (pick c d false) (pick (pick x (pick y z false) false) (Ok n) (Err (Short 2)))
        (Err Unfit)) (Err (Malformed 0))))
        (pick (pick a b false) (pick (pick c d false) (pick (pick x (pick y z false) false) (over (firsts (runs_of t)) fs₀) fs₀) fs₀) fs₀)
        (pick (pick a b false) (pick (pick c d false) (pick (pick x (pick y z false) false) (over (counts (runs_of t)) cs₀) cs₀) cs₀) cs₀)
        (pick (pick a b false) (pick (pick c d false) (pick (pick x (pick y z false) false) (over (kinds (runs_of t)) ks₀) ks₀) ks₀) ks₀)
    answered false b c d x y z e f g h i j k = refused tt (says.of_image (bad-blocks image bytes os ss e))
    answered true false c d x y z e f g h i j k = refused tt (says.of-given (bad-blocks image bytes gos gss f))
    answered true true false d x y z e f g h i j k = passed (λ _. no-bad e f) (let u = some-unfit image os ss g in refused tt (says.of_image u.1 u.2))
    answered true true true false x y z e f g h i j k =
        passed (λ _. no-bad e f) (let u = some-unfit bytes gos gss h in refused tt (says.of-given u.1 u.2))
    answered true true true true false y z e f g h i j k = short e f g h (inl (leb-false n (length fs₀) i))
    answered true true true true true false z e f g h i j k = short e f g h (inr (inl (leb-false n (length cs₀) j)))
    answered true true true true true true false e f g h i j k = short e f g h (inr (inr (leb-false n (length ks₀) k)))
    answered true true true true true true true e f g h i j k =
        enough e f g h (leb-true n (length fs₀) i) (leb-true n (length cs₀) j) (leb-true n (length ks₀) k)

    pub verify-meets : (r : DkCount) (l : Result ℕ Refusal) (fs₁ cs₁ ks₁ : List ℕ) → r ≡ listed_count l → model.Lists t fs₀ cs₀ ks₀ l fs₁ cs₁ ks₁ → Says r fs₁ cs₁ ks₁
    verify-meets r l fs₁ cs₁ ks₁ e c =
        rw (e, c.answer, c.first, c.second, c.third)
        (answered (in_order 0 os ss) (in_order 0 gos gss) (all_whole (length image) os ss) (all_whole (length bytes) gos gss) (leb n (length fs₀))
        (leb n (length cs₀)) (leb n (length ks₀)) refl refl refl refl refl refl refl)
