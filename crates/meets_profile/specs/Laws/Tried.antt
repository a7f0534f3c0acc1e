-- Refusals 1 to 4, and the rules, as tries one after another: that they leave one outcome where what comes then does, what stands behind a passed try, and
-- the same tries told as another outcome.
use Rattle.std.specs.Prelude.{◌≡◌, refl, ℕ, ◌<◌}
use Rattle.std.proofs.Common.{sym, ap, subst}
use Rattle.meets.specs.Laws.Words.{OneOnly, first_one, first-pair-one}
use Rattle.says.specs.Words.{Tries, refused, passed, First, FirstPair}
use Rattle.says.specs.Build.{Given, banks, NoBanks, BadBank, Overlap, nodes, BadField, BadNode}
use Rattle.says.specs.Words.{Not}
use Rattle.says.specs.Profile.{OneBit, FirstBank, FirstNode, Checks, BadLabel, BadAlign, BadOffset, BadSize, BadUnit, BadAddr, Rules}

-- `tries-one` of Words where what comes then leaves one outcome because nothing met the refusal
module _ {X Y : Type 0} (Met : X → Type 0) (refusal : X → Y) (Then : Y → Type 0) (one : (a b : X) → Met a → Met b → refusal a ≡ refusal b)
    (rest : ((x : X) → Met x → ⊥) → OneOnly Then) where
  pub tries-then : OneOnly (Tries Met refusal Then)
  tries-then y z (refused a m) (refused b n) = one a b m n
  tries-then y z (refused a m) (passed none t) = absurd (none a m)
  tries-then y z (passed none t) (refused b n) = absurd (none b n)
  tries-then y z (passed none t) (passed never u) = rest none y z t u

-- the lowest number is one
lowest-then : {Y : Type 0} (So : ℕ → Type 0) (refusal : ℕ → Y) (Then : Y → Type 0) → (((i : ℕ) → First So i → ⊥) → OneOnly Then)
    → OneOnly (Tries (First So) refusal Then)
lowest-then So refusal Then rest = tries-then (First So) refusal Then (λ i j f h. ap refusal (first_one So i j f h)) rest

-- Tries told as another outcome: what was met is met.
pub tries-map : {X Y Z : Type 0} {Met : X → Type 0} {old : X → Y} {new : X → Z} {Then : Y → Type 0} {After : Z → Type 0} (f : Y → Z)
    → ((x : X) → f (old x) ≡ new x) → (y : Y) → (((x : X) → Met x → ⊥) → Then y → After (f y)) → Tries Met old Then y → Tries Met new After (f y)
tries-map {Met = Met} {new = new} {After = After} f same y then (refused x m) = subst (Tries Met new After) (sym (same x)) (refused x m)
tries-map f same y then (passed none t) = passed none (then none t)

-- What holds of each refusal and of what comes then holds.
pub tries-all : {X Y : Type 0} {Met : X → Type 0} {refusal : X → Y} {Then : Y → Type 0} (So : Y → Type 0) → ((x : X) → So (refusal x)) → (y : Y)
    → (Then y → So y) → Tries Met refusal Then y → So y
tries-all So each y then (refused x m) = each x
tries-all So each y then (passed none t) = then t

-- Where the outcome is no such refusal, nothing meets it, and what comes then is so.
try-none : {X Y : Type 0} {Met : X → Type 0} {refusal : X → Y} {Then : Y → Type 0} (So : Y → Type 0) → ((x : X) → So (refusal x) → ⊥) → (y : Y) → So y
    → Tries Met refusal Then y → ((x : X) → Met x → ⊥) × Then y
try-none So never y s (refused x m) = absurd (never x s)
try-none So never y s (passed none t) = (none, t)

-- Where nothing meets the refusal, what comes then is so.
went : {X Y : Type 0} {Met : X → Type 0} {refusal : X → Y} {Then : Y → Type 0} → ((x : X) → Met x → ⊥) → (y : Y) → Tries Met refusal Then y → Then y
went none y (refused x m) = absurd (none x m)
went none y (passed never t) = t

module _ (g : Given) where
  -- ---- none of 1 to 4 is met
  pub record Clear : Type 0 where
    pub counted : (x : Unit {0}) → NoBanks g → ⊥
    pub banked : (b : ℕ) → FirstBank g (BadBank g) b → ⊥
    pub apart : (w : ℕ × ℕ) → FirstPair (Overlap g) w.0 w.1 → ⊥
    pub fielded : (f : ℕ) → First (BadField g) f → ⊥
    pub noded : (i : ℕ) → FirstNode g (BadNode g) i → ⊥

  pub through : {Y : Type 0} (refusal : (number place second : ℕ) → Y) {Then : Y → Type 0} {y : Y} → Clear → Then y → Checks g refusal Then y
  through refusal c t = passed c.counted (passed c.banked (passed c.apart (passed c.fielded (passed c.noded t))))

  pub cleared : {Y : Type 0} (refusal : (number place second : ℕ) → Y) {Then : Y → Type 0} {y : Y} → Clear → Checks g refusal Then y → Then y
  cleared refusal {y = y} c t =
      went c.noded y (went c.fielded y (went c.apart y (went c.banked y (went c.counted y t))))

  module _ {Y : Type 0} (refusal : (number place second : ℕ) → Y) (Then : Y → Type 0) where
    pub checks-one : (Clear → OneOnly Then) → OneOnly (Checks g refusal Then)
    checks-one rest =
        tries-then (λ (_ : Unit {0}). NoBanks g) (λ _. refusal 1 0 0) _ (λ a c s t. refl) (λ n1.
        lowest-then (λ b. (b < banks g) × BadBank g b) (λ b. refusal 2 b 0) _ (λ n2.
        tries-then (λ (w : ℕ × ℕ). FirstPair (Overlap g) w.0 w.1) (λ w. refusal 3 w.0 w.1) _
        (λ p q f h. let e = first-pair-one (Overlap g) p.0 p.1 q.0 q.1 f h in rw (e.0, e.1)) (λ n3.
        lowest-then (BadField g) (λ f. refusal 4 f 0) _ (λ n4.
        lowest-then (λ i. (i < nodes g) × BadNode g i) (λ i. refusal 4 i 0) _ (λ n5.
        rest (record { counted = n1; banked = n2; apart = n3; fielded = n4; noded = n5 }))))))

    -- What holds of no refusal 1 to 4 and of the outcome tells that none is met.
    pub checks-clear : (So : Y → Type 0) → ((number place second : ℕ) → So (refusal number place second) → ⊥) → (y : Y) → So y → Checks g refusal Then y
        → Clear
    checks-clear So never y s t =
        let a = try-none So (λ x. never 1 0 0) y s t in
        let b = try-none So (λ b. never 2 b 0) y s a.1 in
        let c = try-none So (λ w. never 3 w.0 w.1) y s b.1 in
        let d = try-none So (λ f. never 4 f 0) y s c.1 in
        let e = try-none So (λ i. never 4 i 0) y s d.1 in
        record { counted = a.0; banked = b.0; apart = c.0; fielded = d.0; noded = e.0 }

    pub checks-map : {Z : Type 0} {told : (number place second : ℕ) → Z} {After : Z → Type 0} (f : Y → Z)
        → ((number place second : ℕ) → f (refusal number place second) ≡ told number place second) → (y : Y) → (Clear → Then y → After (f y))
        → Checks g refusal Then y → Checks g told After (f y)
    checks-map f same y then =
        tries-map f (λ x. same 1 0 0) y (λ n1.
        tries-map f (λ b. same 2 b 0) y (λ n2.
        tries-map f (λ w. same 3 w.0 w.1) y (λ n3.
        tries-map f (λ k. same 4 k 0) y (λ n4.
        tries-map f (λ i. same 4 i 0) y (λ n5.
        then (record { counted = n1; banked = n2; apart = n3; fielded = n4; noded = n5 }))))))

  -- ---- no rule is broken
  module _ (page : ℕ) where
    pub record Keeps : Type 0 where
      pub page-size : (x : Unit {0}) → Not (OneBit page) → ⊥
      pub labels : (b : ℕ) → FirstBank g (BadLabel g) b → ⊥
      pub aligns : (i : ℕ) → FirstNode g (BadAlign g) i → ⊥
      pub offsets : (b : ℕ) → FirstBank g (BadOffset g page) b → ⊥
      pub sizes : (b : ℕ) → FirstBank g (BadSize g page) b → ⊥
      pub units : (b : ℕ) → FirstBank g (BadUnit g) b → ⊥
      pub addrs : (i : ℕ) → FirstNode g (BadAddr g) i → ⊥

    pub kept : {Y : Type 0} (broken : (rule at : ℕ) → Y) {Then : Y → Type 0} {y : Y} → Keeps → Then y → Rules g page broken Then y
    kept broken k t =
        passed k.page-size (passed k.labels (passed k.aligns (passed k.offsets (passed k.sizes (passed k.units (passed k.addrs t))))))

    pub rules-one : {Y : Type 0} (broken : (rule at : ℕ) → Y) (Then : Y → Type 0) → OneOnly Then → OneOnly (Rules g page broken Then)
    rules-one broken Then rest =
        tries-then (λ (_ : Unit {0}). Not (OneBit page)) (λ _. broken 1 0) _ (λ a c s t. refl) (λ n1.
        lowest-then (λ b. (b < banks g) × BadLabel g b) (λ b. broken 2 b) _ (λ n2.
        lowest-then (λ i. (i < nodes g) × BadAlign g i) (λ i. broken 2 i) _ (λ n3.
        lowest-then (λ b. (b < banks g) × BadOffset g page b) (λ b. broken 3 b) _ (λ n4.
        lowest-then (λ b. (b < banks g) × BadSize g page b) (λ b. broken 4 b) _ (λ n5.
        lowest-then (λ b. (b < banks g) × BadUnit g b) (λ b. broken 5 b) _ (λ n6.
        lowest-then (λ i. (i < nodes g) × BadAddr g i) (λ i. broken 6 i) _ (λ n7. rest)))))))

    pub rules-map : {Y Z : Type 0} (broken : (rule at : ℕ) → Y) {named : (rule at : ℕ) → Z} {Then : Y → Type 0} {After : Z → Type 0} (f : Y → Z)
        → ((rule at : ℕ) → f (broken rule at) ≡ named rule at) → (y : Y) → (Then y → After (f y)) → Rules g page broken Then y
        → Rules g page named After (f y)
    rules-map broken f same y then =
        tries-map f (λ x. same 1 0) y (λ n1.
        tries-map f (λ b. same 2 b) y (λ n2.
        tries-map f (λ i. same 2 i) y (λ n3.
        tries-map f (λ b. same 3 b) y (λ n4.
        tries-map f (λ b. same 4 b) y (λ n5.
        tries-map f (λ b. same 5 b) y (λ n6.
        tries-map f (λ i. same 6 i) y (λ n7. then)))))))
