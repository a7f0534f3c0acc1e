-- Laws that proofs about RuleLaws need.
use Rattle.std.specs.Prelude.{ℕ, ◌<◌, ◌≡◌, refl, Bool, true, false, not, ◌↔◌, Err}
use Rattle.std.proofs.Common.{arith, le-leb, leb-true, leb-false}
use Rattle.std.proofs.lemmas.Bool.{lt-leb, not-true, not-false}
use Rattle.prelude.specs.declared.Refusal.TheVariants.{OffProfile}
use Rattle.prelude.specs.Laws.Bools.{either, clash}
use Rattle.prelude.specs.Verdict.{Accepted, Verdict}
use Rattle.resolver.specs.Laws.Least.{first-least, first_found, first-from, first-at}
use Rattle.nodes.specs.Lists.{first_of}
use Rattle.build_profile.specs.Rules.{first_broken, all, ruled}
use Rattle.build_profile.specs.RuleLaws.{Every, First}

module _ (keeps : ℕ → Bool) where
  -- those before i keep the rule
  abbrev pub KeptTo : ℕ → Type 0
  KeptTo i = (k : ℕ) → k < i → keeps k ≡ true

  kept-not : (k : ℕ) → keeps k ≡ true → not (keeps k) ≡ false
  kept-not k e = rw e

  pub all-kept : (n : ℕ) → KeptTo n → all keeps n ≡ true
  all-kept n kept = le-leb n (first_broken keeps n) (first-from (λ k. not (keeps k)) 0 n n (omega arith) (λ p l h. kept-not p (kept p h)))

  pub kept-all : (n : ℕ) → all keeps n ≡ true → KeptTo n
  kept-all n e k h =
      let far = leb-true n (first_broken keeps n) e in
      not-false (keeps k) (first-least (λ k. not (keeps k)) 0 n k (omega arith) (omega arith))

  module _ (n i : ℕ) (listed : i < n) (kept : KeptTo i) (broken : keeps i ≡ false) where
    pub first-is : first_broken keeps n ≡ i
    first-is = first-at (λ k. not (keeps k)) 0 n i (omega arith) (omega arith) (λ p l h. kept-not p (kept p h)) (rw broken)

    pub not-all : all keeps n ≡ false
    not-all = lt-leb n (first_broken keeps n) (omega (arith, first-is))

    pub ruled-broken : (rule : ℕ) → ruled rule keeps n ≡ Err (OffProfile rule i)
    ruled-broken rule = rw (not-all, first-is)

  pub ruled-kept : (rule n : ℕ) → KeptTo n → ruled rule keeps n ≡ Accepted
  ruled-kept rule n kept = rw (all-kept n kept)

  -- the first that does not keep it, where not all do
  pub record FirstAt (n : ℕ) : Type 0 where
    pub listed : first_broken keeps n < n
    pub broken : keeps (first_broken keeps n) ≡ false
    pub before : KeptTo (first_broken keeps n)

  pub first-of : (n : ℕ) → all keeps n ≡ false → FirstAt n
  first-of n e =
      let short = leb-false n (first_broken keeps n) e in
      record {
        listed = short;
        broken = not-true (keeps (first_broken keeps n)) (first_found (λ k. not (keeps k)) 0 n (omega arith));
        before = λ k h. not-false (keeps k) (first-least (λ k. not (keeps k)) 0 n k (omega arith) h);
      }

-- ---- the earlier of two verdicts

pub both-kept : (v w : Verdict) → first_of v w ≡ Accepted → (v ≡ Accepted) × (w ≡ Accepted)
both-kept Accepted w e = (refl, e)
both-kept (Err why) w e = (e, cc)

pub data Ruling (rule : ℕ) (P : ℕ → Type 0) (n : ℕ) : Verdict → Type 0 where
  kept : Every P n → Ruling rule P n Accepted
  broken : {k : ℕ} → First P n k → Ruling rule P n (Err (OffProfile rule k))

module _ (keeps : ℕ → Bool) (P : ℕ → Type 0) (tells : (k : ℕ) → (keeps k ≡ true) ↔ P k) where
  every-exactly : (n : ℕ) → (all keeps n ≡ true) ↔ Every P n
  every-exactly n = (
    λ e k h. (tells k).0 (kept-all keeps n e k h),
    λ every. all-kept keeps n (λ k h. (tells k).1 (every k h)),
  )

  failing : (k : ℕ) → keeps k ≡ false → P k → ⊥
  failing k e p = clash ((tells k).1 p) e

  fails : (k : ℕ) → (P k → ⊥) → keeps k ≡ false
  fails k f = either (keeps k) (λ e. absurd (f ((tells k).0 e))) (λ e. e)

  pub ruling : (rule n : ℕ) → Ruling rule P n (ruled rule keeps n)
  ruling rule n =
      either (all keeps n)
      (λ e. rw e (kept ((every-exactly n).0 e)))
      (λ e. rw e (let f = first-of keeps n e in broken (record {
        listed = f.listed;
        breaks = failing (first_broken keeps n) f.broken;
        before = λ k h. (tells k).0 (f.before k h);
      })))

  pub rule-kept : (rule n : ℕ) → Every P n → ruled rule keeps n ≡ Accepted
  rule-kept rule n every = ruled-kept keeps rule n (λ k h. (tells k).1 (every k h))

  pub rule-broken : (rule n k : ℕ) → First P n k → ruled rule keeps n ≡ Err (OffProfile rule k)
  rule-broken rule n k f = ruled-broken keeps n k f.listed (λ j h. (tells j).1 (f.before j h)) (fails k f.breaks) rule
