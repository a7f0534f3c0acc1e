-- The first that does not keep a rule, where each is one place later and the first place keeps it.
use Rattle.std.specs.Prelude.{ℕ, zero, suc, ◌+◌, ◌<◌, ◌≡◌, refl, Bool, false, ◌||◌, eqb, leb, Err}
use Rattle.std.proofs.Math.Path.{ap}
use Rattle.std.proofs.Common.{◌∙◌, arith}
use Rattle.std.proofs.Math.Bool.{true, not}
use Rattle.std.proofs.Math.Dec.{leb-suc-suc}
use Rattle.prelude.specs.Pick.{pick}
use Rattle.prelude.specs.declared.Refusal.TheVariants.{OffProfile}
use Rattle.prelude.specs.Verdict.{Accepted, Verdict}
use Rattle.nodes.specs.Lists.{first_of}
use Rattle.resolver.specs.Passes.{first}
use Rattle.build_profile.specs.Rules.{first_broken, all, ruled}
use Rattle.thm_conversions.specs.Raised.{rule_verdict}

picked : {a b : Bool} {x y : ℕ} (z : ℕ) → a ≡ b → x ≡ y → pick a z x ≡ pick b z y
picked z e f = rw (e, f)

first_alike : (s t : ℕ → Bool) (from n : ℕ) → ((k : ℕ) → k < from + n → s k ≡ t k) → first s from n ≡ first t from n
unfolding first
first_alike s t from zero h = refl
first_alike s t from (suc n) h = picked from (h from (omega arith)) (first_alike s t (suc from) n (λ k a. h k (omega arith)))

-- All of n keep one rule where all keep another that says the same of each.
pub all_alike : (s t : ℕ → Bool) (n : ℕ) → ((k : ℕ) → k < n → s k ≡ t k) → all s n ≡ all t n
all_alike s t n h = ap (leb n) (first_alike (λ k. not (s k)) (λ k. not (t k)) 0 n (λ k a. ap not (h k (omega arith))))

first-up : (s t : ℕ → Bool) → ((k : ℕ) → s (suc k) ≡ t k) → (from n : ℕ) → first s (suc from) n ≡ suc (first t from n)
unfolding first
first-up s t h from zero = refl
first-up s t h from (suc n) = picked (suc from) (h from) (first-up s t h (suc from) n) ∙ out (t from) from (first t (suc from) n)
  where
    out : (c : Bool) (x y : ℕ) → pick c (suc x) (suc y) ≡ suc (pick c x y)
    out true x y = refl
    out false x y = refl

module _ (s t : ℕ → Bool) (zeroth : s 0 ≡ true) (later : (k : ℕ) → s (suc k) ≡ t k) where
  broken-up : (n : ℕ) → first_broken s (suc n) ≡ suc (first_broken t n)
  unfolding first
  broken-up n = law zeroth (first-up (λ k. not (s k)) (λ k. not (t k)) (λ k. ap not (later k)) 0 n)
    where
      law : {c : Bool} {x y : ℕ} → c ≡ true → x ≡ y → pick (not c) 0 x ≡ y
      law e f = rw (e, f)

  -- All keep the rule, or its place rises by one.
  pub ruled-up : (rule n : ℕ) → (eqb rule 1 || eqb rule 5) ≡ false → ruled rule s (suc n) ≡ rule_verdict (ruled rule t n)
  ruled-up rule n e = law (broken-up n) (leb-suc-suc n (first_broken t n)) ∙ go (all t n) (first_broken t n)
    where
      law : {x y : ℕ} {c : Bool} → x ≡ y → leb (suc n) y ≡ c
          → pick (leb (suc n) x) Accepted (Err (OffProfile rule x)) ≡ pick c Accepted (Err (OffProfile rule y))
      law f g = rw (f, g)

      go : (c : Bool) (x : ℕ) → pick c Accepted (Err (OffProfile rule (suc x))) ≡ rule_verdict (pick c Accepted (Err (OffProfile rule x)))
      go true x = refl
      go false x = rw e

-- a rule whose place stays
pub ruled-stays : (rule n : ℕ) (t : ℕ → Bool) → (eqb rule 1 || eqb rule 5) ≡ true → ruled rule t n ≡ rule_verdict (ruled rule t n)
ruled-stays rule n t e = go (all t n) (first_broken t n)
  where
    go : (c : Bool) (x : ℕ) → pick c Accepted (Err (OffProfile rule x)) ≡ rule_verdict (pick c Accepted (Err (OffProfile rule x)))
    go true x = refl
    go false x = rw e

-- a rule that says the same of the first two as of the first
pub ruled-twice : (rule : ℕ) (s t : ℕ → Bool) → s 0 ≡ t 0 → s 1 ≡ t 0 → ruled rule s 2 ≡ ruled rule t 1
unfolding first
ruled-twice rule s t e f = go (t 0) e f
  where
    go : (c : Bool) {a d : Bool} → a ≡ c → d ≡ c
        → pick (leb 2 (pick (not a) 0 (pick (not d) 1 2))) Accepted (Err (OffProfile rule (pick (not a) 0 (pick (not d) 1 2))))
        ≡ pick (leb 1 (pick (not c) 0 1)) Accepted (Err (OffProfile rule (pick (not c) 0 1)))
    go true g h = rw (g, h)
    go false g h = rw g

-- the earliest of seven
earlier-raised : {v w : Verdict} (x y : Verdict) → v ≡ rule_verdict x → w ≡ rule_verdict y → first_of v w ≡ rule_verdict (first_of x y)
earlier-raised Accepted y e f = rw (e, f)
earlier-raised (Err why) y e f = rw e

pub seven-raised : {v1 v2 v3 v4 v5 v6 v7 : Verdict} (x1 x2 x3 x4 x5 x6 x7 : Verdict) → v1 ≡ rule_verdict x1 → v2 ≡ rule_verdict x2 → v3 ≡ rule_verdict x3
    → v4 ≡ rule_verdict x4 → v5 ≡ rule_verdict x5 → v6 ≡ rule_verdict x6 → v7 ≡ rule_verdict x7
    → first_of v1 (first_of v2 (first_of v3 (first_of v4 (first_of v5 (first_of v6 v7)))))
    ≡ rule_verdict (first_of x1 (first_of x2 (first_of x3 (first_of x4 (first_of x5 (first_of x6 x7))))))
seven-raised x1 x2 x3 x4 x5 x6 x7 e1 e2 e3 e4 e5 e6 e7 =
    earlier-raised x1 (first_of x2 (first_of x3 (first_of x4 (first_of x5 (first_of x6 x7))))) e1
    (earlier-raised x2 (first_of x3 (first_of x4 (first_of x5 (first_of x6 x7)))) e2
    (earlier-raised x3 (first_of x4 (first_of x5 (first_of x6 x7))) e3
    (earlier-raised x4 (first_of x5 (first_of x6 x7)) e4
    (earlier-raised x5 (first_of x6 x7) e5 (earlier-raised x6 x7 e6 e7)))))
