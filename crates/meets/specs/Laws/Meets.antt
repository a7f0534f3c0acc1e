-- Two banks meet by the definition's test exactly where they meet by the sentences, whatever says which numbers they have.
use Rattle.std.specs.Prelude.{◌≡◌, refl, true, ℕ, ◌+◌, ltb, Option, Some, None}
use Rattle.std.proofs.Common.{sym, ap₂, ◌∙◌, ltb-true, lt-ltb}
use Rattle.prelude.specs.Laws.Bools.{both, unlike}
use Rattle.bankdef.specs.Overlap.{ranges_overlap}
use Rattle.says.specs.Banks as says
use Rattle.says.specs.Banks.{Meet}
use Rattle.meets.specs.Table.{Has}

-- A record's number is the one that is said.
pub record Shows (x : Option ℕ) (Said : ℕ → Type 0) : Type 0 where
  pub has : (m : ℕ) → x ≡ Some m → Said m
  pub only : (m : ℕ) → Said m → x ≡ Some m

pub itself : (x : Option ℕ) → Shows x (Has x)
itself x = record { has = λ m e. e; only = λ m e. e }

module _ {x : Option ℕ} {Said : ℕ → Type 0} (t : Shows x Said) where
  absent : x ≡ None → (m : ℕ) → Said m → ⊥
  absent e m h = let f = sym e ∙ t.only m h in unlike cc

  unsaid : ((m : ℕ) → Said m → ⊥) → x ≡ None
  unsaid none = go x refl
    where
      go : (y : Option ℕ) → x ≡ y → x ≡ None
      go None e = e
      go (Some m) e = absurd (none m (t.has m e))

module _ {a m b n : Option ℕ} {O M P N : ℕ → Type 0} (ta : Shows a O) (tm : Shows m M) (tb : Shows b P) (tn : Shows n N) where
  pub meet : (o p : ℕ) → a ≡ Some o → b ≡ Some p → ranges_overlap o m p n ≡ true → Meet O M P N
  meet o p e f = go m n refl refl
    where
      go : (s t : Option ℕ) → m ≡ s → n ≡ t → ranges_overlap o s p t ≡ true → Meet O M P N
      go None None i j h = says.two-open (ta.has o e) (absent tm i) (tb.has p f) (absent tn j)
      go None (Some k) i j h = says.second-sized (ta.has o e) (absent tm i) (tb.has p f) (tn.has k j) (ltb-true o (p + k) h)
      go (Some l) None i j h = says.first-sized (ta.has o e) (tm.has l i) (tb.has p f) (absent tn j) (ltb-true p (o + l) h)
      go (Some l) (Some k) i j h =
          let c = both (ltb p (o + l)) (ltb o (p + k)) h in
          says.two_sized (ta.has o e) (tm.has l i) (tb.has p f) (tn.has k j) (ltb-true p (o + l) c.0) (ltb-true o (p + k) c.1)

  -- what two banks that meet have, by the definition
  abbrev pub Met : Type 0
  Met = (o : ℕ) × (p : ℕ) × (a ≡ Some o) × (b ≡ Some p) × (ranges_overlap o m p n ≡ true)

  by-sizes : (o p : ℕ) {s t : Option ℕ} → m ≡ s → n ≡ t → ranges_overlap o s p t ≡ true → ranges_overlap o m p n ≡ true
  by-sizes o p i j h = ap₂ (λ (s t : Option ℕ). ranges_overlap o s p t) i j ∙ h

  pub met : Meet O M P N → Met
  met (says.two-open {o} {p} e i f j) = (o, p, ta.only o e, tb.only p f, by-sizes o p (unsaid tm i) (unsaid tn j) refl)
  met (says.first-sized {o} {m = l} {p} e i f j h) =
      (o, p, ta.only o e, tb.only p f, by-sizes o p (tm.only l i) (unsaid tn j) (lt-ltb p (o + l) h))
  met (says.second-sized {o} {p} {n = k} e i f j h) =
      (o, p, ta.only o e, tb.only p f, by-sizes o p (unsaid tm i) (tn.only k j) (lt-ltb o (p + k) h))
  met (says.two_sized {o} {m = l} {p} {n = k} e i f j h g) =
      (o, p, ta.only o e, tb.only p f, by-sizes o p (tm.only l i) (tn.only k j) (rw (lt-ltb p (o + l) h, lt-ltb o (p + k) g)))
