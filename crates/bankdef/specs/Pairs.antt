-- The pairs of a table: which overlap, which is the first, and that the search of `first_pair` finds it.
use Rattle.std.specs.Prelude.{◌≡◌, true, List, ◌⊎◌, ℕ, ◌≤◌, ◌<◌, length, get_or, Some, Err}
use Rattle.prelude.specs.declared.Refusal.TheVariants.{BanksOverlap}
use Rattle.prelude.specs.Verdict.{Verdict, Accepted}
use Rattle.bankdef.specs.declared.Bankdef.{Bankdef}
use Rattle.bankdef.specs.Overlap.{ranges_overlap}
use Rattle.bankdef.specs.Check.{no_bank}

-- Two banks of a list, neither of them bank 0, in rising order: both have an offset, and they overlap by document 01's rule.
pub record OverlapAt (l : List Bankdef) (i j : ℕ) : Type 0 where
  pub not-bank-0 : 0 < i
  pub rising : i < j
  pub there : j < length l
  pub o : ℕ
  pub p : ℕ
  pub first-offset : (get_or l i no_bank).offset ≡ Some o
  pub second-offset : (get_or l j no_bank).offset ≡ Some p
  pub overlap : ranges_overlap o (get_or l i no_bank).size p (get_or l j no_bank).size ≡ true

-- "rising order": the pair i, j comes no later than c, d
abbrev pub NoLater : ℕ → ℕ → ℕ → ℕ → Type 0
NoLater i j c d = (i < c) ⊎ ((i ≡ c) × (j ≤ d))

-- "the first pair"
pub record FirstOverlap (l : List Bankdef) (i j : ℕ) : Type 0 where
  pub at : OverlapAt l i j
  pub no-earlier : (c d : ℕ) → OverlapAt l c d → NoLater i j c d

-- What the pairs of a table's banks say.
pub data Pairs (l : List Bankdef) : Verdict → Type 0 where
  apart : ((i j : ℕ) → OverlapAt l i j → ⊥) → Pairs l Accepted
  joint : {i j : ℕ} → FirstOverlap l i j → Pairs l (Err (BanksOverlap i j))
