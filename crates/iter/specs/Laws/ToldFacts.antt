-- Laws that Theorems/ToldFacts rests on.
use Rattle.std.specs.Prelude.{ℕ, ◌+◌, ◌<◌, ◌≡◌, refl, Bool, true, not, eqb, leb, Result, Ok, Err}
use Rattle.std.proofs.Common.{arith, leb-true, leb-false}
use Rattle.std.proofs.lemmas.Bool.{eqb-false, not-true}
use Rattle.prelude.specs.Laws.Bools.{either, both}
use Rattle.prelude.specs.Limits.{max_position}
use Rattle.prelude.specs.declared.Refusal.{Refusal}
use Rattle.bankdef.specs.declared.Bankdef.{Bankdef}
use Rattle.iter.specs.Distance.{tellable, no_skip, distance_of}
use Rattle.iter.specs.Figures as told
use Rattle.iter.specs.Figures.{told_moved, Adds, Aligning}
use Rattle.iter.specs.Figures.{Skipping}
use Rattle.iter.specs.Step.{moved_by, moved_by_distance, aligned_to}
use Rattle.iter.specs.Step.{skips_by, when_made}
use Rattle.iter.specs.declared.Pos.{Pos}
use Rattle.iter.specs.declared.Skipped.{Skipped}

-- ---- the distance and the address

-- a bank whose addresses can be told has a unit
pub has-unit : (def : Bankdef) → tellable def ≡ true → 0 < def.unit
has-unit def e = some def.unit (eqb-false def.unit 0 (not-true (eqb def.unit 0) (both (not (eqb def.unit 0)) _ e).0))
  where
    some : (u : ℕ) → (u ≡ 0 → ⊥) → 0 < u
    some u h = omega (arith, h)

-- ---- sums

pub added : (at : Pos) (bits : ℕ) (known : Bool) (node : ℕ) → Adds at bits known node (told_moved (moved_by at bits known node))
added at bits known node =
    either (leb (at.position + bits) max_position)
    (λ e. rw e (told.sum (leb-true (at.position + bits) max_position e)))
    (λ e. rw e (told.past (leb-false (at.position + bits) max_position e)))

aligning-by : (def : Bankdef) (at : Pos) (a : ℕ) (known : Bool) (node : ℕ) (d : Result Skipped Refusal) → distance_of def at.position a node ≡ d
    → Aligning def at a known node (told_moved (moved_by_distance at d known node))
aligning-by def at a known node (Ok s) e = told.by s e (added at s.bits known node)
aligning-by def at a known node (Err why) e = told.untold why e

pub aligning-told : (def : Bankdef) (at : Pos) (a : ℕ) (known : Bool) (node : ℕ) → Aligning def at a known node (told_moved (aligned_to def at a known node))
aligning-told def at a known node = aligning-by def at a known node (distance_of def at.position a node) refl

-- ---- what is skipped

-- a move that skips nothing skips nothing, made or refused
pub none-skipped : (m : Result Pos Refusal) → when_made m no_skip ≡ no_skip
none-skipped (Ok p) = refl
none-skipped (Err why) = refl

module _ (def : Bankdef) (at : Pos) (a node : ℕ) where
  skipping-by : (m : Result Pos Refusal) (d : Result Skipped Refusal) → distance_of def at.position a node ≡ d → Skipping def at a node m (when_made m (skips_by d))
  skipping-by (Ok p) (Ok s) e = told.by e
  skipping-by (Ok p) (Err why) e = told.untold why e
  skipping-by (Err why) d e = told.refused

  pub skipping-told : (m : Result Pos Refusal) → Skipping def at a node m (when_made m (skips_by (distance_of def at.position a node)))
  skipping-told m = skipping-by m (distance_of def at.position a node) refl
