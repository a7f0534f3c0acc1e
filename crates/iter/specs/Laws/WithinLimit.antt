-- Laws that Theorems/WithinLimit rests on.
use Rattle.std.specs.Prelude.{ℕ, zero, suc, ◌+◌, ◌≤◌, ◌≡◌, refl, Bool, true, false, List, [], ◌∷◌, leb, get_or, set, replicate, Result, Ok, Err, Option, None, Some}
use Rattle.std.proofs.Common.{zero-le, leb-true}
use Rattle.prelude.specs.Limits.{max_position}
use Rattle.prelude.specs.Pick.{pick}
use Rattle.prelude.specs.declared.Refusal.{Refusal}
use Rattle.bankdef.specs.declared.Bankdef.{Bankdef}
use Rattle.iter.specs.Distance.{distance_of}
use Rattle.iter.specs.Step.{origin, moved_by, moved_by_distance, aligned_to, outermost_symbol, label_aligned, seen_of, bad_state}
use Rattle.iter.specs.Step.{moved_on, advanced_of}
use Rattle.iter.specs.declared.Pos.{Pos}
use Rattle.nodes.specs.Kinds.{does_of}
use Rattle.nodes.specs.Laws.Kinds.{in-each}
use Rattle.nodes.specs.declared.Node.{Node}
use Rattle.iter.specs.WithinLimit.{Small}
use Rattle.iter.specs.declared.Skipped.{Skipped}

-- a position that is seen or moved to is within the limit
abbrev pub Within : Result Pos Refusal → Type 0
Within (Ok p) = Small p
Within (Err why) = Unit

either : (P : Result Pos Refusal → Type 0) (b : Bool) (x y : Result Pos Refusal) → (b ≡ true → P x) → (b ≡ false → P y) → P (pick b x y)
either P true x y f g = f refl
either P false x y f g = g refl

moved-within : (at : Pos) (bits : ℕ) (known : Bool) (node : ℕ) → Within (moved_by at bits known node)
moved-within at bits known node =
    either Within (leb (at.position + bits) max_position) _ _ (leb-true (at.position + bits) max_position) (λ e. tt)

by-distance : (at : Pos) (x : Result Skipped Refusal) (known : Bool) (node : ℕ) → Within (moved_by_distance at x known node)
by-distance at (Ok s) known node = moved-within at s.bits known node
by-distance at (Err why) known node = tt

aligned-within : (def : Bankdef) (at : Pos) (a : ℕ) (known : Bool) (node : ℕ) → Within (aligned_to def at a known node)
aligned-within def at a known node = by-distance at (distance_of def at.position a node) known node

label-within : (def : Bankdef) (o : Option ℕ) (at : Pos) (node : ℕ) → Small at → Within (label_aligned def o at node)
label-within def None at node h = h
label-within def (Some a) at node h = aligned-within def at a at.known node

module _ (def : Bankdef) (at : Pos) (node : Node) (small : Small at) where
  -- What a node sees is within the limit.
  pub seen-within : Within (seen_of def at node)
  unfolding seen_of
  seen-within = either Within (outermost_symbol node) _ _ (λ e. label-within def def.align at node.index small) (λ e. small)

  -- A node's own advance stays within the limit. (That the row's number is within it is its type's.)
  pub advanced-within : node.number ≤ max_position → Within (advanced_of def at node)
  unfolding advanced_of moved_on
  advanced-within h =
      either Within (bad_state node) _ _ (λ e. tt)
      (λ e.
      in-each Within (does_of node.kind) small (moved-within at node.number _ node.index)
      (aligned-within def at node.number _ node.index) h tt)

-- what holds of each element of a list, and of one that is put in, holds of each element afterwards
pub set_all : {A : Type 0} (P : A → Type 0) (l : List A) (i : ℕ) (q d : A) → P q → ((j : ℕ) → P (get_or l j d)) → (j : ℕ) → P (get_or (set l i q) j d)
set_all P [] i q d hq h j = h j
set_all P (x ∷ l) zero q d hq h zero = hq
set_all P (x ∷ l) zero q d hq h (suc j) = h (suc j)
set_all P (x ∷ l) (suc i) q d hq h zero = h zero
set_all P (x ∷ l) (suc i) q d hq h (suc j) = set_all P l i q d hq (λ k. h (suc k)) j

-- each number of a row is within its type's range
abbrev pub Numbers : List Node → Type 0
Numbers [] = Unit
Numbers (node ∷ nodes) = (node.number ≤ max_position) × Numbers nodes

pub origins : (n j : ℕ) → Small (get_or (replicate n origin) j origin)
origins zero j = zero-le
origins (suc n) zero = zero-le
origins (suc n) (suc j) = origins n j
