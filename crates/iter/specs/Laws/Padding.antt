-- Laws that Theorems/Padding rests on.
use Rattle.std.specs.Prelude.{ℕ, zero, suc, ◌/◌, ◌≡◌, Bool, eqb, get_or, set, replicate, Ok, Err, Result, Option, None, Some}
use Rattle.std.proofs.Math.Path.{refl}
use Rattle.std.proofs.Common.{sym, ap, ◌∙◌}
use Rattle.std.proofs.Math.Bool.{true, false}
use Rattle.std.proofs.Math.Nat.{zero-div}
use Rattle.prelude.specs.Pick.{pick}
use Rattle.prelude.specs.declared.Refusal.TheVariants.{Malformed}
use Rattle.prelude.specs.declared.Refusal.{Refusal}
use Rattle.bankdef.specs.declared.Bankdef.{Bankdef}
use Rattle.iter.specs.Crossing.{crossing_of, halted, crossed_to, crossed_from}
use Rattle.iter.specs.Distance.{tellable, address_in_bits, distance_to, skips_of, no_skip, distance_of}
use Rattle.iter.specs.Padding.{Part, the-bits, the-units, lost_part, skipped_part}
use Rattle.iter.specs.Step.{no_lost, outermost_symbol, seen_of, bad_state, advanced_of, skips_by, when_made}
use Rattle.iter.specs.Step.{label_skips, seen_skips, advance_skips, sum_after, lost_after, step_skips}
use Rattle.iter.specs.declared.Crossing.{Crossing}
use Rattle.iter.specs.declared.Lost.{Lost}
use Rattle.nodes.specs.declared.Node.{Node}
use Rattle.iter.specs.declared.Pos.{Pos}
use Rattle.iter.specs.declared.Skipped.{Skipped}

-- each part is added up by itself
pub part-after : (part : Part) (l : Lost) (s : Skipped) → lost_part part (lost_after l s) ≡ sum_after (lost_part part l) (skipped_part part s)
part-after the-bits l s = refl
part-after the-units l s = refl

-- ---- the units of what is skipped

module _ (def : Bankdef) where
  -- "distance over unit, rounded down"
  abbrev pub Whole : Skipped → Type 0
  Whole s = s.units ≡ s.bits / def.unit

  whole-none : Whole no_skip
  whole-none = sym (zero-div def.unit)

  whole-distance : (position a node : ℕ) → Whole (skips_by (distance_of def position a node))
  unfolding distance_of
  whole-distance position a node = go (tellable def)
    where
      go : (t : Bool) → Whole (skips_by (pick t (Ok (skips_of def (distance_to (address_in_bits def position) a))) (Err (Malformed node))))
      go true = refl
      go false = whole-none

  whole-made : (m : Result Pos Refusal) (s : Skipped) → Whole s → Whole (when_made m s)
  whole-made (Ok p) s h = h
  whole-made (Err why) s h = whole-none

  whole-pick : (t : Bool) (x y : Skipped) → Whole x → Whole y → Whole (pick t x y)
  whole-pick true x y h k = h
  whole-pick false x y h k = k

  whole-label : (o : Option ℕ) (at : Pos) (node : ℕ) → Whole (label_skips def o at node)
  whole-label None at node = whole-none
  whole-label (Some a) at node = whole-distance at.position a node

  sight-whole : (at : Pos) (node : Node) → Whole (seen_skips def at node)
  unfolding seen_skips
  sight-whole at node = whole-made (seen_of def at node) _ (whole-pick (outermost_symbol node) _ no_skip (whole-label def.align at node.index) whole-none)

  own-whole : (at : Pos) (node : Node) → Whole (advance_skips def at node)
  unfolding advance_skips
  own-whole at node =
      whole-made (advanced_of def at node) _
      (whole-pick (eqb node.kind 8) _ no_skip (whole-distance at.position node.number node.index) whole-none)

  pub step-whole : (at p : Pos) (node : Node) → Whole (step_skips def at p node)
  step-whole at p node = whole-pick (eqb node.kind 8) (advance_skips def p node) (seen_skips def at node) (own-whole p node) (sight-whole at node)

  whole-crossed : (at p : Pos) (s : Skipped) (m : Result Pos Refusal) → Whole s → Whole (crossed_to at p s m).skipped
  whole-crossed at p s (Ok q) h = h
  whole-crossed at p s (Err why) h = whole-none

  crossing-whole : (at : Pos) (node : Node) → Whole (crossing_of def at node).skipped
  unfolding crossing_of
  crossing-whole at node = go (bad_state node) (seen_of def at node)
    where
      go : (t : Bool) (m : Result Pos Refusal) → Whole (pick t (halted at (Malformed node.index)) (crossed_from def at node m)).skipped
      go true m = whole-none
      go false (Ok p) = whole-crossed at p (step_skips def at p node) (advanced_of def p node) (step-whole at p node)
      go false (Err why) = whole-none

  -- a node that skips no bits skips nothing
  pub crossing-still : (at : Pos) (node : Node) {c : Crossing} → c ≡ crossing_of def at node → c.skipped.bits ≡ 0 → c.skipped ≡ no_skip
  crossing-still at node {c} e none =
      let units : c.skipped.units ≡ 0 = rw e (crossing-whole at node) ∙ ap (λ (b : ℕ). b / def.unit) none ∙ zero-div def.unit in
      ap (λ (b : ℕ). record { bits = b; units = c.skipped.units }) none ∙ ap (λ (u : ℕ). record { bits = 0; units = u }) units

pub none_yet : (n j : ℕ) → get_or (replicate n no_lost) j no_lost ≡ no_lost
none_yet zero j = refl
none_yet (suc n) zero = refl
none_yet (suc n) (suc j) = none_yet n j
