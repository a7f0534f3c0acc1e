-- What a step reads of a bank's record: a record with that alone makes the same step.
use Rattle.std.specs.Prelude.{◌≡◌, Option, ℕ, None, Some, Result, Ok, Err}
use Rattle.std.proofs.Math.Path.{refl, ap}
use Rattle.std.proofs.Common.{◌∙◌}
use Rattle.prelude.specs.Pick.{pick}
use Rattle.prelude.specs.declared.Refusal.TheVariants.{Malformed}
use Rattle.prelude.specs.declared.Refusal.{Refusal}
use Rattle.bankdef.specs.declared.Bankdef.{Bankdef}
use Rattle.iter.specs.Crossing.{crossing_of, halted, crossed_to, crossed_from}
use Rattle.iter.specs.Distance.{no_skip, distance_of}
use Rattle.iter.specs.Pace.{numbers_of, Paces, bank_read}
use Rattle.iter.specs.Step.{outermost_symbol, seen_of, bad_state, moved_on, advanced_of}
use Rattle.iter.specs.Step.{label_aligned, when_made, label_skips, counted, seen_skips, advance_skips}
use Rattle.iter.specs.declared.Crossing.{Crossing}
use Rattle.nodes.specs.declared.Node.{Node}
use Rattle.iter.specs.declared.Paced.{Paced}
use Rattle.iter.specs.declared.Pos.{Pos}
use Rattle.iter.specs.declared.Skipped.{Skipped}

module _ (def : Bankdef) (at : Pos) (node : Node) where
  abbrev shown : Bankdef
  shown = bank_read def.unit def.start def.align

  label-read : (o : Option ℕ) → label_aligned shown o at node.index ≡ label_aligned def o at node.index
  unfolding distance_of
  label-read None = refl
  label-read (Some a) = refl

  label-skips-read : (o : Option ℕ) → label_skips shown o at node.index ≡ label_skips def o at node.index
  unfolding distance_of
  label-skips-read None = refl
  label-skips-read (Some a) = refl

  sees-read : seen_of shown at node ≡ seen_of def at node
  unfolding seen_of
  sees-read = ap (λ (m : Result Pos Refusal). pick (outermost_symbol node) m (Ok at)) (label-read def.align)

  sight-skips-read : seen_skips shown at node ≡ seen_skips def at node
  unfolding seen_skips
  sight-skips-read =
      ap (λ (s : Skipped). when_made (seen_of shown at node) (pick (outermost_symbol node) s no_skip)) (label-skips-read def.align)
      ∙ ap (λ (m : Result Pos Refusal). when_made m (pick (outermost_symbol node) (label_skips def def.align at node.index) no_skip)) sees-read

  moves_read : (p : Pos) → advanced_of shown p node ≡ advanced_of def p node
  unfolding advanced_of moved_on distance_of
  moves_read p = refl

  own-skips-read : (p : Pos) → advance_skips shown p node ≡ advance_skips def p node
  unfolding advance_skips advanced_of moved_on distance_of
  own-skips-read p = refl

  crossed-read : (m : Result Pos Refusal) → crossed_from shown at node m ≡ crossed_from def at node m
  crossed-read (Ok p) =
      ap (λ (s : Skipped). crossed_to at p (counted node s (advance_skips shown p node)) (advanced_of shown p node)) sight-skips-read
      ∙ ap (λ (s : Skipped). crossed_to at p (counted node (seen_skips def at node) s) (advanced_of shown p node)) (own-skips-read p)
      ∙ ap (λ (q : Result Pos Refusal). crossed_to at p (counted node (seen_skips def at node) (advance_skips def p node)) q) (moves_read p)
  crossed-read (Err why) = refl

  bank-read : crossing_of shown at node ≡ crossing_of def at node
  unfolding crossing_of
  bank-read =
      ap (λ (c : Crossing). pick (bad_state node) (halted at (Malformed node.index)) c)
      (ap (λ (m : Result Pos Refusal). crossed_from shown at node m) sees-read ∙ crossed-read (seen_of def at node))

  pub paces-read : {r : Paced} → Paces shown at node r → Paces def at node r
  paces-read e = (e.0 ∙ ap numbers_of bank-read, e.1 ∙ bank-read)
