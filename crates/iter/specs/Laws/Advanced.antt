-- What a node sees and its own advance, by cases of its kind.
use Rattle.std.specs.Prelude.{ℕ, ◌≡◌, Bool, true, false, Ok, None, Some}
use Rattle.std.proofs.Common.{eq-eqb}
use Rattle.prelude.specs.Laws.Bools.{either}
use Rattle.bankdef.specs.declared.Bankdef.{Bankdef}
use Rattle.iter.specs.Step.{aligned_to, outermost_symbol, seen_of, advanced_of, still, aligned_motion, seen_skips, seen_motion, advance_skips}
use Rattle.iter.specs.Step.{advance_motion}
use Rattle.iter.specs.declared.Pos.{Pos}
use Rattle.nodes.specs.declared.Node.{Node}

module _ (def : Bankdef) (at : Pos) (node : Node) where
  -- a node that is no symbol of depth 0
  pub sight-plain : outermost_symbol node ≡ false → still (Ok at) ≡ seen_motion def at node
  unfolding seen_of seen_skips
  sight-plain e = rw e

  -- a bank without label alignment
  pub sight-unaligned : def.align ≡ None → still (Ok at) ≡ seen_motion def at node
  unfolding seen_of seen_skips
  sight-unaligned e = either (outermost_symbol node) (λ t. rw (t, e)) (λ t. rw t)

  -- a symbol of depth 0 in a bank with label alignment
  pub sight-aligned : (a : ℕ) → outermost_symbol node ≡ true → def.align ≡ Some a
      → aligned_motion def at a at.known node.index ≡ seen_motion def at node
  unfolding seen_of seen_skips
  sight-aligned a t e = rw (t, e)

  pub advance-aligned : (known : Bool) → advanced_of def at node ≡ aligned_to def at node.number known node.index → node.kind ≡ 8
      → aligned_motion def at node.number known node.index ≡ advance_motion def at node
  unfolding advance_skips
  advance-aligned known e k = rw (eq-eqb node.kind 8 k, e)
