-- The definition of an advance followed kind by kind, and of a step by what the node sees and where it moves.
use Rattle.std.specs.Prelude.{◌≤◌, ◌<◌, ◌≡◌, true, false, Result, Ok, Err}
use Rattle.std.proofs.Common.{sym, inl, inr, arith}
use Rattle.std.proofs.Math.Path.{ap}
use Rattle.std.proofs.Math.Decide.{dec_le}
use Rattle.prelude.specs.Laws.Pick.{pick_true, pick-false}
use Rattle.prelude.specs.declared.Refusal.TheVariants.{Malformed}
use Rattle.prelude.specs.declared.Refusal.{Refusal}
use Rattle.bankdef.specs.declared.Bankdef.{Bankdef}
use Rattle.iter.specs.Known.{stays_known}
use Rattle.iter.specs.Step.{moved_by, aligned_to, resolved, bad_state, moved_on, advanced_of}
use Rattle.iter.specs.declared.Pos.{Pos}
use Rattle.nodes.specs.declared.Node.{Node}
use Rattle.nodes.specs.declared.kinds.Doing.{Doing}
use Rattle.nodes.specs.Kinds.{does_of, by_doing}
use Rattle.nodes.specs.Laws.Kinds.{does-stay, does-switch, does-mark, does-add, does-align, does-set, does-nothing-known}

module _ (def : Bankdef) (at : Pos) (node : Node) where
  abbrev moves : Doing → Result Pos Refusal
  moves d =
      by_doing d
      (Ok at)
      (moved_by at node.number (stays_known at.known node) node.index)
      (aligned_to def at node.number (stays_known at.known node) node.index)
      (Ok (record { position = node.number; known = resolved node }))
      (Err (Malformed node.index))

  -- A state beyond 2 that is read is refused.
  pub bad-state : bad_state node ≡ true → advanced_of def at node ≡ Err (Malformed node.index)
  unfolding advanced_of
  bad-state e = pick_true _ _ e

  -- Any other goes on by the node's kind.
  pub sound-state : bad_state node ≡ false → advanced_of def at node ≡ moved_on def at node
  unfolding advanced_of
  sound-state e = pick-false _ _ e

  -- what a move is, by what the kind does
  doing : {d : Doing} → d ≡ does_of node.kind → moved_on def at node ≡ moves d
  unfolding moved_on
  doing e = ap moves (sym e)

  -- kinds 0 to 3
  pub early : node.kind < 4 → moved_on def at node ≡ Ok at
  early h =
      let k = node.kind in
      elim (dec_le k 0) [
        | yes none ↦ doing (does-stay k (inl (omega arith)))
        | no some ↦
            elim (dec_le k 1) [
              | yes one ↦ doing (does-switch k (omega arith))
              | no more ↦ doing (does-mark k (omega arith) (omega arith))
            ]
      ]

  -- kinds 4 to 7
  pub item : 4 ≤ node.kind → node.kind ≤ 7 → moved_on def at node ≡ moved_by at node.number (stays_known at.known node) node.index
  item h k = doing (does-add node.kind h k)

  pub aligning : node.kind ≡ 8 → moved_on def at node ≡ aligned_to def at node.number (stays_known at.known node) node.index
  aligning e = doing (does-align node.kind e)

  pub setting : node.kind ≡ 9 → moved_on def at node ≡ Ok (record { position = node.number; known = resolved node })
  setting e = doing (does-set node.kind e)

  pub asserting : node.kind ≡ 10 → moved_on def at node ≡ Ok at
  asserting e = doing (does-stay node.kind (inr e))

  -- "Any other kind number is refused."
  pub other : 10 < node.kind → moved_on def at node ≡ Err (Malformed node.index)
  other h = doing (does-nothing-known node.kind h)
