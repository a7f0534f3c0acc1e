-- Laws of a step, by what the node sees and where it moves.
use Rattle.std.specs.Prelude.{ℕ, ◌≡◌, true, false, get_or, Err, Ok}
use Rattle.std.proofs.Common.{sym}
use Rattle.prelude.specs.declared.Refusal.{Refusal}
use Rattle.prelude.specs.declared.Refusal.TheVariants.{Malformed}
use Rattle.bankdef.specs.declared.Bankdef.{Bankdef}
use Rattle.iter.specs.Step.{origin, seen_of, advanced_of, bank_after, kept, stopped, step_skips}
use Rattle.iter.specs.Step.{malformed, step_of}
use Rattle.iter.specs.declared.Pos.{Pos}
use Rattle.nodes.specs.declared.Node.{Node}
use Rattle.iter.specs.declared.Walk.{Walk}

module _ (def : Bankdef) (walk : Walk) (node : Node) (bank : ℕ) (e : bank ≡ bank_after walk.bank node) where
  pub outside : malformed bank node ≡ true → step_of def walk node ≡ stopped walk (Malformed node.index)
  unfolding step_of
  outside h = rw (sym e, h)

  module _ (sound : malformed bank node ≡ false) where
    pub blind : (why : Refusal) → seen_of def (get_or walk.at bank origin) node ≡ Err why
        → step_of def walk node ≡ stopped walk why
    unfolding step_of
    blind why s = rw (sym e, sound, s)

    pub stuck : (p : Pos) (why : Refusal) → seen_of def (get_or walk.at bank origin) node ≡ Ok p → advanced_of def p node ≡ Err why
        → step_of def walk node ≡ stopped walk why
    unfolding step_of
    stuck p why s a = rw (sym e, sound, s, a)

    pub moves : (p q : Pos) → seen_of def (get_or walk.at bank origin) node ≡ Ok p → advanced_of def p node ≡ Ok q
        → let s = step_skips def (get_or walk.at bank origin) p node in
        step_of def walk node ≡ record { seen = Ok p; skipped = s; walk = kept walk bank q s }
    unfolding step_of
    moves p q s a = rw (sym e, sound, s, a)
