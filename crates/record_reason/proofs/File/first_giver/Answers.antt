use borrow.Author.Rules.{rules}
use Rattle.record_reason.proofs.Walks.{seeking-starts, seeking-on, seeking-found}
use Rattle.record_reason.proofs.File.first_giver.Goals as goal

pub loop-k-init : goal.loop-k-init
loop-k-init c =
    seeking-starts c.args.self.now.format c.args.self.now.text.now c.args.n c.args.first c.args.end

pub returns-then-not-leaves : goal.returns-then-not-leaves
returns-then-not-leaves c =
    seeking-found _ _ _ _ _ c.loop-k.invariant c.loop-k-test.true
    (c.search_line-s.ensures c.args.self.now.spells) c.leaves.ensures (search rules)

pub loop-k-preserved : goal.loop-k-preserved
loop-k-preserved c =
    seeking-on _ _ _ _ _ c.loop-k.invariant c.loop-k-test.true
    (c.search_line-s.ensures c.args.self.now.spells) c.leaves.ensures (search rules)
