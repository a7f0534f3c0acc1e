-- Theorems about what Unread defines.
use Rattle.std.specs.Prelude.{◌≡◌}
use Rattle.std.proofs.Common.{◌∙◌, ap}
use Rattle.bankdef.specs.declared.Bankdefs.{Bankdefs}
use Rattle.resolver.specs.Layout.{layout_of}
use Rattle.nodes.specs.Lists.{Lists, lists}
use Rattle.resolver.specs.declared.Choices.{Choices}
use Rattle.resolver.specs.Laws.Unread.{layout-same}
use Rattle.resolver.specs.Unread.{AgreeWhereRead}

-- Two lists that agree wherever a kind reads get one answer, K, refusal and passes run.
pub unread-changes-nothing : (banks : Bankdefs) (l m : Lists) → AgreeWhereRead l m → (choices : Choices) → layout_of banks l choices ≡ layout_of banks m choices
unread-changes-nothing banks l m a choices =
    ap (λ (x : Lists). layout_of banks x choices) moved
    ∙ layout-same banks m.kinds m.rows l.operands l.numbers l.states l.values m.operands m.numbers m.states m.values
    (record {
      operand-count = a.operand-count;
      number-count = a.number-count;
      state-count = a.state-count;
      value-count = a.value-count;
      operand = a.operands;
      number = a.numbers;
      state = a.states;
    })
    choices
  where
    moved : l ≡ lists m.kinds l.operands l.numbers l.states m.rows l.values
    moved = rw (← a.kinds, ← a.rows)
