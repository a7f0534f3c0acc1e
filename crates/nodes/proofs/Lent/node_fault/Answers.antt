-- Each return by its law, from the tests before it.
use mathlib.Core.Path.{◌≡◌, sym, ◌∙◌}
use mathlib.Core.Bool.{false}
use borrow.Author.Rules.{rules}
use Rattle.nodes.specs.Kinds.{is_unknown}
use Rattle.nodes.proofs.Faults.{switch-fault, no-fault}
use Rattle.nodes.proofs.Lent.node_fault.Goals as goal

pub returns-then-kind-eq-SWITCH : goal.returns-then-kind-eq-SWITCH
returns-then-kind-eq-SWITCH c =
    let known : is_unknown c.unwrap_or-kind.result ≡ false =
    sym c.is_unknown.ensures ∙ c.if-is_unknown.false in
    switch-fault c.args.banks c.args.self.now c.args.i (search rules) (known) c.if-kind-eq-SWITCH.true (search rules) c.from.ensures

pub returns-then-not-reads_state : goal.returns-then-not-reads_state
returns-then-not-reads_state c =
    let known : is_unknown c.unwrap_or-kind.result ≡ false =
    sym c.is_unknown.ensures ∙ c.if-is_unknown.false in
    no-fault c.args.banks c.args.self.now c.args.i (search rules) (known) c.if-kind-eq-SWITCH.false
    (search rules)
