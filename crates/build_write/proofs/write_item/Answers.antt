-- A written item's bits are what `write_bits` leaves where the item passes no end, which is required.
use Rattle.std.specs.Prelude.{None}
use mathlib.Core.Path.{◌≡◌, sym, ◌∙◌}
use mathlib.Core.Bool.{true}
use borrow.Author.Rules.{rules}
use borrow.Author.Tests.{not-true, not-false}
use Rattle.build_visits.specs.Items.{is_written}
use Rattle.build_write.proofs.WritingSteps.{item-none, item-nowhere, item-written}
use Rattle.build_write.proofs.write_item.Goals as goal

pub returns-then-not-is_written : goal.returns-then-not-is_written
returns-then-not-is_written c =
    let a = c.args in
    item-none a.image.now a.values.now a.node a.out (sym c.is_written.ensures ∙ not-true _ c.if-not-is_written.true-raw)

pub returns-in_default : goal.returns-in_default
returns-in_default c =
    -- past the first test
    let writes : is_written c.args.node ≡ true =
    sym c.is_written.ensures ∙ not-false _ c.if-not-is_written.false-raw in
    let at : c.args.out ≡ None = search rules in
    item-nowhere c.args.image.now c.args.values.now c.args.node c.args.out (writes) at

pub returns-in-Some : goal.returns-in-Some
returns-in-Some c =
    -- past the first test
    let writes : is_written c.args.node ≡ true =
    sym c.is_written.ensures ∙ not-false _ c.if-not-is_written.false-raw in
    item-written c.args.image.now c.args.values.now c.args.node (writes) c.in-Some.is c.requires
    (rw (c.from.ensures, c.from-in-Some.ensures) at c.write_bits.ensures.bytes)
