-- The first node at fault is the lowest; where none is found, none is at fault.
use mathlib.Core.Path.{◌≡◌, sym, ap, ◌∙◌}
use mathlib.Core.Bool.{true, false}
use lib.ListN.{length}
use native.Mathlib.Omega.{arith}
use borrow.Author.Rules.{rules}
use borrow.Author.Tests.{tests}
use Rattle.std.proofs.lemmas.Iterator.{first_from_Range}
use Rattle.nodes.specs.Lists.{Lists, node_fault}
use Rattle.nodes.specs.Theorems.Sound.{none-refused, lowest-refused}
use Rattle.nodes.proofs.Lent.check_nodes.Goals as goal

pub returns-in-Some : goal.returns-in-Some
returns-in-Some c =
    let l = c.args.self.now in
    let found = first_from_Range _ _ _ c.find.result (λ i. node_fault c.args.banks l i ≡ true) (λ i. node_fault c.args.banks l i ≡ false)
    c.find.ensures.ran (λ x q k. search (rules, tests)) (λ x q k. search (rules, tests)) in
    let n : length c.self.inside.kinds.now ≡ length l.kinds = ap (λ (x : Lists). length x.kinds) c.self.view_is in
    let w = rw c.in-Some.is at found in
    c.malformed.ensures
    ∙ sym (lowest-refused c.args.banks l (length l.kinds) c.in-Some.i (record { listed = omega (arith, w.1); fault = w.2; none = λ j h. w.3 j (omega arith) h }))

pub returns-in-None : goal.returns-in-None
returns-in-None c =
    let l = c.args.self.now in
    let found = first_from_Range _ _ _ c.find.result (λ i. node_fault c.args.banks l i ≡ true) (λ i. node_fault c.args.banks l i ≡ false)
    c.find.ensures.ran (λ x q k. search (rules, tests)) (λ x q k. search (rules, tests)) in
    let n : length c.self.inside.kinds.now ≡ length l.kinds = ap (λ (x : Lists). length x.kinds) c.self.view_is in
    let w = rw c.in-None.is at found in
    sym (none-refused c.args.banks l (length l.kinds) (λ j h. w j (omega arith) (omega (arith, h))))
