use Prim.Native.Nat.{ℕ, ◌/◌}
use mathlib.Core.Path.{◌≡◌, sym, ◌∙◌}
use mathlib.Core.Bool.{Bool}
use mathlib.Core.List.{[]}
use native.Mathlib.Omega.{arith}
use borrow.Author.Rules.{rules}
use lib.ListN.{length}
use Rattle.build_profile.specs.Laws.RuleLaws.{ruled-kept, ruled-broken}
use Rattle.build_profile.specs.Rules.{aligns_kept}
use Rattle.build_profile.specs.Steps.{nodes_of}
use Rattle.build_profile.proofs.Loops.{none_yet, one_more, is-broken, aligns-read}
use Rattle.build_profile.proofs.rules.check_aligns.Goals as goal

pub loop-i-init : goal.loop-i-init
loop-i-init c = none_yet (aligns_kept (nodes_of c.args.kinds.now [] c.args.numbers.now (length c.args.numbers.now / length c.args.kinds.now)))

pub returns-then-not-node_kept : goal.returns-then-not-node_kept
returns-then-not-node_kept c =
    let keeps : ℕ → Bool =
    aligns_kept (nodes_of c.args.kinds.now [] c.args.numbers.now (length c.args.numbers.now / length c.args.kinds.now)) in
    -- the node's numbers are those that its rows show
    let looked : c.node_kept.result ≡ keeps c.loop-i.i =
    let a = c.args in
    c.node_kept.ensures ∙ aligns-read a.kinds.now [] a.numbers.now (length a.numbers.now / length a.kinds.now) c.loop-i.i c.loop-i-test.true in
    c.off_profile.ensures
    ∙ sym (ruled-broken (keeps) (length c.args.kinds.now) c.loop-i.i c.loop-i-test.true c.loop-i.invariant
    (is-broken (keeps) c.loop-i.i (looked) (search rules)) 2)

pub loop-i-preserved : goal.loop-i-preserved
loop-i-preserved c =
    let keeps : ℕ → Bool =
    aligns_kept (nodes_of c.args.kinds.now [] c.args.numbers.now (length c.args.numbers.now / length c.args.kinds.now)) in
    -- the node's numbers are those that its rows show
    let looked : c.node_kept.result ≡ keeps c.loop-i.i =
    let a = c.args in
    c.node_kept.ensures ∙ aligns-read a.kinds.now [] a.numbers.now (length a.numbers.now / length a.kinds.now) c.loop-i.i c.loop-i-test.true in
    one_more (keeps) c.loop-i.i c.loop-i.invariant (looked) (search rules)

pub returns : goal.returns
returns c =
    let keeps : ℕ → Bool =
    aligns_kept (nodes_of c.args.kinds.now [] c.args.numbers.now (length c.args.numbers.now / length c.args.kinds.now)) in
    let e : c.loop-i.i ≡ length c.args.kinds.now = omega arith in
    sym (ruled-kept (keeps) 2 (length c.args.kinds.now) (rw e at c.loop-i.invariant))
