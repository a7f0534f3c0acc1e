use Prim.Native.Nat.{ℕ, suc, ◌/◌, ◌<◌}
use mathlib.Core.Path.{◌≡◌, sym, ap, ◌∙◌, subst}
use mathlib.Core.Bool.{Bool}
use native.Mathlib.Numerals.{add-one}
use native.Mathlib.Omega.{arith}
use lib.ListN.{get_or, length}
use borrow.Author.Rules.{rules}
use Rattle.bankdef.specs.Check.{no_bank}
use Rattle.bankdef.specs.declared.Bankdef.{Bankdef}
use Rattle.resolver.specs.Theorems.Listed.{listed-bank}
use Rattle.resolver.specs.Once.{bank_record}
use Rattle.build_profile.specs.Laws.RuleLaws.{ruled-kept, ruled-broken}
use Rattle.build_profile.specs.Rules.{all, addr_kept, addrs_kept, number_in}
use Rattle.build_profile.specs.Standing.{bank_of_node}
use Rattle.build_profile.specs.Steps.{nodes_of}
use Rattle.build_profile.proofs.Loops.{none_yet, one_more, is-broken, addrs-read, begins, goes_on, stays-listed}
use Rattle.build_profile.proofs.rules.check_addrs.Goals.{After-bank_next-bank, After-node_kept}
use Rattle.build_profile.proofs.rules.check_addrs.Goals as goal

-- the bank in force at the node, one of the table's
stands : (c : After-bank_next-bank) → c.bank_next-bank.result ≡ bank_of_node c.args.kinds.now c.args.operands.now c.loop-i.i
stands c = goes_on c.args.kinds.now c.args.operands.now c.loop-i.i c.loop-i.invariant.0 c.bank_next-bank.ensures

listed : (c : After-bank_next-bank) → c.bank_next-bank.result < c.args.banks.len
listed c =
    subst (λ (bank : ℕ). bank < c.args.banks.len) (sym (stands c))
    (stays-listed c.args.kinds.now c.args.operands.now c.args.banks c.args.numbers.now (length c.args.numbers.now / length c.args.kinds.now) c.requires
    (suc c.loop-i.i) c.loop-i-test.true)

abbrev keeps : After-bank_next-bank → ℕ → Bool
keeps c =
    addrs_kept c.args.banks
    (nodes_of c.args.kinds.now c.args.operands.now c.args.numbers.now (length c.args.numbers.now / length c.args.kinds.now))

-- what was looked at is what the node's rows show, against the unit of that bank
shown : (c : After-node_kept) → c.bank_next-bank.result ≡ bank_of_node c.args.kinds.now c.args.operands.now c.loop-i.i
    → c.bank_next-bank.result < c.args.banks.len
    → c.node_kept.result
    ≡ addrs_kept c.args.banks
    (nodes_of c.args.kinds.now c.args.operands.now c.args.numbers.now (length c.args.numbers.now / length c.args.kinds.now)) c.loop-i.i
shown c stands listed =
    let a = c.args in
    let i = c.loop-i.i in
    let rows = length a.numbers.now / length a.kinds.now in
    let l = nodes_of a.kinds.now a.operands.now a.numbers.now rows in
    let own : get_or a.banks.defs c.bank_next-bank.result no_bank ≡ bank_record a.banks (bank_of_node a.kinds.now a.operands.now i) =
    sym (listed-bank a.banks c.bank_next-bank.result listed) ∙ ap (bank_record a.banks) stands in
    rw c.from-unit.ensures at c.node_kept.ensures
    ∙ (addrs-read a.kinds.now a.operands.now a.numbers.now rows i c.loop-i-test.true (get_or a.banks.defs c.bank_next-bank.result no_bank).unit
    ∙ ap (λ (d : Bankdef). all (λ r. addr_kept d.unit (get_or a.kinds.now i 0) (number_in l r i)) rows) own)

pub loop-i-init : goal.loop-i-init
loop-i-init c =
    let a = c.args in (
      begins a.kinds.now a.operands.now,
      none_yet (addrs_kept a.banks (nodes_of a.kinds.now a.operands.now a.numbers.now (length a.numbers.now / length a.kinds.now))),
    )

pub bounds-banks-bank : goal.bounds-banks-bank
bounds-banks-bank c = omega (arith, listed c, c.requires.few)

pub returns-then-not-node_kept : goal.returns-then-not-node_kept
returns-then-not-node_kept c =
    let at = (goal.at.returns-then-not-node_kept c).After-bank_next-bank in
    let looked = shown (goal.at.returns-then-not-node_kept c).After-node_kept (stands at) (listed at) in
    c.off_profile.ensures
    ∙ sym (ruled-broken (keeps at) (length c.args.kinds.now) c.loop-i.i c.loop-i-test.true c.loop-i.invariant.1
    (is-broken (keeps at) c.loop-i.i looked (search rules)) 6)

pub loop-i-preserved : goal.loop-i-preserved
loop-i-preserved c =
    let at = (goal.at.loop-i-preserved c).After-bank_next-bank in
    let looked = shown (goal.at.loop-i-preserved c).After-node_kept (stands at) (listed at) in
    (rw add-one (stands at), one_more (keeps at) c.loop-i.i c.loop-i.invariant.1 looked (search rules))

pub returns : goal.returns
returns c =
    let a = c.args in
    let keeps : ℕ → Bool =
    addrs_kept a.banks (nodes_of a.kinds.now a.operands.now a.numbers.now (length a.numbers.now / length a.kinds.now)) in
    let e : c.loop-i.i ≡ length a.kinds.now = omega arith in
    sym (ruled-kept keeps 6 (length a.kinds.now) (rw e at c.loop-i.invariant.1))
