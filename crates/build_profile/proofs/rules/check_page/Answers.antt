-- A rule over the page size alone.
use Prim.Native.Nat.{ℕ}
use mathlib.Core.Path.{sym, ◌∙◌}
use native.Mathlib.Omega.{arith}
use Rattle.build_profile.specs.OneBit.{one_bit}
use Rattle.build_profile.specs.Laws.RuleLaws.{ruled-kept, ruled-broken}
use Rattle.build_profile.proofs.rules.check_page.Goals as goal

pub returns-then-one_bit : goal.returns-then-one_bit
returns-then-one_bit c =
    sym (ruled-kept (λ (k : ℕ). one_bit c.args.page) 1 1 (λ k h. sym c.one_bit.ensures ∙ c.if-one_bit.true))

pub returns-else-one_bit : goal.returns-else-one_bit
returns-else-one_bit c =
    let page = c.args.page in
    c.off_profile.ensures ∙ sym (ruled-broken (λ (k : ℕ). one_bit page) 1 0 (omega arith) (λ k h. absurd (omega arith))
    (sym c.one_bit.ensures ∙ c.if-one_bit.false) 1)
