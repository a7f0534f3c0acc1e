use mathlib.Core.Path.{◌≡◌, sym, ap, subst, ◌∙◌}
use Prim.Native.Nat.{ℕ, ◌+◌}
use native.Mathlib.Omega.{arith}
use lib.ListN.{length, replicate, length-replicate, length-take, length-drop}
use Rattle.bankdef.specs.Check.{banks_of}
use Rattle.bankdef.specs.declared.Bankdef.{Bankdef}
use Rattle.build_write.specs.Steps.{OnesOf}
use Rattle.build_write.proofs.Laying.{laid_to, laid-first, laid_next, laid-all, from-one}
use Rattle.build_write.proofs.blank.lay_blank.Goals as goal

pub loop-def-init : goal.loop-def-init
loop-def-init c =
    -- clearing keeps the length
    let kept : length c.clear.new.image ≡ length c.args.image.now =
    ap length c.clear.ensures.zeros ∙ length-replicate _ 0 in
    let cleared : c.clear.new.image ≡ replicate (length c.clear.new.image) 0 =
    c.clear.ensures.zeros ∙ ap (λ (n : ℕ). replicate n 0) (sym (kept)) in
    let a = c.args in
    cleared ∙ laid-first (banks_of a.banks) a.bits (length c.clear.new.image)

pub loop-def-preserved : goal.loop-def-preserved
loop-def-preserved c =
    let a = c.args in
    let k = c.loop-def.def-index in
    let ones = c.ones_of-ones in
    let range = subst (λ (b : Bankdef). OnesOf b a.bits ones.result.from ones.result.end)
    (from-one a.banks.defs a.banks.len _ k c.loop-def-test.true
    (omega (arith, length-take {A = Bankdef}, length-drop {A = Bankdef}, c.loop-def-test.true))) ones.ensures in
    let next : 1 + (k + 1) ≡ 1 + k + 1 = omega arith in
    rw next
    (laid_next (banks_of a.banks) a.bits _ (1 + k) ones.result.from ones.result.end (omega arith) range c.loop-def.invariant c.set_ones.ensures.bytes)

pub returns : goal.returns
returns c =
    -- clearing keeps the length
    let kept : length c.clear.new.image ≡ length c.args.image.now =
    ap length c.clear.ensures.zeros ∙ length-replicate _ 0 in
    let a = c.args in
    let k = c.loop-def.def-index in
    c.loop-def.invariant
    ∙ ap (λ (n : ℕ). laid_to (banks_of a.banks) a.bits n (1 + k)) (kept)
    ∙ laid-all (banks_of a.banks) a.bits (length a.image.now) (1 + k)
    (omega (arith, length-take a.banks.len a.banks.defs, length-take {A = Bankdef}, length-drop {A = Bankdef}, c.loop-def-test.false))
