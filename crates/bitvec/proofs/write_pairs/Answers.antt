use Rattle.std.proofs.Common.{ℕ, refl, ◌∙◌, ◌/◌, arith}
use Rattle.std.proofs.lemmas.List.{length-set, length-take, get_or-take}
use Rattle.bitvec.specs.Lists.{list_of}
use Rattle.bitvec.specs.HexDigits.{digit_at}
use Rattle.bitvec.proofs.HexLaws.{upper, lower, whole, two-more}
use Rattle.bitvec.proofs.write_pairs.Goals as goal

pub loop-i-init : goal.loop-i-init
unfolding list_of
loop-i-init c = (refl, refl)

pub loop-i-preserved : goal.loop-i-preserved
loop-i-preserved c =
    let a = c.args in
    let i = c.loop-i.i in
    let byte = get_or-take (a.bits / 8) a.bytes.now i 0 (omega (arith, length-take {A = ℕ})) ∙ whole a.bytes.now a.bits (λ n. (c.type_inv.bytes n).fits) i (omega (arith, length-take {A = ℕ})) in (
      simp length-set (omega arith),
      two-more (digit_at a.bytes.now a.bits) a.hex.now i c.digit.result c.digit-in-loop-i.result c.loop-i.hex
          (omega (arith, length-take {A = ℕ})) c.loop-i.invariant.1
          (c.digit.ensures ∙ upper a.bytes.now a.bits i _ byte)
          (c.digit-in-loop-i.ensures ∙ lower a.bytes.now a.bits i _ byte),
    )
