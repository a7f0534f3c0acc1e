-- `record_srec_line::address_of`: two bytes, or four.
use mathlib.Core.Path.{◌≡◌, sym, ap, ◌∙◌}
use mathlib.Core.Logic.{⊎_elim}
use Prim.Native.Nat.{ℕ, ◌+◌, ◌*◌}
use native.Mathlib.Omega.{arith}
use Rattle.record_lines.specs.Digits.{pair_at}
use Rattle.record_srec_line.proofs.Laws.{address-two, address-four}
use Rattle.record_srec_line.proofs.Reading.address_of.Goals as goal

pub returns-then-width-eq2 : goal.returns-then-width-eq2
returns-then-width-eq2 c spells =
    rw c.if-width-eq2.true (ap (λ (n : ℕ). n * 256 + c.byte-2.result) (c.byte.ensures.0 spells)
    ∙ ap (λ (n : ℕ). pair_at c.args.self.now.line.now 4 * 256 + n) (c.byte-2.ensures.0 spells)
    ∙ sym (address-two c.args.self.now.line.now))

pub returns : goal.returns
returns c spells =
    let four : c.args.width ≡ 4 = ⊎_elim (λ e. absurd (c.if-width-eq2.false e)) (λ e. e) c.requires in
    rw four (omega (
      arith,
      c.byte.ensures.0 spells,
      c.byte-2.ensures.0 spells,
      c.byte-3.ensures.0 spells,
      c.byte-4.ensures.0 spells,
      address-four c.args.self.now.line.now,
    ))
