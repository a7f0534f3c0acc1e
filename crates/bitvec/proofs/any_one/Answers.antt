-- `bitvec::any_one`: a bit that is read is a one, or is none.
use Rattle.std.proofs.Common.{◌≡◌, ℕ, ◌-◌, refl, rules, tests}
use Rattle.std.proofs.lemmas.Iterator.{cases_from_any, YieldsList-from_range}
use Rattle.bitvec.specs.Bits.{bit_at}
use Rattle.bitvec.proofs.OnesLaws.{bit-one, bit-none, any-told}
use Rattle.bitvec.proofs.any_one.Goals as goal

pub returns : goal.returns
returns c =
    let a = c.args in
    let stop = c.last_bit-stop.result in
    any-told a.image.now a.from a.end stop c.any.result c.last_bit-stop.ensures
    (cases_from_any _ _ _ (λ (i : ℕ). bit_at a.image.now i ≡ 1) (λ (i : ℕ). bit_at a.image.now i ≡ 0) c.any.ensures.ran
    (YieldsList-from_range a.from stop (stop - a.from) refl refl) (λ x q k. search (rules, tests, bit-one)) (λ x q k. (search rules, search (rules, tests, bit-none))))
