-- `bitvec::write_tail` writes no digit, one or two, by how many bits are left.
use Prim.Native.Nat.{ℕ, ◌-◌, ◌*◌, ◌/◌, ◌%◌}
use mathlib.Core.Path.{◌≡◌, ap, ◌∙◌}
use mathlib.Core.List.{◌++◌}
use native.Mathlib.Omega.{arith}
use lib.ListN.{drop}
use Rattle.bitvec.specs.Lists.{list_of}
use Rattle.bitvec.specs.HexDigits.{digit_at}
use Rattle.bitvec.proofs.HexLaws.{printed, last, upper, lower, one_more, two-more}
use Rattle.bitvec.proofs.write_tail.Goals as goal

pub returns-then-left-le4 : goal.returns-then-left-le4
returns-then-left-le4 c =
    -- the byte with zeros past the bit length
    let padded : c.from-byte.result - c.from-byte.result % c.power.result
    ≡ printed c.args.bytes.now c.args.bits
    (c.args.bits / 8) =
    let a = c.args in
    rw c.from-byte.ensures
    (last a.bytes.now a.bits (λ n. (c.type_inv.bytes n).fits) c.power.result c.power.ensures.0) in
    let a = c.args in
    record {
      digits = λ d l e.
          one_more (digit_at a.bytes.now a.bits) d (2 * (a.bits / 8)) c.digit.result a.hex.now (omega arith) e
          (c.digit.ensures ∙ upper a.bytes.now a.bits (a.bits / 8) _ (padded))
          ∙ ap (λ (n : ℕ). list_of n (digit_at a.bytes.now a.bits) ++ drop n d) (omega arith);
    }

pub returns : goal.returns
returns c =
    -- the byte with zeros past the bit length
    let padded : c.from-byte.result - c.from-byte.result % c.power.result
    ≡ printed c.args.bytes.now c.args.bits
    (c.args.bits / 8) =
    let a = c.args in
    rw c.from-byte.ensures
    (last a.bytes.now a.bits (λ n. (c.type_inv.bytes n).fits) c.power.result c.power.ensures.0) in
    let a = c.args in
    record {
      digits = λ d l e.
          two-more (digit_at a.bytes.now a.bits) d (a.bits / 8) c.digit.result c.digit-2.result a.hex.now (omega arith) e
          (c.digit.ensures ∙ upper a.bytes.now a.bits (a.bits / 8) _ (padded))
          (c.digit-2.ensures ∙ lower a.bytes.now a.bits (a.bits / 8) _ (padded))
          ∙ ap (λ (n : ℕ). list_of n (digit_at a.bytes.now a.bits) ++ drop n d) (omega arith);
    }
