use Rattle.std.proofs.Common.{◌+◌, ◌*◌, ◌∙◌, arith, rules}
use Rattle.std.proofs.lemmas.List.{places}
use Rattle.bitvec.specs.Laws.Numeral.{numeral-lt}
use Rattle.bitvec.specs.Laws.Bits.{bit_at_lt}
use Rattle.bitvec.proofs.Pieces.{item_more, whole-bytes, pair-shifted}
use Rattle.bitvec.proofs.shift_bytes.Goals as goal

pub overflow_add-byte-in-loop-i-3 : goal.overflow_add-byte-in-loop-i-3
overflow_add-byte-in-loop-i-3 c =
    let a = c.args in
    let i = c.loop-i.i in
    record {
      fits =
          rw (pair-shifted a.values.now (λ n. (c.type_inv.values n).fits) a.from.byte a.from.bit i (omega arith))
          (numeral-lt 8 _ (λ b. bit_at_lt a.values.now (8 * a.from.byte + a.from.bit + 8 * i + b)));
    }

pub loop-i-preserved : goal.loop-i-preserved
loop-i-preserved c =
    let a = c.args in
    let i = c.loop-i.i in
    item_more a.values.now (8 * a.from.byte + a.from.bit) c.loop-i.bytes i _ (omega arith) c.loop-i.invariant
    (pair-shifted a.values.now (λ n. (c.type_inv.values n).fits) a.from.byte a.from.bit i (omega arith))

pub returns : goal.returns
returns c =
    let a = c.args in
    whole-bytes a.image.now a.j _ a.count c.loop-i.bytes a.values.now (8 * a.from.byte + a.from.bit) c.requires.bytes (omega arith)
    (c.loop-i.auto.bytes ∙ search (rules, places)) (omega arith) (λ i h. c.loop-i.invariant i (omega arith))
