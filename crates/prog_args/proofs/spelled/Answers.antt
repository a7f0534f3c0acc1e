-- A turn of the loop ends the text, refuses a character, or reads a digit on.
use Rattle.std.proofs.Common.{◌∙◌, ◌+◌, ◌*◌, ℕ, sym, ap, arith, drop}
use Rattle.std.proofs.lemmas.Bool.{eqb-false}
use Rattle.prog_args.specs.Number.{base_of, number_from}
use Rattle.prog_args.specs.Theorems.Number.{past-stays-past}
use Rattle.prog_args.proofs.Laws.{some-text, no_digit, digit-on, digits-end}
use Rattle.prog_args.proofs.spelled.Goals as goal

pub loop-c-init : goal.loop-c-init
loop-c-init c =
    (some-text (base_of c.args.hex) c.args.text.now 0 (omega (arith, eqb-false _ _ (sym c.is_empty.ensures ∙ c.if-is_empty.false))), omega arith)

pub returns-then-base-digit : goal.returns-then-base-digit
returns-then-base-digit c =
    let l = c.loop-c in
    sym (l.invariant.0 ∙ no_digit (base_of c.args.hex) c.args.text.now l.c-index l.value (omega (arith, c.loop-c-test.true))
    (omega (arith, c.if-base-digit.true, c.base_of-base.ensures, c.digit_value-digit.ensures.value)))

pub returns-then-value-gt4294967295 : goal.returns-then-value-gt4294967295
returns-then-value-gt4294967295 c =
    let a = c.args in
    let l = c.loop-c in
    let d = c.digit_value-digit.ensures.value in
    let e = c.longer-value.ensures ∙ ap (λ (k : ℕ). base_of a.hex * l.value + k) d in
    sym (l.invariant.0 ∙ digit-on (base_of a.hex) a.text.now l.c-index l.value (omega (arith, c.loop-c-test.true))
    (omega (arith, c.if-base-digit.false, c.base_of-base.ensures, d))
    ∙ ap (λ (k : ℕ). number_from (base_of a.hex) k (drop (l.c-index + 1) a.text.now)) (sym e)
    ∙ past-stays-past a.hex c.longer-value.result (drop (l.c-index + 1) a.text.now) (omega (arith, c.if-value-gt4294967295.true)))

pub loop-c-preserved : goal.loop-c-preserved
loop-c-preserved c =
    let a = c.args in
    let l = c.loop-c in
    let d = c.digit_value-digit.ensures.value in
    let e = c.longer-value.ensures ∙ ap (λ (k : ℕ). base_of a.hex * l.value + k) d in (
      l.invariant.0 ∙ digit-on (base_of a.hex) a.text.now l.c-index l.value (omega (arith, c.loop-c-test.true))
          (omega (arith, c.if-base-digit.false, c.base_of-base.ensures, d))
          ∙ ap (λ (k : ℕ). number_from (base_of a.hex) k (drop (l.c-index + 1) a.text.now)) (sym e),
      omega (arith, c.if-value-gt4294967295.false),
    )

pub returns : goal.returns
returns c =
    let l = c.loop-c in
    sym (l.invariant.0 ∙ digits-end (base_of c.args.hex) c.args.text.now l.c-index l.value (omega (arith, c.loop-c-test.false)) l.invariant.1)
