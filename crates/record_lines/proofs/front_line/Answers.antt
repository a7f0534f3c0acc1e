use Rattle.std.proofs.Common.{◌≡◌, true, false, arith, rules, tests}
use Rattle.std.proofs.lemmas.Iterator.{YieldsList-from_slice, IsFirst-from_position}
use Rattle.record_lines.specs.Lines.{is_lf}
use Rattle.record_lines.proofs.Steps.{cut-none, cut-at, cr-there, cr-other, cr-none}
use Rattle.record_lines.proofs.front_line.Goals as goal
use Rattle.record_lines.proofs.front_line.Goals.{else-lf-gt0-via-then-lf-gt0+else-text-lf-eq13, else-lf-gt0-via-else-lf-gt0}

pub returns-in_default-clause-cut : goal.returns-in_default-clause-cut
returns-in_default-clause-cut c =
    let m = IsFirst-from_position _ _ c.position.result (λ x. is_lf x ≡ true) (λ x. is_lf x ≡ false) c.position.ensures.ran
    (YieldsList-from_slice c.args.text.now cc) (λ x q k. search (rules, tests)) (λ x q k. search (rules, tests)) in
    let f = rw c.in_default.is at m in
    let w = cut-none c.args.text.now (λ k h. f k 0 (omega arith) h) in
    record { stop = omega arith; next = omega arith }

pub returns-then-text-lf-eq13 : goal.returns-then-text-lf-eq13
returns-then-text-lf-eq13 c =
    let m = IsFirst-from_position _ _ c.position.result (λ x. is_lf x ≡ true) (λ x. is_lf x ≡ false) c.position.ensures.ran
    (YieldsList-from_slice c.args.text.now cc) (λ x q k. search (rules, tests)) (λ x q k. search (rules, tests)) in
    let f = rw c.in-Some.is at m in
    let w = cut-at c.args.text.now c.in-Some.lf f.0 (f.1 0) (λ k h. f.2 k 0 (omega arith) h) in
    let e = rw (cr-there c.args.text.now c.in-Some.lf c.if-lf-gt0.true c.if-text-lf-eq13.true) at w.0 in
    record { cut = record { stop = omega arith; next = omega (arith, w.1) }; upper_bound = (omega arith, omega arith) }

pub returns : goal.returns
returns c =
    let m = IsFirst-from_position _ _ c.position.result (λ x. is_lf x ≡ true) (λ x. is_lf x ≡ false) c.position.ensures.ran
    (YieldsList-from_slice c.args.text.now cc) (λ x q k. search (rules, tests)) (λ x q k. search (rules, tests)) in
    let f = rw c.in-Some.is at m in
    let w = cut-at c.args.text.now c.in-Some.lf f.0 (f.1 0) (λ k h. f.2 k 0 (omega arith) h) in
    elim c.else-lf-gt0.branch [
      | else-lf-gt0-via-then-lf-gt0+else-text-lf-eq13 x ↦
          let e = rw (cr-other c.args.text.now c.in-Some.lf x.if-lf-gt0.true x.if-text-lf-eq13.false) at w.0 in
          record { cut = record { stop = omega arith; next = omega (arith, w.1) }; upper_bound = (omega arith, omega arith) }
      | else-lf-gt0-via-else-lf-gt0 x ↦
          let e = rw (cr-none c.args.text.now c.in-Some.lf x.if-lf-gt0.false) at w.0 in
          record { cut = record { stop = omega arith; next = omega (arith, w.1) }; upper_bound = (omega arith, omega arith) }
    ]
