use Rattle.std.specs.Prelude.{Option, ℕ}
use mathlib.Core.Path.{subst, refl}
use native.Mathlib.Omega.{arith}
use Rattle.record_scan.specs.Steps.{AdmitIs, WalkIs}
use Rattle.record_scan.specs.Trail.{trail}
use Rattle.record_scan.proofs.Loops.{walking-starts, walking_on, walking-off, walking-closes, walking-ends, not_whole}
use Rattle.record_scan.proofs.File.walk.Goals as goal

pub loop-at-init : goal.loop-at-init
loop-at-init c =
    let a = c.args in record {
      told = walking-starts a.self.now.format a.load a.self.now.text.now a.strict;
      open_end = refl;
      same = refl;
    }

pub returns-then-line-eq-END : goal.returns-then-line-eq-END
returns-then-line-eq-END c =
    let a = c.args in
    walking-closes a.self.now.format a.load a.self.now.text.now a.strict c.loop-at.invariant.told c.loop-at-test.true c.take_line-s.ensures
    c.if-line-eq-END.true

pub returns-in_default : goal.returns-in_default
returns-in_default c =
    -- what the test answered, of an answer that is known
    let AnswerIs : Option (ℕ × ℕ) → Type 0 =
    λ r. let a = c.args in
    let line = c.take_line-s.result.line in
    AdmitIs c.looks-look.result a.load (trail a.self.now.format a.self.now.text.now c.loop-at.walk.lines).given line.kind line.address line.count
    c.loop-at.walk.high c.loop-at.free.edge r in
    let a = c.args in
    subst (WalkIs a.self.now.format a.load a.self.now.text.now a.strict)
    (not_whole c.loop-at.walk c.loop-at.invariant.open_end c.loop-at.invariant.same)
    (walking-off a.self.now.format a.load a.self.now.text.now a.strict c.loop-at.invariant.told c.loop-at-test.true c.take_line-s.ensures
    (subst (AnswerIs) c.in_default.is c.may_stand.ensures) c.if-line-eq-END.false)

pub loop-at-preserved : goal.loop-at-preserved
loop-at-preserved c =
    -- what the test answered, of an answer that is known
    let AnswerIs : Option (ℕ × ℕ) → Type 0 =
    λ r. let a = c.args in
    let line = c.take_line-s.result.line in
    AdmitIs c.looks-look.result a.load (trail a.self.now.format a.self.now.text.now c.loop-at.walk.lines).given line.kind line.address line.count
    c.loop-at.walk.high c.loop-at.free.edge r in
    let a = c.args in record {
      told =
          walking_on a.self.now.format a.load a.self.now.text.now a.strict c.loop-at.invariant.told c.loop-at-test.true c.take_line-s.ensures _ _
          c.looks-look.ensures (subst (AnswerIs) c.in-Some.is c.may_stand.ensures) c.leaves.ensures refl refl c.begins.ensures
          c.after-free.ensures;
      open_end = c.loop-at.invariant.open_end;
      same = omega (arith, c.loop-at.invariant.same);
    }

pub returns : goal.returns
returns c =
    let a = c.args in
    subst (WalkIs a.self.now.format a.load a.self.now.text.now a.strict)
    (not_whole c.loop-at.walk c.loop-at.invariant.open_end c.loop-at.invariant.same)
    (walking-ends a.self.now.format a.load a.self.now.text.now a.strict c.loop-at.invariant.told c.loop-at-test.false)
