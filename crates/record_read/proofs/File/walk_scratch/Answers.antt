use native.Mathlib.Omega.{arith}
use mathlib.Core.Path.{refl, ap}
use mathlib.Core.Bool.{Bool}
use Prim.Native.Nat.{ℕ, ◌+◌, ◌<◌}
use lib.ListN.{length}
use Rattle.record_scan.specs.Trail.{trail}
use Rattle.record_read.specs.Runs.{is_given}
use Rattle.record_read.proofs.Loops.{finding-ends}
use Rattle.record_read.proofs.Scratch.{low-inside, window-marked, window-past, window-cleared}
use Rattle.record_read.proofs.File.walk_scratch.Goals as goal

pub walk_window-walk-requires-clause-underway : goal.walk_window-walk-requires-clause-underway
walk_window-walk-requires-clause-underway c =
    let test : ℕ → Bool =
    is_given c.args.self.now.load (trail c.args.self.now.format c.args.self.now.text.now c.args.self.now.n).given in
    let inside : c.args.self.now.load + c.loop-from.from < 4294967296 =
    low-inside c.args.self.now.ready c.loop-from-test.true in
    let a = c.args in
    let f = a.self.now in
    let low = inside in record {
      test = test;
      first = a.offsets.now;
      second = a.sizes.now;
      listed = c.loop-from.invariant.0;
      marked = window-marked f.format f.text.now f.n f.load c.args.self.now.ready.once c.mark_window-window.ensures c.loop-from.from refl;
    }

pub loop-from-preserved : goal.loop-from-preserved
loop-from-preserved c =
    let test : ℕ → Bool =
    is_given c.args.self.now.load (trail c.args.self.now.format c.args.self.now.text.now c.args.self.now.n).given in
    let inside : c.args.self.now.load + c.loop-from.from < 4294967296 =
    low-inside c.args.self.now.ready c.loop-from-test.true in
    let a = c.args in
    let f = a.self.now in
    let long = ap length c.loop-from.invariant.1 in
    let marked = window-marked f.format f.text.now f.n f.load c.args.self.now.ready.once c.mark_window-window.ensures c.loop-from.from refl in (
      window-past f.format f.text.now f.n f.load c.args.self.now.ready.once c.mark_window-window.ensures c.loop-from.from refl
          (omega (arith, c.requires.few, long)) (inside) a.offsets.now a.sizes.now c.saturating_sub-from.ensures
          (c.walk_window-walk.ensures (test) a.offsets.now a.sizes.now marked c.loop-from.invariant.0),
      window-cleared f.format f.text.now f.n f.load c.args.self.now.ready.once c.mark_window-window.ensures c.loop-from.invariant.1 c.requires.zeros
          c.clear.ensures.zeros,
    )

pub returns : goal.returns
returns c =
    let a = c.args in
    let f = a.self.now in (
      finding-ends f.load (trail f.format f.text.now f.n).given f.end a.offsets.now a.sizes.now c.loop-from.invariant.0
          c.args.self.now.ready.ends c.loop-from-test.false c.finish.ensures,
      c.loop-from.invariant.1,
    )
