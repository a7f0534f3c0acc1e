-- `record_read::File::walk_any`: each turn writes what the lowest stretch behind those found closes.
use Prim.Native.Nat.{◌-◌}
use Rattle.record_read.specs.Runs.{is_given}
use Rattle.record_read.specs.Steps.{Listed}
use Rattle.record_scan.specs.Trail.{trail}
use Rattle.record_read.proofs.File.walk_any.Given as goal

abbrev pub invariant-loop-from : goal.invariant-loop-from
invariant-loop-from l =
    Listed (is_given l.self.load (trail l.self.format l.self.text.now l.self.n).given)
    l.initial.offsets l.initial.sizes l.walk.run l.from l.walk.count l.offsets l.sizes

abbrev pub decreases-loop-from : goal.decreases-loop-from
decreases-loop-from l = l.self.end - l.from
