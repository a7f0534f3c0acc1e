-- Where pass k read the last row and is resolved, so is the pass behind it; else that one is walked.
use Rattle.std.specs.Prelude.{Ok}
use Prim.Native.Nat.{◌≤◌}
use mathlib.Core.Path.{◌≡◌, ◌∙◌, ap}
use native.Mathlib.Omega.{arith}
use Rattle.resolver.specs.Laid.{Laid}
use Rattle.resolver.specs.Theorems.OneWalk.{resolved-again}
use Rattle.resolver.proofs.passes.Layout.pass_after.Goals as goal

pub returns-then-self-k : goal.returns-then-self-k
returns-then-self-k c =
    let a = c.args in
    let given = a.self.now in
    let rows : c.self.inside.rows ≡ given.lists.rows = ap (λ (x : Laid). x.lists.rows) c.self.view_is in
    let past : given.lists.rows ≤ a.k = omega arith in
    let resolved = c.requires.false_value ∙ ap Ok c.if-state-eq-RESOLVED.true in
    rw (resolved-again given.banks given.lists a.k past resolved)
