use Rattle.std.specs.Prelude.{Result}
use Rattle.prelude.specs.declared.Refusal.{Refusal}
use mathlib.Core.Bool.{Bool, false}
use Prim.Native.Nat.{ℕ}
use native.Mathlib.Omega.{arith}
use mathlib.Core.Path.{◌≡◌, ap}
use Rattle.resolver.specs.Laid.{Laid}
use Rattle.resolver.specs.Passes.{pass_at}
use Rattle.resolver.specs.Laws.Repeats.{repeats}
use Rattle.resolver.proofs.Settling.{nor-this, no-limit, refused-pass, settled-pass, limit-pass}
use Rattle.resolver.proofs.passes.Layout.resolve_iteratively.Goals as goal

pub returns-then-m-eq0 : goal.returns-then-m-eq0
returns-then-m-eq0 c =
    let given = c.args.self.now in
    let passes : ℕ → Bool → (Result ℕ Refusal) =
    pass_at given.banks given.lists in
    rw c.from-m.ensures at (
    no-limit (passes) c.from-m.result c.if-m-eq0.true c.last_pass.ensures)

pub returns-then-n-enough : goal.returns-then-n-enough
returns-then-n-enough c =
    let given = c.args.self.now in
    let passes : ℕ → Bool → (Result ℕ Refusal) =
    pass_at given.banks given.lists in
    let l = c.loop-n in
    let rows : c.self.inside.rows ≡ given.lists.rows = ap (λ (x : Laid). x.lists.rows) c.self.view_is in
    rw c.from-m.ensures at (
    limit-pass (passes) c.from-m.result given.lists.rows l.n c.if-m-eq0.false
    (λ p. λ h. repeats given.banks given.lists p false (omega (arith, c.self.invariant.rowed.some, rows)) h)
    (omega (arith, c.loop-n-test.true, c.if-n-enough.true, rows)) l.invariant.3 c.last_pass-then-n-enough.ensures)

pub returns-in-Err : goal.returns-in-Err
returns-in-Err c =
    let given = c.args.self.now in
    let passes : ℕ → Bool → (Result ℕ Refusal) =
    pass_at given.banks given.lists in
    let l = c.loop-n in
    rw c.from-m.ensures at (
    refused-pass (passes) c.from-m.result l.n l.invariant.0 c.loop-n-test.true l.invariant.3
    c.pass_at.ensures c.in-Err.is)

pub returns-then-state-ne-UNRESOLVED : goal.returns-then-state-ne-UNRESOLVED
returns-then-state-ne-UNRESOLVED c =
    let given = c.args.self.now in
    let passes : ℕ → Bool → (Result ℕ Refusal) =
    pass_at given.banks given.lists in
    let l = c.loop-n in
    rw c.from-m.ensures at (
    settled-pass (passes) c.from-m.result l.n l.invariant.0 c.loop-n-test.true l.invariant.3
    c.pass_at.ensures c.in-Ok.is
    c.if-state-ne-UNRESOLVED.true c.pass_after.ensures)

-- this pass is unresolved too
pub loop-n-preserved : goal.loop-n-preserved
loop-n-preserved c =
    let given = c.args.self.now in
    let passes : ℕ → Bool → (Result ℕ Refusal) =
    pass_at given.banks given.lists in
    let l = c.loop-n in
    let rows : c.self.inside.rows ≡ given.lists.rows = ap (λ (x : Laid). x.lists.rows) c.self.view_is in
    let not_yet = c.if-n-enough.false in (
      omega arith,
      omega (arith, c.loop-n-test.true),
      omega (arith, l.invariant.2, not_yet, rows),
      nor-this (passes) l.n l.invariant.3 c.pass_at.ensures c.in-Ok.is c.if-state-ne-UNRESOLVED.false,
    )

pub returns : goal.returns
returns c =
    let given = c.args.self.now in
    let passes : ℕ → Bool → (Result ℕ Refusal) =
    pass_at given.banks given.lists in
    let l = c.loop-n in
    let rows : c.self.inside.rows ≡ given.lists.rows = ap (λ (x : Laid). x.lists.rows) c.self.view_is in
    rw c.from-m.ensures at (
    limit-pass (passes) c.from-m.result given.lists.rows l.n c.if-m-eq0.false
    (λ p. λ h. repeats given.banks given.lists p false (omega (arith, c.self.invariant.rowed.some, rows)) h)
    (omega (arith, c.loop-n-test.false, l.invariant.1, l.invariant.2, rows)) l.invariant.3 c.last_pass-2.ensures)
