-- Passes past the last row repeat themselves: "Pass n reads row n, or the last row if there are fewer", so each of them and the pass before it
-- read the last row, and none of them is pass 1.
use Rattle.std.specs.Prelude.{ℕ, ◌+◌, ◌-◌, ◌<◌, ◌≤◌, min, ◌≡◌, Bool}
use Rattle.std.proofs.Common.{arith, ne_eqb}
use Rattle.bankdef.specs.declared.Bankdefs.{Bankdefs}
use Rattle.nodes.specs.Lists.{Lists}
use Rattle.resolver.specs.Passes.{pass_at}

pub repeats : (banks : Bankdefs) (l : Lists) (n : ℕ) (is_last : Bool) → 1 ≤ l.rows → l.rows < n → pass_at banks l n is_last ≡ pass_at banks l (l.rows + 1) is_last
repeats banks l n is_last some h =
    let e : l.rows + 1 - 1 ≡ l.rows = omega arith in
    let a : min n l.rows ≡ l.rows = omega arith in
    let b : min (n - 1) l.rows ≡ l.rows = omega arith in
    let d : min (l.rows + 1) l.rows ≡ l.rows = omega arith in
    let f : min l.rows l.rows ≡ l.rows = omega arith in
    rw (e, a, b, d, f, ne_eqb n 1 (λ q. omega arith), ne_eqb (l.rows + 1) 1 (λ q. omega arith))
