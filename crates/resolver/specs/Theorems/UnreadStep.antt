-- Theorems about what UnreadStep defines.
use Rattle.std.specs.Prelude.{ℕ, ◌≤◌, ◌<◌, ◌≡◌, refl, eqb, leb, get_or, Err, Result, Ok}
use Rattle.std.proofs.Common.{sym, ◌∙◌, ap, ⊎_elim, eq-or-lt_of_le}
use native.Mathlib.Omega.{arith}
use borrow.Author.Tests.{eqb-true, leb-true}
use Rattle.prelude.specs.declared.Refusal.TheVariants.{Malformed}
use Rattle.prelude.specs.Laws.Bools.{either}
use Rattle.prelude.specs.declared.Refusal.{Refusal}
use Rattle.bankdef.specs.declared.Bankdef.{Bankdef}
use Rattle.iter.specs.Theorems.Advance.{early, asserting, other}
use Rattle.iter.specs.Step.{origin, outermost_symbol, seen_of, bad_state, moved_on, advanced_of, seen_skips, advance_skips}
use Rattle.iter.specs.Step.{bank_after, step_skips, stepped_from, step_of}
use Rattle.nodes.specs.declared.Node.{Node}
use Rattle.iter.specs.declared.Pos.{Pos}
use Rattle.iter.specs.declared.Walk.{Walk}
use Rattle.resolver.specs.Laws.Least.{or-past}
use Rattle.resolver.specs.UnreadStep.{SameRead}

module _ (n m : Node) (same : SameRead n m) where
  pub bank-same : (bank : ℕ) → bank_after bank n ≡ bank_after bank m
  bank-same bank =
      rw same.kind
      (either (eqb m.kind 1)
      (λ e. let k = eqb-true m.kind 1 e in rw (e, same.operand (omega arith) (omega arith)))
      (λ e. rw e))

  bad-same : bad_state n ≡ bad_state m
  bad-same =
      rw same.kind
      (either (leb 3 m.kind) (λ e. rw (e, same.state (leb-true 3 m.kind e))) (λ e. rw e))

  symbol-same : outermost_symbol n ≡ outermost_symbol m
  symbol-same =
      rw same.kind
      (either (eqb m.kind 2)
      (λ e. let k = eqb-true m.kind 2 e in rw (e, same.operand (omega arith) (omega arith)))
      (λ e.
      either (eqb m.kind 3)
      (λ f. let k = eqb-true m.kind 3 f in rw (e, f, same.operand (omega arith) (omega arith)))
      (λ f. rw (e, f))))

  seen_same : (def : Bankdef) (at : Pos) → seen_of def at n ≡ seen_of def at m
  unfolding seen_of
  seen_same def at = rw (symbol-same, same.index)

  moved-read : (def : Bankdef) (at : Pos) → 4 ≤ m.kind → m.kind ≤ 9 → moved_on def at n ≡ moved_on def at m
  unfolding moved_on
  moved-read def at low high = rw (same.kind, same.index, same.number (low, high), same.state (omega arith))

  moved_same : (def : Bankdef) (at : Pos) → moved_on def at n ≡ moved_on def at m
  moved_same def at =
      let k = same.kind in
      ⊎_elim
      (λ (low : 4 ≤ m.kind).
      ⊎_elim (λ (high : m.kind ≤ 9). moved-read def at low high)
      (λ (past : 9 < m.kind).
      ⊎_elim (λ (e : 10 ≡ m.kind). asserting def at n (omega arith) ∙ sym (asserting def at m (omega arith)))
      (λ (l : 10 < m.kind). other def at n (omega arith) ∙ (ap (λ (i : ℕ). Err (Malformed i)) same.index ∙ sym (other def at m l)))
      (eq-or-lt_of_le past))
      (or-past m.kind 9))
      (λ (low : m.kind < 4). early def at n (omega arith) ∙ sym (early def at m low))
      (or-past 4 m.kind)

  advanced-same : (def : Bankdef) (at : Pos) → advanced_of def at n ≡ advanced_of def at m
  unfolding advanced_of
  advanced-same def at = rw (bad-same, moved_same def at, same.index)

  seen-skips-same : (def : Bankdef) (at : Pos) → seen_skips def at n ≡ seen_skips def at m
  unfolding seen_skips
  seen-skips-same def at = rw (seen_same def at, symbol-same, same.index)

  advance-skips-same : (def : Bankdef) (at : Pos) → advance_skips def at n ≡ advance_skips def at m
  unfolding advance_skips
  advance-skips-same def at =
      rw (advanced-same def at, same.kind, same.index)
      (either (eqb m.kind 8)
      (λ e. let k = eqb-true m.kind 8 e in rw (e, same.number (omega arith, omega arith)))
      (λ e. rw e))

  skips-same : (def : Bankdef) (at p : Pos) → step_skips def at p n ≡ step_skips def at p m
  skips-same def at p = rw (seen-skips-same def at, advance-skips-same def p, same.kind)

  from-same : (def : Bankdef) (walk : Walk) (bank : ℕ) (seen : Result Pos Refusal) → stepped_from def walk bank n seen ≡ stepped_from def walk bank m seen
  from-same def walk bank (Ok p) = rw (skips-same def (get_or walk.at bank origin) p, advanced-same def p)
  from-same def walk bank (Err why) = refl

  -- They make one step.
  pub step_same : (def : Bankdef) (walk : Walk) → step_of def walk n ≡ step_of def walk m
  unfolding step_of
  step_same def walk =
      let bank = bank_after walk.bank m in
      let seen = seen_of def (get_or walk.at (bank_after walk.bank m) origin) m in
      rw (
        bank-same walk.bank,
        bad-same,
        seen_same def (get_or walk.at (bank_after walk.bank m) origin),
        from-same def walk bank seen,
        same.index,
      )
