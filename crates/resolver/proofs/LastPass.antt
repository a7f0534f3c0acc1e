-- Theorems about what LastPass defines.
use Rattle.std.specs.Prelude.{ℕ, ◌-◌, ◌<◌, ◌≡◌, true, eqb, length, Ok}
use Rattle.bankdef.specs.declared.Bankdefs.{Bankdefs}
use Rattle.iter.specs.declared.Pos.{Pos}
use Rattle.resolver.proofs.Answer.{accepted-layout}
use Rattle.resolver.specs.Layout.{layout_of, Checked}
use Rattle.nodes.specs.Lists.{Lists}
use Rattle.resolver.specs.NodeOrder.{seen_at, GoesPast}
use Rattle.resolver.specs.Theorems.NodeOrder.{ran-to-end}
use Rattle.resolver.specs.Passes.{program, row_of_pass}
use Rattle.resolver.proofs.RefusedExactly.{checked-of}
use Rattle.resolver.specs.declared.Choices.{Choices}
use Rattle.resolver.specs.LastPass.{last_row}

module _ (banks : Bankdefs) (l : Lists) (choices : Choices) (k : ℕ) (accepted : (layout_of banks l choices).settled ≡ Ok k) where
  pub accepted-checked : Checked banks l choices.fill
  accepted-checked = checked-of banks l choices k accepted

  pub last-goes-past : (i : ℕ) → i < length l.kinds → GoesPast (program banks l) (last_row banks l choices) true i
  last-goes-past =
      let n = (layout_of banks l choices).passes in
      let settles = (accepted-layout banks l choices k accepted).2 in
      ran-to-end (program banks l) (row_of_pass l n) (row_of_pass l (n - 1)) (eqb n 1) true settles.0 settles.1

  -- Each node of an accepted layout sees a position in the last pass.
  pub sees-in-last : (i : ℕ) → i < length l.kinds → (at : Pos) × (seen_at (program banks l) (last_row banks l choices) i ≡ Ok at)
  sees-in-last i h = let g = last-goes-past i h in (g.now, g.seen)
