-- Laws that Theorems/RaisedLimit rests on.
use Rattle.std.specs.Prelude.{ℕ, ◌<◌, ◌≡◌, refl, Result, Ok, Err}
use Rattle.std.proofs.Common.{sym, ◌∙◌}
use Rattle.std.proofs.Math.Path.{ap}
use Rattle.prelude.specs.declared.Refusal.{Refusal}
use Rattle.resolver.specs.Layout.{layout_of}
use Rattle.resolver.specs.Passes.{program, row_of_pass}
use Rattle.resolver.proofs.RaisedLimit.{same-for-limits-above}
use Rattle.resolver.specs.declared.Resolution.{Resolution}
use Rattle.output.specs.Output.{Input, Lent, Room, room_of, output_of, visits_of, settled_build, settled_of, build_of, left_by, Builds}
use Rattle.output.specs.declared.Output.{Output}
use Rattle.output.specs.RaisedLimit.{with_limit}

-- what a build makes of the passes does not read the limit
same-of-passes : (b : Input) (n : ℕ) (room : Room) (passes : ℕ) (s : Result ℕ Refusal) → settled_build (with_limit b n) room passes s ≡ settled_build b room passes s
same-of-passes b n room passes (Ok k) = refl
same-of-passes b n room passes (Err why) = refl

module _ (b : Input) (k : ℕ) (accepted : settled_of b ≡ Ok k) (below : k < b.choices.limit) (n : ℕ) (more : k < n) where
  -- one answer: the build or its refusal, K, the passes run and each bank's padding
  pub same-build-above : (room : Room) → build_of (with_limit b n) room ≡ build_of b room
  unfolding build_of
  same-build-above room =
      ap
      (λ (r : Resolution). output_of (program b.banks b.lists) (row_of_pass b.lists r.passes) r.passes
      (settled_build (with_limit b n) room r.passes r.settled))
      (same-for-limits-above b.banks b.lists b.choices k accepted below n more)
      ∙ rw (same-of-passes b n room (layout_of b.banks b.lists b.choices).passes (settled_of b))

  -- Two calls over the same banks, lists and lent contents, one with the limit and one with any above K, have one outcome.
  pub same-outcome-above : (old : Lent) {r s : Output} {new other : Lent}
      → Builds b old r new → Builds (with_limit b n) old s other → (s ≡ r) × (other ≡ new)
  same-outcome-above old {r} {s} p q =
      let e : s ≡ r = q.answer ∙ same-build-above (room_of old) ∙ sym p.answer in
      (e, q.left ∙ ap (λ (x : Output). left_by b.banks (visits_of b x.passes) b.lists.values old x.build) e ∙ sym p.left)
