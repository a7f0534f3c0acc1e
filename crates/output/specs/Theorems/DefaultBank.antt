-- Theorems about what DefaultBank defines.
use Rattle.std.specs.Prelude.{◌≡◌, Bool, true, false, ℕ, ◌<◌, Result, Err, Ok}
use Rattle.std.proofs.Math.Path.{refl, ap}
use Rattle.std.proofs.Common.{sym, ◌∙◌, lt-ltb}
use Rattle.prelude.specs.declared.Refusal.{Refusal}
use Rattle.resolver.specs.Theorems.Chosen.{default-bank-unread}
use Rattle.resolver.specs.Passes.{program, row_of_pass}
use Rattle.resolver.specs.declared.Resolution.{Resolution}
use Rattle.build_plan.specs.Placing.{closes_default}
use Rattle.output.specs.Output.{Input, Room, output_of, passes_of, settled_of, visits_of, fill_of, build_row, settled_build, build_of}
use Rattle.output.specs.DefaultBank.{with_closed}

-- Where other banks exist the choice changes no answer.
module _ (b : Input) (closed : Bool) (others : 1 < b.banks.len) where
  shut : (t : Bool) → closes_default b.banks.len t ≡ true
  shut false = lt-ltb 1 b.banks.len others
  shut true = refl

  same_row : (room : Room) (passes : ℕ) (s : Result ℕ Refusal) → settled_build (with_closed b closed) room passes s ≡ settled_build b room passes s
  same_row room passes (Err why) = refl
  same_row room passes (Ok k) =
      ap (λ (t : Bool). build_row t (visits_of b passes) (fill_of b) room k) (shut closed ∙ sym (shut b.choices.closed))

  pub same-with-other-banks : (room : Room) → build_of (with_closed b closed) room ≡ build_of b room
  unfolding build_of
  same-with-other-banks room =
      let layouts = default-bank-unread b.banks b.lists (with_closed b closed).choices b.choices refl refl in
      ap
      (λ (r : Resolution). output_of (program b.banks b.lists) (row_of_pass b.lists r.passes) r.passes
      (settled_build (with_closed b closed) room r.passes r.settled)) layouts
      ∙ rw (same_row room (passes_of b) (settled_of b))
