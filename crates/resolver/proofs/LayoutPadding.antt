-- Theorems about what LayoutPadding defines.
use Rattle.std.specs.Prelude.{ℕ, ◌+◌, ◌*◌, ◌<◌, ◌≤◌, ◌≡◌, refl, get_or, length, Ok}
use Rattle.std.proofs.Common.{ap, arith}
use Rattle.prelude.specs.Limits.{max_nodes, max_position}
use Rattle.bankdef.specs.declared.Bankdefs.{Bankdefs}
use Rattle.iter.specs.Distance.{distance_of}
use Rattle.iter.specs.Padding.{Part, lost_part}
use Rattle.iter.specs.Step.{origin, no_lost, start_of, seen_of, moved_on, advanced_of, seen_skips, advance_skips, step_of}
use Rattle.resolver.specs.Cases.{one_bank}
use Rattle.resolver.specs.KnownInPass.{bank_at}
use Rattle.resolver.specs.LastPass.{last_row}
use Rattle.resolver.proofs.LastPass.{accepted-checked, sees-in-last}
use Rattle.resolver.specs.Layout.{with_limit, layout_of}
use Rattle.nodes.specs.Lists.{Lists, Row}
use Rattle.resolver.specs.Once.{walk_to}
use Rattle.resolver.specs.Padding.{sum_in, padding_of}
use Rattle.resolver.specs.Laws.Padding.{sizes_to}
use Rattle.resolver.specs.Theorems.Padding.{padding-bounded, walk-carries-padding, ends-at-sizes-and-padding}
use Rattle.resolver.specs.Passes.{program, row_of_pass}
use Rattle.resolver.proofs.RaisedLimit.{same-row-above}
use Rattle.nodes.specs.Theorems.Sound.{accepted-lists}
use Rattle.resolver.specs.declared.Choices.{Choices}
use Rattle.resolver.specs.LayoutPadding.{back_again}

module _ (banks : Bankdefs) (l : Lists) (choices : Choices) (k : ℕ) (accepted : (layout_of banks l choices).settled ≡ Ok k) where
  -- no more nodes than the limit
  pub accepted-few : length l.kinds ≤ max_nodes
  accepted-few = (accepted-lists banks.len l choices.fill (accepted-checked banks l choices k accepted).lists).few

  -- "each bank should carry the sum of bits lost to `align` and to label alignment in the last pass", and of whole units
  pub last-pass-carries-padding : (bank : ℕ) →
      get_or (walk_to (program banks l) (last_row banks l choices) (length l.kinds)).lost bank no_lost ≡
      padding_of (program banks l) (last_row banks l choices) bank
  last-pass-carries-padding bank =
      walk-carries-padding (program banks l) (last_row banks l choices) (length l.kinds) bank accepted-few (sees-in-last banks l choices k accepted)

  -- The sums stay far within 64 bits.
  pub layout-padding-bounded : (part : Part) (bank : ℕ) → lost_part part (padding_of (program banks l) (last_row banks l choices) bank) ≤ max_nodes * max_position
  layout-padding-bounded part bank =
      within accepted-few
      (padding-bounded (program banks l) (last_row banks l choices) part (length l.kinds) bank (sees-in-last banks l choices k accepted))
    where
      within : {x n : ℕ} → n ≤ max_nodes → x ≤ n * max_position → x ≤ max_nodes * max_position
      within h g = omega arith

  -- A bank that no `addr` touches ends at the bits of its items and reserves and its padding.
  pub layout-ends-at-sizes-and-padding : (bank : ℕ) →
      ((j : ℕ) → j < length l.kinds → bank_at (program banks l) (last_row banks l choices) j ≡ bank → get_or l.kinds j 0 ≡ 9 → ⊥) →
      (get_or (walk_to (program banks l) (last_row banks l choices) (length l.kinds)).at bank origin).position ≡
      sizes_to (program banks l) (last_row banks l choices) bank (length l.kinds) + (padding_of (program banks l) (last_row banks l choices) bank).bits
  layout-ends-at-sizes-and-padding bank none =
      ends-at-sizes-and-padding (program banks l) (last_row banks l choices) (length l.kinds) bank (sees-in-last banks l choices k accepted) none

  -- Every limit above K gives the same padding (document 02, Ticket 14), where K is below the limit.
  pub same-padding-above : k < choices.limit → (n : ℕ) → k < n → (bank : ℕ) →
      padding_of (program banks l) (last_row banks l (with_limit choices n)) bank ≡ padding_of (program banks l) (last_row banks l choices) bank
  same-padding-above below n more bank =
      ap (λ (row : Row). padding_of (program banks l) row bank) (same-row-above banks l choices k accepted below n more)

-- ---- what counts

pub back-again-case : padding_of (program one_bank back_again) (row_of_pass back_again 1) 0 ≡ record { bits = 8589934588; units = 1073741822 }
unfolding walk_to sum_in start_of seen_of moved_on advanced_of seen_skips advance_skips step_of distance_of
back-again-case = refl
