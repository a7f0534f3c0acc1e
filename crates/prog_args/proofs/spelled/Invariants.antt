-- What is left of the text spells the same, behind the digits that were read.
use Rattle.std.proofs.Common.{◌≡◌, ◌≤◌, drop}
use Rattle.prelude.specs.Limits.{max_position}
use Rattle.prog_args.specs.Number.{base_of, number_from, spelled_in}
use Rattle.prog_args.proofs.spelled.Given as goal

abbrev pub invariant-loop-c : goal.invariant-loop-c
invariant-loop-c l =
    (spelled_in (base_of l.hex) l.text ≡ number_from (base_of l.hex) l.value (drop l.c-index l.text)) × (l.value ≤ max_position)
