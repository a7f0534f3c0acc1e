-- `bankdef::fill_banks` meets its contract. The loop's invariant: going on from here over the banks left gives the whole length.
use Rattle.std.proofs.Common.{◌≡◌, ◌≤◌, drop}
use Rattle.prelude.specs.Limits.{max_offer}
use Rattle.bankdef.proofs.Raise.{raise_from}
use Rattle.bankdef.proofs.fill_banks.Given as goal

abbrev pub invariant-loop-b : goal.invariant-loop-b
invariant-loop-b l = record {
  bound : l.length ≤ max_offer;
  left : raise_from l.gap 0 l.banks ≡ raise_from l.gap l.length (drop l.b-index l.banks);
}
