-- `write_number` meets its contract: a number of 64 bits has 20 digits at most.
use native.Mathlib.Omega.{arith}
use Rattle.print_text.specs.Theorems.Decimal.{decimal-length}
use Rattle.print_map.proofs.cells.write_number.Goals as goal

pub write_number-requires : goal.write_number-requires
write_number-requires c =
    omega (arith, c.requires, decimal-length 19 c.args.n (omega arith))

pub returns-clause-upper_bound : goal.returns-clause-upper_bound
returns-clause-upper_bound c =
    let w = c.write_number.ensures in omega (arith, w.place, decimal-length 19 c.args.n (omega arith))
