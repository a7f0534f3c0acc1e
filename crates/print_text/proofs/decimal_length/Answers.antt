-- `print_text::decimal_length` counts the digits: one more than the power of ten that the number reaches has zeros.
use mathlib.Core.Path.{sym}
use native.Mathlib.Omega.{arith}
use Rattle.print_text.proofs.Decimal.{decimal-between}
use Rattle.print_text.proofs.decimal_length.Goals as goal

pub returns-clause-value : goal.returns-clause-value
returns-clause-value c =
    sym (decimal-between c.ilog10.result c.args.n (omega arith) (omega arith))
