-- `record_lines::value`: each return is one range of characters.
use Rattle.std.proofs.Common.{sym, arith}
use Rattle.record_lines.specs.Theorems.DigitLaws.{value-figure, value-upper, value-lower}
use Rattle.record_lines.proofs.SpellLaws.{value-none}
use Rattle.record_lines.proofs.value.Goals as goal

pub returns-in-48-to-57 : goal.returns-in-48-to-57
returns-in-48-to-57 c =
    (sym (value-figure c.args.c (omega arith) (omega arith)), omega arith)

pub returns-in-65-to-70 : goal.returns-in-65-to-70
returns-in-65-to-70 c =
    let v = value-upper c.args.c (omega arith) (omega arith) in
    (omega arith, omega arith)

pub returns-in-97-to-102 : goal.returns-in-97-to-102
returns-in-97-to-102 c =
    let v = value-lower c.args.c (omega arith) (omega arith) in
    (omega arith, omega arith)

pub returns-in_default : goal.returns-in_default
returns-in_default c = (value-none c.args.c (λ h. omega arith) (λ h. omega arith) (λ h. omega arith), omega arith)

pub returns-in_default-2 : goal.returns-in_default-2
returns-in_default-2 c = (value-none c.args.c (λ h. omega arith) (λ h. omega arith) (λ h. omega arith), omega arith)

pub returns-in_default-3 : goal.returns-in_default-3
returns-in_default-3 c = (value-none c.args.c (λ h. omega arith) (λ h. omega arith) (λ h. omega arith), omega arith)

pub returns-in_default-4 : goal.returns-in_default-4
returns-in_default-4 c = (value-none c.args.c (λ h. omega arith) (λ h. omega arith) (λ h. omega arith), omega arith)
