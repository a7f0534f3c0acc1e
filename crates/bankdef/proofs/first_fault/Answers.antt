use Rattle.std.proofs.Common.{rules}
use Rattle.bankdef.specs.Numbers.{bank_fault}
use Rattle.bankdef.proofs.Walk.{or_count}
use Rattle.bankdef.proofs.first_fault.Goals as goal

pub returns : goal.returns
returns c = rw (c.unwrap_or.ensures, c.first_unsound.ensures, or_count bank_fault c.args.banks.now) (search rules)
