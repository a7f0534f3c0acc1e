-- `bankdef::check` meets its contract: what the answer says, it says in figures too.
use Rattle.std.specs.Prelude.{Err}
use Rattle.std.proofs.Common.{◌≡◌, sym, subst, rules, arith}
use Rattle.std.proofs.lemmas.Grind.{common_steps}
use Rattle.prelude.specs.Told.{told_verdict}
use Rattle.prelude.specs.declared.Refusal.TheVariants.{BankCount, BankNumber}
use Rattle.prelude.specs.Verdict.{Verdict}
use Rattle.bankdef.specs.declared.Bankdefs.{Bankdefs}
use Rattle.bankdef.specs.Check.{check_of}
use Rattle.bankdef.specs.Told.{Checks}
use Rattle.bankdef.specs.Theorems.Told.{check-told}
use Rattle.bankdef.proofs.check.Goals as goal

figures : (t : Bankdefs) (v : Verdict) → v ≡ check_of t → Checks t (told_verdict v)
figures t v e = subst (λ (w : Verdict). Checks t (told_verdict w)) (sym e) (check-told t)

pub returns-then-len-eq0-clause-checks : goal.returns-then-len-eq0-clause-checks
returns-then-len-eq0-clause-checks c = figures c.args.banks (Err BankCount) (search rules)

pub returns-then-fault-table-clause-checks : goal.returns-then-fault-table-clause-checks
returns-then-fault-table-clause-checks c = figures c.args.banks (Err (BankNumber c.first_fault-fault.result)) (grind (arith, common_steps))

pub returns-clause-checks : goal.returns-clause-checks
returns-clause-checks c = figures c.args.banks c.check_bank_overlap.result (grind (arith, common_steps))
