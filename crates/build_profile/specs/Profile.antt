-- The profile call: "19 (new), after 4 and before the first pass"; yes, "then with each bank's pages".
use Rattle.std.specs.Prelude.{ℕ, Err}
use Rattle.prelude.specs.Verdict.{Verdict, Accepted}
use Rattle.bankdef.specs.Check.{check_of}
use Rattle.bankdef.specs.declared.Bankdefs.{Bankdefs}
use Rattle.nodes.specs.Lists.{Lists, lists_of, first_of}
use Rattle.build_profile.specs.Pages.{none_paged, pages_of}
use Rattle.build_profile.specs.Rules.{rules_of}
use Rattle.build_profile.specs.declared.Paged.{Paged}

-- "Order: 1, 2 by ascending bank, 3, then 4"; then the rules
unfoldable pub verdict_of : Bankdefs → Lists → ℕ → ℕ → Verdict
verdict_of banks l fill page = first_of (check_of banks) (first_of (lists_of banks.len l fill) (rules_of banks l page))

-- "It says yes exactly when all of them hold, then with each bank's pages"
abbrev pub paged_by : Verdict → ℕ → Bankdefs → Paged
paged_by Accepted page banks = record { verdict = Accepted; pages = pages_of page banks }
paged_by (Err why) page banks = record { verdict = Err why; pages = none_paged }

abbrev pub profile_of : Bankdefs → Lists → ℕ → ℕ → Paged
profile_of banks l fill page = paged_by (verdict_of banks l fill page) page banks
