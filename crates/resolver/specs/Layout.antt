-- A layout's passes, with the refusals that come before any pass (document 01, "Numbers a caller gets back": the order).
use Rattle.std.specs.Prelude.{ℕ, ◌≡◌, false, Err}
use Rattle.prelude.specs.Verdict.{Verdict, Accepted}
use Rattle.bankdef.specs.Check.{check_of}
use Rattle.bankdef.specs.declared.Bankdefs.{Bankdefs}
use Rattle.nodes.specs.Lists.{Lists, lists_of}
use Rattle.resolver.specs.Passes.{resolution_of}
use Rattle.resolver.specs.declared.Choices.{Choices}
use Rattle.resolver.specs.declared.Resolution.{Resolution}

-- "inherited fill, the default" (document 02, Ticket 8), and bank 0 may be used alone, with a limit
abbrev pub by_default : ℕ → Choices
by_default m = record { limit = m; fill = 0; closed = false }

-- the same choices with another limit
abbrev pub with_limit : Choices → ℕ → Choices
with_limit choices m = record { limit = m; fill = choices.fill; closed = choices.closed }

-- refused before any pass was run
abbrev pub unless : Verdict → Resolution → Resolution
unless Accepted r = r
unless (Err why) r = record { settled = Err why; passes = 0 }

-- "Order: 1, 2 by ascending bank, 3, then 4 .. Then each pass in node order meets 5, 6 and 7, and 8 at its end."
unfoldable pub layout_of : Bankdefs → Lists → Choices → Resolution
layout_of banks l choices =
    unless (check_of banks) (unless (lists_of banks.len l choices.fill) (resolution_of banks l choices.limit))

-- The banks and the lists, with the choice of the fill, pass their checks: nothing of 1 to 4 is met before the passes.
pub record Checked (banks : Bankdefs) (l : Lists) (fill : ℕ) : Type 0 where
  pub table : check_of banks ≡ Accepted
  pub lists : lists_of banks.len l fill ≡ Accepted
