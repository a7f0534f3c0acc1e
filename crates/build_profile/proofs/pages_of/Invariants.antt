-- The banks so far have their pages, and the rest none.
use Prim.Native.Nat.{ℕ, ◌-◌}
use mathlib.Core.Path.{◌≡◌}
use mathlib.Core.List.{List, ◌++◌, map}
use lib.ListN.{take, replicate}
use Rattle.bankdef.specs.declared.Bankdefs.{Bankdefs}
use Rattle.build_profile.specs.Pages.{no_pages, pages_in}
use Rattle.build_profile.proofs.pages_of.Given as goal

-- the first i banks' pages, and none from there on
abbrev pub up_to : ℕ → Bankdefs → ℕ → List ℕ
up_to page banks i = map (pages_in page) (take i banks.defs) ++ replicate (16 - i) no_pages

abbrev pub invariant-loop-i : goal.invariant-loop-i
invariant-loop-i l = l.pages ≡ up_to l.page l.fn.banks l.i
