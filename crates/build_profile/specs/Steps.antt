-- What the private functions of the rules promise and ask, beside the rules themselves.
use Rattle.std.specs.Prelude.{ℕ, ◌*◌, ◌≤◌, ◌<◌, ◌≡◌, Bool, List, [], eqb, get_or, length}
use Rattle.prelude.specs.Limits.{max_banks}
use Rattle.prelude.specs.Pick.{pick}
use Rattle.bankdef.specs.declared.Bankdef.{Bankdef}
use Rattle.bankdef.specs.declared.Bankdefs.{Bankdefs}
use Rattle.nodes.specs.Lists.{Lists, lists}
use Rattle.build_profile.specs.Rules.{bank_aligned, on_page, whole_pages, unit_kept}

-- a bank keeps a rule, told by the rule's number
abbrev pub bank_keeps : ℕ → ℕ → Bankdef → Bool
bank_keeps rule page b =
    pick (eqb rule 2) (bank_aligned b.align)
    (pick (eqb rule 3) (on_page page b.offset)
    (pick (eqb rule 4) (whole_pages page b.offset b.size)
    (unit_kept b.unit)))

-- the lists as far as the rules read them: neither states nor values
abbrev pub nodes_of : List ℕ → List ℕ → List ℕ → ℕ → Lists
nodes_of kinds operands numbers rows = lists kinds operands numbers [] rows []

-- what the list check has shown: the lists are as long as the counts say, and a switch names a bank of the table
pub record Sized (banks : Bankdefs) (kinds operands numbers : List ℕ) (rows : ℕ) : Type 0 where
  pub some : 1 ≤ banks.len
  pub few : banks.len ≤ max_banks
  pub given : length operands ≡ length kinds
  pub numbered : length numbers ≡ rows * length kinds
  pub switches : (i : ℕ) → i < length kinds → get_or kinds i 0 ≡ 1 → get_or operands i 0 < banks.len
