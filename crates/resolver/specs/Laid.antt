-- What the passes of a layout read, and a pass over two of its rows.
use Rattle.std.specs.Prelude.{ℕ, Bool, Result}
use Rattle.prelude.specs.declared.Refusal.{Refusal}
use Rattle.bankdef.specs.declared.Bankdefs.{Bankdefs}
use Rattle.nodes.specs.Lists.{Lists}
use Rattle.resolver.specs.Passes.{pass_over}

-- the banks and the lists; no pass reads the value bytes
pub record Laid : Type 0 where
  pub banks : Bankdefs
  pub lists : Lists

-- a layout by its parts
abbrev pub laid : Bankdefs → Lists → Laid
laid banks l = record { banks = banks; lists = l }

-- a pass over row x, where the pass before it read row y
abbrev pub over : Laid → ℕ → ℕ → Bool → Bool → Result ℕ Refusal
over p x y is_first is_last = pass_over p.banks p.lists.kinds p.lists.operands p.lists.numbers p.lists.states x y is_first is_last
