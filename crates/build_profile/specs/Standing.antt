-- The bank in force at a node, by the switches alone: the profile is asked before any walk. The walk of every row stands in it.
use Rattle.std.specs.Prelude.{ℕ, zero, suc, List, get_or}
use Rattle.prelude.specs.Pick.{pick}
use Rattle.nodes.specs.Kinds.{is_switch}

-- "The walk begins in bank 0." "1 bank switch", "The operand is a bank for 1": the bank in force before node i.
unfoldable pub bank_before : List ℕ → List ℕ → ℕ → ℕ
bank_before kinds operands zero = 0
bank_before kinds operands (suc i) = pick (is_switch (get_or kinds i 0)) (get_or operands i 0) (bank_before kinds operands i)

-- the bank in force at node i: a switch stands in the bank that it switches to
abbrev pub bank_of_node : List ℕ → List ℕ → ℕ → ℕ
bank_of_node kinds operands i = bank_before kinds operands (suc i)
