-- What the file of some contents says, field by field, and so what goes to the build: the bank of a payload, a node's kind and operand, a row's numbers
-- and states. Document 01: "1 bank (unit 2 bytes, signed start 8, size 4, offset 4, label alignment 4, flags 1 ..); 2 node (kind 1, operand 4); 3 row
-- (number 4 and state 1 for each node)"; document 02: "a payload one byte longer (fill bit, 0 or 1)".
use Rattle.std.specs.Prelude.{List, ◌++◌, map, ℕ, ◌-◌, min, eqb, length, take, replicate}
use Rattle.prelude.specs.Limits.{max_banks}
use Rattle.bankdef.specs.Check.{no_bank}
use Rattle.bankdef.specs.declared.Bankdef.{Bankdef}
use Rattle.bankdef.specs.declared.Bankdefs.{Bankdefs}
use Rattle.nodes.specs.Lists.{Lists, lists}
use Rattle.output.specs.Output.{Input, input}
use Rattle.form_fields.specs.declared.Kind.{Kind}
use Rattle.form_fields.specs.Words.{byte, word32}
use Rattle.form_fields.specs.Columns.{column}
use Rattle.form_fields.specs.Banks.{bank_of}
use Rattle.form_fields.specs.Contents.{flat, Contents}

-- ---- what a payload says; a bank's is `form_fields/Banks.bank_of`

abbrev pub kind_on : List ℕ → ℕ
kind_on node = byte node 0

abbrev pub operand_on : List ℕ → ℕ
operand_on node = word32 node 1

-- of a row's first n nodes
abbrev pub numbers_on : ℕ → List ℕ → List ℕ
numbers_on n row = column (word32 row) 5 0 n

abbrev pub states_on : ℕ → List ℕ → List ℕ
states_on n row = column (byte row) 5 4 n

-- ---- what some contents say

abbrev pub table_for : ℕ → List Bankdef → Bankdefs
table_for n banks = record { defs = take (min n max_banks) banks ++ replicate (max_banks - min n max_banks) no_bank; len = n }

abbrev pub lists_for : Contents → Lists
lists_for c =
    lists (map kind_on c.nodes) (map operand_on c.nodes) (flat (numbers_on (length c.nodes)) c.rows)
    (flat (states_on (length c.nodes)) c.rows) (length c.rows) c.values

-- what goes to the build
abbrev pub input_for : Kind → Contents → ℕ → Input
input_for k c fill =
    input (table_for (length c.banks) (map (bank_of k) c.banks)) (lists_for c)
    (record { limit = c.limit; fill = fill; closed = eqb k.form 2 })
