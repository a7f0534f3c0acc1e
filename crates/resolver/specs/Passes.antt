-- Which passes run, pass K, and the number of passes run (document 01, "Passes").
use Rattle.std.specs.Prelude.{ℕ, zero, suc, ◌+◌, ◌*◌, ◌-◌, ◌≤◌, min, ◌≡◌, Bool, true, false, not, List, eqb, ltb, length, Result, Ok, Err}
use Rattle.prelude.specs.Pick.{pick}
use Rattle.prelude.specs.declared.Refusal.TheVariants.{Unresolved}
use Rattle.prelude.specs.declared.Refusal.{Refusal}
use Rattle.bankdef.specs.declared.Bankdefs.{Bankdefs}
use Rattle.nodes.specs.Lists.{Lists, Row, row_of, row_at}
use Rattle.resolver.specs.Once.{Program, program_with, pass_of}
use Rattle.resolver.specs.declared.Resolution.{Resolution}

abbrev pub program : Bankdefs → Lists → Program
program banks l =
    record { banks = banks; kinds = l.kinds; operands = l.operands; first = (row_at l 0).numbers }

-- the lists hold row r, from 0, and an operand for each node
pub record HasRow (kinds operands numbers states : List ℕ) (r : ℕ) : Type 0 where
  pub paired : length operands ≡ length kinds
  pub numbered : r * length kinds + length kinds ≤ length numbers
  pub stated : r * length kinds + length kinds ≤ length states

-- the row that a pass over row r is held against: its own, or the one ahead of it
abbrev pub row_against : ℕ → Bool → ℕ
row_against r alone = pick alone r (r - 1)

-- a pass over row x, where the pass before it read row y
abbrev pub pass_over : Bankdefs → List ℕ → List ℕ → List ℕ → List ℕ → ℕ → ℕ → Bool → Bool → Result ℕ Refusal
pass_over banks kinds operands numbers states x y is_first is_last =
    let n = length kinds in
    pass_of (program_with banks kinds operands (row_of n numbers states 0).numbers) (row_of n numbers states x) (row_of n numbers states y) is_first is_last

-- "Pass n reads row n, or the last row if there are fewer." Rows are counted from 0 and passes from 1.
abbrev pub row_of_pass : Lists → ℕ → Row
row_of_pass l n = row_at l (min n l.rows - 1)

-- pass n, as the last one or not
abbrev pub pass_at : Bankdefs → Lists → ℕ → Bool → Result ℕ Refusal
pass_at banks l n is_last = pass_of (program banks l) (row_of_pass l n) (row_of_pass l (n - 1)) (eqb n 1) is_last

abbrev pub unresolved : Result ℕ Refusal → Bool
unresolved (Ok s) = eqb s 2
unresolved (Err why) = false

-- the first of n numbers from `from` on that passes a test, or the number past them
unfoldable pub first : (ℕ → Bool) → ℕ → ℕ → ℕ
first test from zero = from
first test from (suc n) = pick (test from) from (first test (suc from) n)

-- "With limit M, passes 1, 2, .. run until one is not unresolved, pass K." "If K is M, that pass was the last." M + 1 where there is none. `pass n
-- is_last` is what pass n comes to.
abbrev pub pass_k : (ℕ → Bool → Result ℕ Refusal) → ℕ → ℕ
pass_k pass m = first (λ n. not (unresolved (pass n (eqb n m)))) 1 m

-- a last pass that settled pass k, or what it is refused for: "8: the last pass ended unresolved"
abbrev pub last_of : ℕ → Result ℕ Refusal → Result ℕ Refusal
last_of k (Ok s) = pick (eqb s 2) (Err Unresolved) (Ok k)
last_of k (Err why) = Err why

-- after pass k of a limit m above it: "If K is below M, pass K + 1 runs as the last and must not be unresolved."
abbrev pub after_k : (ℕ → Bool → Result ℕ Refusal) → ℕ → Result ℕ Refusal → Resolution
after_k pass k (Ok s) = record { settled = last_of k (pass (k + 1) true); passes = k + 1 }
after_k pass k (Err why) = record { settled = Err why; passes = k }

-- "If none is found, 8. M = 0 runs pass 1 as the last, and K is 0." "Refusals 5 to 14 of a layout carry the passes run too, a refusing pass included."
unfoldable pub settled_by : (ℕ → Bool → Result ℕ Refusal) → ℕ → Resolution
settled_by pass m =
    pick (eqb m 0)
    (record { settled = last_of 0 (pass 1 true); passes = 1 })
    (pick (ltb (pass_k pass m) m)
    (after_k pass (pass_k pass m) (pass (pass_k pass m) false))
    (record { settled = last_of m (pass m true); passes = m }))

abbrev pub resolution_of : Bankdefs → Lists → ℕ → Resolution
resolution_of banks l m = settled_by (pass_at banks l) m
