-- What a layout's answer tells in document 01's figures: which refusal, at which node of which pass, or K, and the passes run.
use Rattle.std.specs.Prelude.{ℕ, ◌<◌, ◌≤◌, ◌≡◌, Bool, true, ◌↔◌, length, Ok, Err}
use Rattle.prelude.specs.Told.{gives, refuses, told_refusal}
use Rattle.prelude.specs.declared.Place.{Place}
use Rattle.prelude.specs.declared.Place.TheVariants.{One}
use Rattle.prelude.specs.declared.Refusal.{Refusal}
use Rattle.prelude.specs.declared.Refusal.TheVariants.{Malformed}
use Rattle.prelude.specs.Verdict.{Accepted}
use Rattle.bankdef.specs.Check.{check_of}
use Rattle.bankdef.specs.declared.Bankdefs.{Bankdefs}
use Rattle.resolver.specs.Ends.{Runs, RunsLast}
use Rattle.resolver.specs.Layout.{Checked}
use Rattle.nodes.specs.Lists.{Lists, lists_of}
use Rattle.resolver.specs.NodeOrder.{def_at, OffBoundary, GoesPast}
use Rattle.resolver.specs.Once.{walk_to}
use Rattle.resolver.specs.PassStates.{node_in}
use Rattle.resolver.specs.Passes.{program, row_of_pass, pass_at}
use Rattle.resolver.specs.PositionPast.{WouldPass}
use Rattle.resolver.specs.Run.{IsK, Settles, run_of}
use Rattle.resolver.specs.Told.{told_settled}
use Rattle.resolver.specs.declared.Choices.{Choices}
use Rattle.resolver.specs.declared.Resolution.{Resolution}

-- "5: a position would pass 4,294,967,295": at node i of a pass that runs, and the pass has gone past every node before it.
pub record PastFirst (banks : Bankdefs) (l : Lists) (choices : Choices) (i : ℕ) : Type 0 where
  pub checked : Checked banks l choices.fill
  pub pass : ℕ
  pub is_last : Bool
  pub runs : Runs (pass_at banks l) choices.limit pass is_last
  pub listed : i < length l.kinds
  pub here : WouldPass (def_at (program banks l) (row_of_pass l pass) i) (walk_to (program banks l) (row_of_pass l pass) i) (node_in banks l pass i)
  pub before : (j : ℕ) → j < i → GoesPast (program banks l) (row_of_pass l pass) is_last j

-- "7: a label in the last pass is off an address boundary": node i is the first such, and nothing stops the last pass before it.
pub record OffInLast (banks : Bankdefs) (l : Lists) (choices : Choices) (i : ℕ) : Type 0 where
  pub checked : Checked banks l choices.fill
  pub pass : ℕ
  pub runs : RunsLast (pass_at banks l) choices.limit pass
  pub listed : i < length l.kinds
  pub here : OffBoundary (program banks l) (row_of_pass l pass) i
  pub before : (j : ℕ) → j < i → GoesPast (program banks l) (row_of_pass l pass) true j

-- "8: the last pass ended unresolved"
pub record LastUnresolved (banks : Bankdefs) (l : Lists) (choices : Choices) : Type 0 where
  pub checked : Checked banks l choices.fill
  pub pass : ℕ
  pub runs : RunsLast (pass_at banks l) choices.limit pass
  pub ends : pass_at banks l pass true ≡ Ok 2

-- "With limit M, passes 1, 2, .. run until one is not unresolved, pass K": k is K, n passes are run, and the last of them is not unresolved.
pub record SettlesAt (banks : Bankdefs) (l : Lists) (choices : Choices) (k n : ℕ) : Type 0 where
  pub checked : Checked banks l choices.fill
  pub is : IsK (pass_at banks l) choices.limit k
  pub count : n ≡ run_of choices.limit k
  pub last : Settles (pass_at banks l n true)

-- What a layout's answer tells, in figures. "Order: 1, 2 by ascending bank, 3, then 4 .. Then each pass in node order meets 5, 6 and 7, and 8 at
-- its end." "Refusals 5 to 14 of a layout carry the passes run too, a refusing pass included."
pub record Figures (banks : Bankdefs) (l : Lists) (choices : Choices) (r : Resolution) : Type 0 where
  -- the table's refusal comes first, then the lists', and no pass is run
  pub table : (why : Refusal) → check_of banks ≡ Err why → (told_settled r.settled ≡ told_refusal why) × (r.passes ≡ 0)
  pub lists : (why : Refusal) → check_of banks ≡ Accepted → lists_of banks.len l choices.fill ≡ Err why
      → (told_settled r.settled ≡ told_refusal why) × (r.passes ≡ 0)
  -- after those checks 4 is not given: of a table that has as many records as it counts banks
  pub four : banks.len ≤ length banks.defs
      → (place : ℕ)
      → (told_settled r.settled ≡ refuses 4 (One place)) ↔
      ((check_of banks ≡ Accepted) × (lists_of banks.len l choices.fill ≡ Err (Malformed place)))
  pub five : (i : ℕ) → (told_settled r.settled ≡ refuses 5 (One i)) ↔ PastFirst banks l choices i
  -- "6 is no longer given" (document 02, Ticket 3)
  pub six : (place : Place) → told_settled r.settled ≡ refuses 6 place → ⊥
  pub seven : (i : ℕ) → (told_settled r.settled ≡ refuses 7 (One i)) ↔ OffInLast banks l choices i
  pub eight : (told_settled r.settled ≡ refuses 8 (One 0)) ↔ LastUnresolved banks l choices
  -- the pass that refuses is the last that is run
  pub run-five : (i : ℕ) (s : PastFirst banks l choices i) → r.passes ≡ s.pass
  pub run-seven : (i : ℕ) (s : OffInLast banks l choices i) → r.passes ≡ s.pass
  pub run-eight : (s : LastUnresolved banks l choices) → r.passes ≡ s.pass
  -- "The answer holds K and the number of passes run"
  pub accepted : (k n : ℕ) → ((told_settled r.settled ≡ gives k) × (r.passes ≡ n)) ↔ SettlesAt banks l choices k n
