-- Laws that Theorems/RefusedExactly rests on.
use Rattle.std.specs.Prelude.{ℕ, zero, suc, ◌<◌, ◌≤◌, ◌≡◌, Bool, true, false, length, Err, Result}
use Rattle.std.proofs.Common.{inl, inr, arith}
use Rattle.prelude.specs.Pick.{pick}
use Rattle.prelude.specs.Refusals.{number_of, place_of}
use Rattle.prelude.specs.declared.Place.TheVariants.{One}
use Rattle.prelude.specs.declared.Refusal.{Refusal}
use Rattle.prelude.specs.declared.Refusal.TheVariants.{Malformed}
use Rattle.prelude.specs.Verdict.{Verdict, Accepted}
use Rattle.bankdef.specs.Refused.{Decided, count, number, pair, sound}
use Rattle.bankdef.specs.declared.Bankdefs.{Bankdefs}
use Rattle.resolver.specs.Ends.{Runs}
use Rattle.resolver.specs.Layout.{Checked}
use Rattle.nodes.specs.Lists.{Lists, first_of, node_fault, nodes_to, lists_of}
use Rattle.resolver.specs.NodeOrder.{seen_at, GoesPast}
use Rattle.resolver.specs.Passes.{program, row_of_pass, pass_at}
use Rattle.resolver.specs.Laws.StepRefusals.{Refusable}
use Rattle.resolver.specs.declared.Choices.{Choices}

-- Node i stops the walk of pass `pass`, with `why`, and the pass has gone past every node before it. The pass is one that runs.
pub record StopsFirst (banks : Bankdefs) (l : Lists) (choices : Choices) (i : ℕ) (why : Refusal) : Type 0 where
  pub checked : Checked banks l choices.fill
  pub pass : ℕ
  pub is_last : Bool
  pub runs : Runs (pass_at banks l) choices.limit pass is_last
  pub listed : i < length l.kinds
  pub here : seen_at (program banks l) (row_of_pass l pass) i ≡ Err why
  pub before : (j : ℕ) → j < i → GoesPast (program banks l) (row_of_pass l pass) is_last j

-- ---- the checks before any pass

turned_same : {a b : Refusal} → ◌≡◌ {A = (Verdict)} (Err a) (Err b) → a ≡ b
turned_same e = cc

pub table-number : (t : Bankdefs) (v : Verdict) → Decided t v → (why : Refusal) → v ≡ Err why → number_of why ≤ 3
table-number t v (count e) why f = rw (← (turned_same f)) (omega arith)
table-number t v (number e g) why f = rw (← (turned_same f)) (omega arith)
table-number t v (pair e g h) why f = rw (← (turned_same f)) (omega arith)
table-number t v (sound e g h) why f = absurd (let z : ◌≡◌ {A = ℕ} 0 1 = cc in let b : ⊥ = omega arith in b)

pub record FourOrNone (v : Verdict) : Type 0 where
  pub four : (why : Refusal) → v ≡ Err why → number_of why ≤ 4

none-four : FourOrNone Accepted
none-four = record { four = λ why e. absurd (let z : ◌≡◌ {A = ℕ} 0 1 = cc in let b : ⊥ = omega arith in b) }

is-four : (place : ℕ) → FourOrNone (Err (Malformed place))
is-four place = record { four = λ why e. rw (← (turned_same e)) (omega arith) }

choice-four : (b : Bool) (x y : Verdict) → FourOrNone x → FourOrNone y → FourOrNone (pick b x y)
choice-four true x y a b = a
choice-four false x y a b = b

first-four : (x y : Verdict) → FourOrNone x → FourOrNone y → FourOrNone (first_of x y)
first-four Accepted y a b = b
first-four (Err why) y a b = a

nodes-four : (banks : ℕ) (l : Lists) (n : ℕ) → FourOrNone (nodes_to banks l n)
unfolding nodes_to
nodes-four banks l zero = none-four
nodes-four banks l (suc n) =
    first-four (nodes_to banks l n) (pick (node_fault banks l n) (Err (Malformed n)) Accepted) (nodes-four banks l n)
    (choice-four (node_fault banks l n) (Err (Malformed n)) Accepted (is-four n) none-four)

pub lists-four : (banks : ℕ) (l : Lists) (fill : ℕ) → FourOrNone (lists_of banks l fill)
unfolding lists_of
lists-four banks l fill = search (choice-four, nodes-four, is-four) depth 7

-- ---- what is told, and what is refused

pub settled_same : {a b : Refusal} → ◌≡◌ {A = Result ℕ Refusal} (Err a) (Err b) → a ≡ b
settled_same e = cc

pub below-five : (why : Refusal) → number_of why ≤ 4 → 5 ≤ number_of why → ⊥
below-five why h g = omega arith

-- the number and the place of what stops a walk at node j
pub refusable-place : (j : ℕ) (why : Refusal) → Refusable j why → place_of why ≡ One j
refusable-place j why (inl e) = rw e
refusable-place j why (inr e) = rw e

pub refusable-number : (j : ℕ) (why : Refusal) → Refusable j why → number_of why ≤ 6
refusable-number j why (inl e) = rw e (omega arith)
refusable-number j why (inr e) = rw e (omega arith)

pub one_same : {i j : ℕ} → One i ≡ One j → i ≡ j
one_same e = cc
