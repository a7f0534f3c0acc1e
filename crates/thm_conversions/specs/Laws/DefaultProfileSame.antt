-- Laws that Theorems/Same rests on.
use Rattle.std.specs.Prelude.{ℕ, zero, suc, Bool, true, false, length, Err}
use Rattle.prelude.specs.Pick.{pick}
use Rattle.prelude.specs.declared.Refusal.TheVariants.{Malformed}
use Rattle.prelude.specs.Verdict.{Verdict, Accepted}
use Rattle.nodes.specs.Lists.{Lists, first_of, node_count_sound, row_count_sound, known_fill, node_fault, nodes_to, lists_of}

-- The list check names 4 alone.
pub data Four : Verdict → Type 0 where
  none : Four Accepted
  at : (place : ℕ) → Four (Err (Malformed place))

picked : (t : Bool) {v w : Verdict} → Four v → Four w → Four (pick t v w)
picked true p q = p
picked false p q = q

next : {v w : Verdict} → Four v → Four w → Four (first_of v w)
next none q = q
next (at place) q = at place

nodes-four : (n : ℕ) (l : Lists) (i : ℕ) → Four (nodes_to n l i)
unfolding nodes_to
nodes-four n l zero = none
nodes-four n l (suc i) = next (nodes-four n l i) (picked (node_fault n l i) (at i) none)

pub lists-four : (n : ℕ) (l : Lists) (fill : ℕ) → Four (lists_of n l fill)
unfolding lists_of
lists-four n l fill =
    picked (node_count_sound l) (picked (row_count_sound l) (picked (known_fill fill) (nodes-four n l (length l.kinds)) (at 3)) (at 1)) (at 0)
