-- Laws that Theorems/Exactly rests on.
use Rattle.std.specs.Prelude.{ℕ, ◌<◌, ◌≡◌, refl, Bool, true, false, length, Err}
use Rattle.std.proofs.Common.{arith}
use Rattle.prelude.specs.Pick.{pick}
use Rattle.prelude.specs.Refusals.{number_of}
use Rattle.prelude.specs.declared.Refusal.TheVariants.{Malformed}
use Rattle.prelude.specs.Verdict.{Verdict, Accepted}
use Rattle.bankdef.specs.Refused as table
use Rattle.bankdef.specs.Refused.{Decided}
use Rattle.bankdef.specs.declared.Bankdefs.{Bankdefs}
use Rattle.nodes.specs.Lists.{Lists, known_fill, node_count_sound, row_count_sound, nodes_to, lists_of}
use Rattle.nodes.specs.Theorems.Sound.{lowest-node}

-- ---- the refusals that come before are other numbers

-- a verdict's number, 0 for none
abbrev pub number_is : Verdict → ℕ
number_is Accepted = 0
number_is (Err why) = number_of why

pub table-low : {banks : Bankdefs} {v : Verdict} → Decided banks v → number_is v < 4
table-low (table.count c) = omega arith
table-low (table.number c f) = omega arith
table-low (table.pair c f g) = omega arith
table-low (table.sound c f g) = omega arith

either-low : (t : Bool) (v w : Verdict) → number_is v < 5 → number_is w < 5 → number_is (pick t v w) < 5
either-low true v w a b = a
either-low false v w a b = b

nodes-low : (banks : ℕ) (l : Lists) (n : ℕ) (v : Verdict) → nodes_to banks l n ≡ v → number_is v < 5
nodes-low banks l n Accepted e = omega arith
nodes-low banks l n (Err why) e = rw (lowest-node banks l n why e).2 (omega arith)

pub lists-low : (banks : ℕ) (l : Lists) (fill : ℕ) → number_is (lists_of banks l fill) < 5
unfolding lists_of
lists-low banks l fill =
    let n = length l.kinds in
    either-low (node_count_sound l) (pick (row_count_sound l) (pick (known_fill fill) (nodes_to banks l n) (Err (Malformed 3))) (Err (Malformed 1)))
    (Err (Malformed 0))
    (either-low (row_count_sound l) (pick (known_fill fill) (nodes_to banks l n) (Err (Malformed 3))) (Err (Malformed 1))
    (either-low (known_fill fill) (nodes_to banks l n) (Err (Malformed 3)) (nodes-low banks l n (nodes_to banks l n) refl) (omega arith))
    (omega arith))
    (omega arith)
