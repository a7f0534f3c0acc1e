-- Laws that Theorems/Exceptions rests on.
use Rattle.std.specs.Prelude.{Bool, ◌≡◌, refl, ℕ, ◌≤◌, ◌<◌, Err}
use Rattle.std.proofs.Common.{le-ltb, lt-ltb}
use Rattle.prelude.specs.Limits.{max_nodes, max_rows}
use Rattle.prelude.specs.declared.Refusal.TheVariants.{Malformed}
use Rattle.form_convert.specs.Convert.{answer_of}

pub too_many : (nodes rows first count size longest : ℕ) (drops : Bool) (room : ℕ) → max_nodes < nodes
    → answer_of nodes rows first count size longest drops room ≡ Err (Malformed 0)
unfolding answer_of
too_many nodes rows first count size longest drops room h = rw (lt-ltb max_nodes nodes h) refl

pub too_long : (nodes rows first count size longest : ℕ) (drops : Bool) (room : ℕ) → nodes ≤ max_nodes → rows ≤ max_rows → count ≤ first → longest < size
    → answer_of nodes rows first count size longest drops room ≡ Err (Malformed 0)
unfolding answer_of
too_long nodes rows first count size longest drops room a b c d =
    rw (le-ltb max_nodes nodes a, le-ltb max_rows rows b, le-ltb first count c, lt-ltb longest size d) refl
