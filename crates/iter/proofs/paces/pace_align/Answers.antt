-- An `align`: by whether the bank's addresses can be told.
use mathlib.Core.Path.{◌≡◌}
use mathlib.Core.Bool.{true}
use borrow.Author.Rules.{rules}
use Rattle.iter.specs.Distance.{tellable}
use Rattle.iter.proofs.PaceLaws.{paces-align, paces-align-untold}
use Rattle.iter.proofs.paces.pace_align.Goals as goal

pub returns-then-not-is_tellable : goal.returns-then-not-is_tellable
returns-then-not-is_tellable c =
    paces-align-untold _ _ _ c.requires.node_value c.requires.kind_value (search rules) c.halted.ensures

pub returns : goal.returns
returns c =
    -- past the test
    let tells : tellable c.args.def ≡ true =
    search rules in
    paces-align _ _ _ c.requires.node_value c.requires.kind_value c.distance_in_bits-bits.result (tells) c.distance_in_bits-bits.ensures c.in_units.ensures
    (rw c.stays_known.ensures at c.added.ensures)
