-- `write_bank` meets its contract: its marks and numbers are those of the bank.
use mathlib.Core.Path.{◌≡◌, refl, ap, ◌∙◌}
use lib.IntN.{nat_abs}
use mir.Facts.{to_z-of_z}
use mir.Syntax.{w64}
use mir.Val.{SFits}
use mathlib.Core.Bool.{Bool, true, false}
use Rattle.std.specs.Int.{from_bool}
use Rattle.print_map.specs.Marks.{sign_of, bit_of}
use Rattle.print_map.proofs.Lines.{bank-written}
use borrow.Author.Rules.{rules}
use Rattle.print_map.proofs.records.write_bank.Goals as goal

-- a bool as a number
bit_is : (b : Bool) → from_bool b ≡ bit_of b
bit_is true = refl
bit_is false = refl

pub returns-clause-writes : goal.returns-clause-writes
returns-clause-writes c =
    -- a start has 64 bits
    let fits : SFits w64 c.args.def.start =
    search rules in
    let a = c.args in
    bank-written a.i a.def a.padding (c.sign_of.ensures ∙ ap sign_of (to_z-of_z fits)) c.mark_of.ensures
    c.mark_of-2.ensures c.mark_of-3.ensures
    (c.magnitude.ensures ∙ ap nat_abs (to_z-of_z fits)) c.value_of.ensures c.value_of-2.ensures
    c.value_of-3.ensures (c.from.ensures ∙ bit_is c.args.def.fill) c.write_line.ensures.writes
