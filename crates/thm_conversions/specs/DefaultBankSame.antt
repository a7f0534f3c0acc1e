-- Ticket 13: "The converted file gives the same image and blocks; node numbers in places rise by one." Of a layout with one bank and the same layout with
-- a bank 1: the build's answer, and everything lent afterwards, to the last byte. Blocks are made from the lent spans, which are the same.
use Rattle.std.specs.Prelude.{◌≡◌, [], ◌∷◌}
use Rattle.bankdef.specs.Check.{banks_of}
use Rattle.bankdef.specs.declared.Bankdef.{Bankdef}
use Rattle.bankdef.specs.declared.Bankdefs.{Bankdefs}
use Rattle.thm_conversions.specs.Widened.{bare}

-- a table that lists the two banks
pub record TwoBanks (d : Bankdef) (table : Bankdefs) : Type 0 where
  pub count : table.len ≡ 2
  pub banks : banks_of table ≡ bare d ∷ d ∷ []
