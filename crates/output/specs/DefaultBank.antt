-- Ticket 13, "The default bank goes", in the build: "labels, written items and reserves in bank 0 are refused even when it is alone", where the caller
-- does not let bank 0 be used alone; where it does, 9 is as document 01 has it.
use Rattle.std.specs.Prelude.{Bool}
use Rattle.output.specs.Output.{Input}

-- the same banks, lists, limit and fill, with bank 0 closed or not
abbrev pub with_closed : Input → Bool → Input
with_closed b closed =
    record {
      banks = b.banks;
      lists = b.lists;
      choices = record { limit = b.choices.limit; fill = b.choices.fill; closed = closed };
    }
