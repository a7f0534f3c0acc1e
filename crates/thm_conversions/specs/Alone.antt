-- A form 2 file with one bank that uses it, worked through. Document 02, Ticket 13: "From form 2 on, labels, written items and reserves in bank 0 are
-- refused even when it is alone. Form 1 files that use it are still read and compared as before." So the way back lets it in: the same answer is not
-- promised of a form 2 file with one bank.
use Rattle.std.specs.Prelude.{[], ◌∷◌}
use Rattle.form_fields.specs.Contents.{Contents}
use Rattle.form_rewrite.specs.Turning.{zeros}

-- one bank of unit 8, the rest zero; a reserve of 8 bits; limit 1
abbrev pub reserve : Contents
reserve =
    record {
      banks = (0 ∷ 8 ∷ zeros 22) ∷ [];
      nodes = (7 ∷ 0 ∷ 0 ∷ 0 ∷ 0 ∷ []) ∷ [];
      rows = (0 ∷ 0 ∷ 0 ∷ 8 ∷ 0 ∷ []) ∷ [];
      values = [];
      limit = 1;
    }
