-- The two forms of a layout file, by what differs between them. Document 02: "Form 2 begins with a field of tag 16 holding one byte, 2. Its banks
-- use tag 17, with a payload one byte longer (fill bit, 0 or 1); fields 2 to 5 stay. .. Form 2 may have 65,536 bytes."
use Rattle.std.specs.Prelude.{Bool, true, ◌&&◌, List, ℕ, eqb}
use Rattle.prelude.specs.Pick.{pick}
use Rattle.form_fields.specs.declared.Kind.{Kind}
use Rattle.form_fields.specs.Fields.{field_at}
use Rattle.form_fields.specs.Words.{byte}

-- Document 01: bank is tag 1, 23 bytes; "at most 65,000 bytes".
abbrev pub form1 : Kind
form1 = record { form = 1; heads = 0; tag = 1; bank = 23; longest = 65000 }

abbrev pub form2 : Kind
form2 = record { form = 2; heads = 1; tag = 17; bank = 24; longest = 65536 }

-- "Form 2 begins with a field of tag 16 holding one byte, 2."
unfoldable pub begins2 : List ℕ → Bool
begins2 file = field_at file 16 1 0 && eqb (byte file 3) 2

-- The form of a file: every file that does not begin so is read as form 1.
unfoldable pub kind_of : List ℕ → Kind
kind_of file = pick (begins2 file) form2 form1

-- Whether a file begins as a form asks.
abbrev pub headed : Kind → List ℕ → Bool
headed k file = pick (eqb k.heads 0) true (begins2 file)

-- ---- laws of the two forms: what holds of both holds of either

pub data Known : Kind → Type 0 where
  is1 : Known form1
  is2 : Known form2
