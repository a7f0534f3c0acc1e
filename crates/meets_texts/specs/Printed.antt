-- What the programs print, by the definitions: the model that the sentences of their texts are held against.
use Rattle.std.specs.Prelude.{Bool, List, [], ◌∷◌, ℕ, eqb, leb, length, Result, Ok, Err}
use Rattle.prelude.specs.Pick.{pick}
use Rattle.prelude.specs.declared.Refusal.TheVariants.{Malformed}
use Rattle.prelude.specs.declared.Refusal.{Refusal}
use Rattle.form_fields.specs.Contents.{Contents, written}
use Rattle.form_fields.specs.Kind.{form1, form2}
use Rattle.form_fields.specs.Shape.{form_in}
use Rattle.form_fields.specs.Whole.{contents_in}
use Rattle.form_fields.specs.declared.Kind.{Kind}
use Rattle.form_rewrite.specs.Turning.{to_form1, to_form2, drops_bit}
use Rattle.form_convert.specs.Convert.{answer_by, drops_none}
use Rattle.print_text.specs.Ascii.{ascii}
use Rattle.print_text.specs.Lines.{line, refusal_text}
use Rattle.print_rehex.specs.Rehex.{longest}
use Rattle.record_scan.specs.Reading.{read_text}
use Rattle.record_reason.specs.Reasons.{why_of}
use Rattle.record_reason.specs.declared.Why.{Why}

-- ---- why a file of records is bad

abbrev pub why_numbers : Why → List ℕ
why_numbers w = w.reason ∷ w.line ∷ w.first ∷ w.second ∷ []

abbrev pub why_text : Why → List ℕ
why_text w = line (ascii "reason") (why_numbers w)

unfoldable pub reason_text : ℕ → ℕ → List ℕ → List ℕ
reason_text kind load source =
    pick (leb (length source) longest) (why_text (why_of kind load source (read_text kind load source))) (refusal_text (Malformed 0))

-- ---- a layout file in the other form

-- The longest file and a byte more: what is read of the input, and what is lent for the result.
abbrev pub file_room : ℕ
file_room = 65537

-- The converted file as it is; "A refusal prints `refused`, number and place, one space between."
abbrev pub printed : Result ℕ Refusal → List ℕ → List ℕ
printed (Ok n) new = new
printed (Err why) new = refusal_text why

-- One of the two ways, in the room that the program lends.
abbrev pub way_text : Kind → Kind → (Contents → Contents) → (Contents → Bool) → List ℕ → List ℕ
way_text from to turn drops file =
    let c = contents_in from file in
    printed (answer_by to (form_in from file) c (turn c) (drops c) file_room) (written to (turn c))

unfoldable pub form1_text : List ℕ → List ℕ
form1_text file = way_text form2 form1 to_form1 drops_bit file

unfoldable pub form2_text : List ℕ → List ℕ
form2_text file = way_text form1 form2 to_form2 drops_none file

-- The program's whole output for a form that is asked and a file.
abbrev pub convert_text : ℕ → List ℕ → List ℕ
convert_text form file = pick (eqb form 1) (form1_text file) (form2_text file)
