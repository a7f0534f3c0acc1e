-- What a call that writes what was read leaves: all of it at the front, or why not, and nothing changed.
use Rattle.std.specs.Prelude.{List, ◌++◌, ◌≡◌, ℕ, Result, Ok, Err}
use Rattle.prelude.specs.declared.Refusal.{Refusal}
use Rattle.blocks.specs.declared.Block.{Block}
use Rattle.print_text.specs.Lines.{refusal_text}
use Rattle.prog_args.specs.Text.{Stands}
use Rattle.record_scan.specs.Reading.{Read}
use Rattle.thm_record_room.specs.Records.{records_or, PutsOr}
use Rattle.print_rehex.specs.Rehex.{fault_text, turned}

-- The room that the program lends for its text.
abbrev pub text_room : ℕ
text_room = 3145728

-- The text of blocks, of which a refusal is its line alone.
abbrev pub records_of : ℕ → ℕ → List ℕ → List Block → List ℕ
records_of = records_or refusal_text

abbrev pub Records : ℕ → ℕ → List ℕ → List Block → List ℕ → Result ℕ Refusal → List ℕ → Type 0
Records = PutsOr refusal_text

-- The same of what was read.
abbrev pub Turns : ℕ → ℕ → List ℕ → Read → List ℕ → Result ℕ Refusal → List ℕ → Type 0
Turns format load bytes read old (Ok n) new = Stands (turned format load bytes read) old n new
Turns format load bytes read old (Err why) new = (turned format load bytes read ≡ refusal_text why ++ fault_text read) × (new ≡ old)
