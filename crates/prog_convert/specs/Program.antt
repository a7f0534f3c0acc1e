-- What is handed on of an answer. No contract says which bytes a call of the C library reads or writes.
use Rattle.std.specs.Prelude.{List, ◌≡◌, ℕ, min, length, Result, Ok, Err}
use Rattle.prelude.specs.declared.Refusal.{Refusal}
use Rattle.print_text.specs.Lines.{refusal_text}
use Rattle.prog_args.specs.Text.{Shows}

-- An answer that was handed on from a buffer: the file from the front of it, as far as it goes, or the refusal's line.
abbrev pub Handed : Result ℕ Refusal → List ℕ → ℕ → List ℕ → Type 0
Handed (Ok n) old count new = (count ≡ min n (length old)) × (new ≡ old)
Handed (Err why) old count new = Shows (refusal_text why) count new
