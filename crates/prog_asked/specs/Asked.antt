-- What a command line asks for, as far as a contract can say it: no contract can say which texts the arguments are.
use Rattle.std.specs.Prelude.{List, ◌≡◌, ℕ, min, Option, None, Some}
use Rattle.prog_args.specs.Number.{number_in}
use Rattle.prog_asked.specs.declared.Asked.{Asked}

-- The fill is some number, or 255 for one that no byte holds, and the page size what some text spells.
abbrev pub AskedBy : Option Asked → Type 0
AskedBy None = Unit {0}
AskedBy (Some asked) = (n : ℕ) × (text : List ℕ) × (asked.fill ≡ min n 255) × (asked.page ≡ number_in text)
