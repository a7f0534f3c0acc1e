-- What a layout's answer tells in document 01's figures: pass K, or a refusal's number and place.
use Rattle.std.specs.Prelude.{ℕ, Result, Ok, Err}
use Rattle.prelude.specs.Told.{Told, gives, told_refusal}
use Rattle.prelude.specs.declared.Refusal.{Refusal}

abbrev pub told_settled : Result ℕ Refusal → Told ℕ
told_settled (Ok k) = gives k
told_settled (Err why) = told_refusal why
