-- Laws that Theorems/Number rests on.
use Rattle.std.specs.Prelude.{◌≡◌, refl, Bool, true, false, Option, ℕ, None}
use Rattle.prelude.specs.Pick.{pick}

pub either-none : (b : Bool) (o : Option ℕ) → o ≡ None → pick b o None ≡ None
either-none true o e = e
either-none false o e = refl
