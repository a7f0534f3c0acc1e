-- The first element of a list that passes a test, and what its index tells.
use Rattle.std.specs.Prelude.{Bool, List, [], ◌∷◌, ℕ, suc, ltb, length}
use Rattle.prelude.specs.Pick.{pick}

-- How many elements stand before the first that passes the test: its index, or the list's length where none passes.
unfoldable pub first_where : {A : Type 0} → (A → Bool) → List A → ℕ
first_where p [] = 0
first_where p (a ∷ l) = pick (p a) 0 (suc (first_where p l))

-- whether one passes
abbrev pub some_where : {A : Type 0} → (A → Bool) → List A → Bool
some_where p l = ltb (first_where p l) (length l)
