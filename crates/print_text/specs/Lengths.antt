-- How long the lines are, and how long they can be: a number below 100,000,000,000 has at most eleven digits, and a space before it.
use Rattle.std.specs.Prelude.{List, [], ◌∷◌, ℕ, ◌<◌}

-- at most eleven digits
abbrev pub Few : ℕ → Type 0
Few n = n < 100000000000

abbrev pub AllFew : List ℕ → Type 0
AllFew [] = Unit {0}
AllFew (n ∷ ns) = Few n × AllFew ns

-- at most twenty digits: what 64 bits hold
abbrev pub Word : ℕ → Type 0
Word n = n < 18446744073709551616

abbrev pub AllWords : List ℕ → Type 0
AllWords [] = Unit {0}
AllWords (n ∷ ns) = Word n × AllWords ns
