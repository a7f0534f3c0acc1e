-- The lines of a text. "A line ends at LF, CR LF or the end of the text, each line by itself": a CR counts to the line's end only where an LF
-- follows it, and where the text ends behind an LF no further line begins.
use Rattle.std.specs.Prelude.{ℕ, suc, Bool, false, ◌&&◌, List, [], ◌∷◌, drop, ◌==◌}
use Rattle.prelude.specs.Pick.{pick}

abbrev pub is_lf : ℕ → Bool
is_lf c = c == 10

abbrev pub is_cr : ℕ → Bool
is_cr c = c == 13

-- an LF comes next
abbrev pub lf_next : List ℕ → Bool
lf_next [] = false
lf_next (c ∷ t) = is_lf c

-- a character in front of the first line
abbrev pub in_front : ℕ → List (List ℕ) → List (List ℕ)
in_front c [] = (c ∷ []) ∷ []
in_front c (l ∷ ls) = (c ∷ l) ∷ ls

unfoldable pub lines_of : List ℕ → List (List ℕ)
lines_of [] = []
lines_of (c ∷ t) = pick (is_lf c) ([] ∷ lines_of t) (pick (is_cr c && lf_next t) (lines_of t) (in_front c (lines_of t)))

-- The first line, and how many characters it takes with its end: how a text is gone through line by line.
unfoldable pub first_line : List ℕ → List ℕ
first_line [] = []
first_line (c ∷ t) = pick (is_lf c) [] (pick (is_cr c && lf_next t) [] (c ∷ first_line t))

unfoldable pub taken : List ℕ → ℕ
taken [] = 0
taken (c ∷ t) = pick (is_lf c) 1 (pick (is_cr c && lf_next t) 2 (suc (taken t)))

abbrev pub behind : List ℕ → List ℕ
behind t = drop (taken t) t
