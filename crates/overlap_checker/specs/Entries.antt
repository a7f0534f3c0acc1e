-- The entries of a list by their index.
use Rattle.std.specs.Prelude.{List, ℕ, zero, suc, get_or}
use Rattle.overlap_checker.specs.declared.Entry.{Entry}
use Rattle.overlap_checker.specs.Interval.{interval}

-- entry i, or an empty one where there is none
abbrev pub entry_at : List Entry → ℕ → Entry
entry_at l i = get_or l i (interval 0 0)

-- the entry before a bound, or an empty one where there is none
abbrev pub entry_before : List Entry → ℕ → Entry
entry_before l zero = interval 0 0
entry_before l (suc i) = entry_at l i
