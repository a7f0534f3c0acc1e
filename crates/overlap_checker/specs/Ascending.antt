-- Sound entries said in one structural fact, `Ascending`, and what follows of entries by index: each ends where a later one starts, or before.
use Rattle.std.specs.Prelude.{List, [], ◌∷◌, ℕ, ◌≤◌, ◌<◌}
use Rattle.overlap_checker.specs.declared.Entry.{Entry}
use Rattle.overlap_checker.specs.Interval.{end, Within}

-- an entry that is not at fault after one that ends at `floor`
pub record Sits (floor : ℕ) (e : Entry) : Type 0 where
  pub above : floor ≤ e.position
  pub nonempty : 0 < e.size
  pub within : Within e

-- entries of which none is at fault
abbrev pub Ascending : ℕ → List Entry → Type 0
Ascending floor [] = Unit {0}
Ascending floor (e ∷ l) = Sits floor e × Ascending (end e) l
