-- Laws that Theorems/FirstRow rests on.
use Rattle.std.specs.Prelude.{ℕ, ◌+◌, ◌*◌, ◌<◌, ◌≡◌, List, get_or, take, drop}
use Rattle.std.proofs.Common.{◌∙◌, get_or-take, get_or-drop}

-- a cell of a row: the rows stand one behind the other, each as long as the nodes
pub cell : (n r i : ℕ) (xs : List ℕ) → i < n → get_or (take n (drop (r * n) xs)) i 0 ≡ get_or xs (r * n + i) 0
cell n r i xs h = get_or-take n (drop (r * n) xs) i 0 h ∙ get_or-drop (r * n) xs i 0
