-- The list of the bench: "each maximal run of covered bytes, inside both images, that differ between the two", ascending. A run of bytes is
-- told as a block: its first byte is the origin, its count of bytes the size.
use Rattle.std.specs.Prelude.{◌≡◌, Bool, true, false, not, ◌&&◌, List, [], ◌∷◌, ◌++◌, ℕ, zero, suc, min, ◌+◌, ◌≤◌, ◌<◌, eqb, length, get_or}
use Rattle.prelude.specs.Pick.{pick}
use Rattle.blocks.specs.declared.Block.{Block}
use Rattle.blocks.specs.Walk.{block}
use Rattle.overlay.specs.Cover.{covered_bit, covered_byte}
use Rattle.overlay.specs.Trial.{Trial}

-- How far a test holds from `at` on without a break, of at most n.
unfoldable pub length_from : (ℕ → Bool) → ℕ → ℕ → ℕ
length_from test at zero = 0
length_from test at (suc n) = pick (test at) (suc (length_from test (suc at) n)) 0

-- The runs that begin among the n bytes from `at` on, each as far as the test holds. One begins where the test holds and did not
-- hold at the byte before; `inside` says whether it held there.
abbrev pub begun : Bool → Bool → Block → List Block
begun here inside r = pick here (pick inside [] (r ∷ [])) []

unfoldable pub runs_from : (ℕ → Bool) → ℕ → ℕ → Bool → List Block
runs_from test at zero inside = []
runs_from test at (suc n) inside = begun (test at) inside (block at (length_from test at (suc n))) ++ runs_from test (suc at) n (test at)

-- Two images at a byte.
abbrev pub agree : List ℕ → List ℕ → ℕ → Bool
agree overlay released b = eqb (get_or overlay b 0) (get_or released b 0)

abbrev pub differ : List ℕ → List ℕ → ℕ → Bool
differ overlay released b = not (agree overlay released b)

-- They agree at n bytes from `at` on.
abbrev pub AgreeOn : List ℕ → List ℕ → ℕ → ℕ → Type 0
AgreeOn overlay released at n = (x : ℕ) → at ≤ x → x < at + n → agree overlay released x ≡ true

-- A byte that is listed: covered, and not the same in the two. "inside both images" is the length of the shorter.
unfoldable pub listed : Trial → ℕ → Bool
listed t b = covered_byte (covered_bit t.offsets t.sizes) b && differ t.overlay t.released b

unfoldable pub shorter : Trial → ℕ
shorter t = min (length t.overlay) (length t.released)

unfoldable pub runs_of : Trial → List Block
runs_of t = runs_from (listed t) 0 (shorter t) false
