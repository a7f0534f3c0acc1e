-- "a byte given twice .. is a bad file", looked for with lent bits: a window of addresses, a bit for each, is marked line by line.
use Rattle.std.specs.Prelude.{◌≡◌, Bool, true, false, ◌&&◌, ◌||◌, List, [], ◌∷◌, ◌⊎◌, ℕ, ◌+◌, ◌*◌, ◌<◌, ◌≤◌, min, eqb, leb, length}
use Rattle.prelude.specs.Pick.{pick}
use Rattle.bitvec.specs.Bits.{bit_at, Bytes}
use Rattle.record_lines.specs.Pieces.{Piece}
use Rattle.record_scan.specs.Once.{is_free, new_at, new_line}
use Rattle.record_scan.specs.Steps.{nowhere}
use Rattle.record_scan.specs.Trail.{trail}
use Rattle.record_scan.specs.declared.Window.{Window}

-- Lent scratch is used only where all of it is 0.
unfoldable pub all_zero : List ℕ → Bool
all_zero [] = true
all_zero (b ∷ l) = eqb b 0 && all_zero l

-- Bit j of the scratch stands for the address low + j: it is 1 exactly where a byte is given.
abbrev pub Marked : List Piece → ℕ → List ℕ → Type 0
Marked given low scratch = (j : ℕ) → j < 8 * length scratch → bit_at scratch j ≡ pick (is_free given (low + j)) 0 1

-- Where the window of some bytes of scratch ends.
abbrev pub window_end : ℕ → ℕ → ℕ
window_end low bytes = min (low + 8 * bytes) nowhere

-- The lowest address from `top` on that is given, with one line more.
pub record Nearer (next first end top r : ℕ) : Type 0 where
  pub lower : r ≤ next
  pub onward : top ≤ next → top ≤ r
  pub free : (x : ℕ) → top ≤ x → x < r → (leb end x || leb (x + 1) first) ≡ true
  pub exact : (r ≡ next) ⊎ ((first ≤ r) × (r < end))

-- A byte of a window that a line gives, and that was given.
pub record Shared (given new : List Piece) (low end : ℕ) : Type 0 where
  pub at : ℕ
  pub above : low ≤ at
  pub below : at < end
  pub old : is_free given at ≡ false
  pub again : is_free new at ≡ false

-- The first n lines, marked up to the first that gives a byte of the window twice; and from where on they give bytes behind the window.
pub record Windowed (format : ℕ) (text : List ℕ) (n low : ℕ) (scratch after : List ℕ) (r : Window) : Type 0 where
  pub few : r.line ≤ n
  pub long : length after ≡ length scratch
  pub bytes : Bytes after
  pub marked : Marked (trail format text r.line).given low after
  pub once : (k : ℕ) → k < r.line → (x : ℕ) → low ≤ x → x < window_end low (length scratch)
      → (is_free (trail format text k).given x || is_free (new_at format text k) x) ≡ true
  pub shared : r.line < n → Shared (trail format text r.line).given (new_at format text r.line) low (window_end low (length scratch))
  pub twice : r.line < n → new_line format text r.line ≡ false
  pub free : (x : ℕ) → window_end low (length scratch) ≤ x → x < r.next → is_free (trail format text r.line).given x ≡ true
  pub least : r.next < nowhere → is_free (trail format text r.line).given r.next ≡ false
  pub onward : window_end low (length scratch) ≤ r.next
  pub near : r.next ≤ nowhere

-- The first of n lines that gives a byte twice, or n.
pub record FirstTwice (format : ℕ) (text : List ℕ) (n r : ℕ) : Type 0 where
  pub few : r ≤ n
  pub once : (k : ℕ) → k < r → (x : ℕ) → x < nowhere → (is_free (trail format text k).given x || is_free (new_at format text k) x) ≡ true
  pub twice : r < n → new_line format text r ≡ false
