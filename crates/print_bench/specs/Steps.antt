-- What the functions owe each other.
use Rattle.std.specs.Prelude.{Bool, List, ◌≡◌, ℕ, ◌+◌, ◌≤◌, ◌<◌, length, take, get_or, Result, Ok, Err}
use Rattle.prog_args.specs.Text.{Stands}
use Rattle.prelude.specs.Pick.{pick}
use Rattle.prelude.specs.declared.Refusal.{Refusal}
use Rattle.print_bench.specs.declared.Asked.TheVariants.{Runs, Range}
use Rattle.print_bench.specs.Images.{bytes_room, blocks_room, File, given, unread}
use Rattle.print_bench.specs.Program.{bench_text}

-- The room for the text.
abbrev pub text_room : ℕ
text_room = 3801600

-- No byte that a block of 64-bit numbers ends at is farther.
abbrev pub far : ℕ
far = 4611686018427387904

-- A run lies in both images, and they in the room for bytes.
pub record InBoth (released overlay : List ℕ) (first count : ℕ) : Type 0 where
  pub issued : first + count ≤ length released
  pub overlaid : first + count ≤ length overlay
  pub near : first + count ≤ bytes_room

abbrev pub EachInBoth : List ℕ → List ℕ → List ℕ → List ℕ → Type 0
EachInBoth released overlay firsts counts = (i : ℕ) → i < length firsts → InBoth released overlay (get_or firsts i 0) (get_or counts i 0)

-- A file that was read stands in what was lent, its blocks at the front.
abbrev pub Loads : File → Result ℕ Refusal → List ℕ → List ℕ → List ℕ → Type 0
Loads file (Ok n) bytes offsets sizes =
    (file ≡ given bytes (take n offsets) (take n sizes)) × (n ≤ blocks_room) × (length bytes ≡ bytes_room)
    × (length offsets ≡ blocks_room) × (length sizes ≡ blocks_room)
Loads file (Err why) bytes offsets sizes = file ≡ unread why

-- What the call promises: the text of what is asked, all runs or else a range, stands at the front of a buffer.
abbrev pub Benches : ℕ → Bool → ℕ → ℕ → List ℕ → List ℕ → List ℕ → List ℕ → ℕ → List ℕ → Type 0
Benches load all address count bytes released overlay old r new =
    Stands (bench_text load (pick all Runs (Range address count)) bytes released overlay) old r new
