-- The list of a read-back: each maximal run of bytes of one kind, ascending.
use Rattle.std.specs.Prelude.{Bool, List, [], ◌∷◌, ◌++◌, ℕ, zero, suc, ◌-◌, ◌*◌, eqb, length, get_or}
use Rattle.prelude.specs.Pick.{pick}
use Rattle.overlay.specs.Cover.{covered_bit}

-- What is lent: the image with its blocks, and what was read back with its own, offsets and sizes in bits.
pub record Readback : Type 0 where
  pub image : List ℕ
  pub offsets : List ℕ
  pub sizes : List ℕ
  pub bytes : List ℕ
  pub given_offsets : List ℕ
  pub given_sizes : List ℕ

abbrev pub readback : List ℕ → List ℕ → List ℕ → List ℕ → List ℕ → List ℕ → Readback
readback image offsets sizes bytes given_offsets given_sizes =
    record { image = image; offsets = offsets; sizes = sizes; bytes = bytes; given_offsets = given_offsets; given_sizes = given_sizes }

-- What is to be said of a byte: nothing (0), that it is asked for and not given (1), that it is given with another value (2).
abbrev pub kind_by : Bool → Bool → Bool → ℕ
kind_by asked given same = pick asked (pick given (pick same 0 2) 1) 0

-- The blocks are of whole bytes, so that one has a byte if it has the byte's first bit.
unfoldable pub kind_of : Readback → ℕ → ℕ
kind_of t b =
    kind_by (covered_bit t.offsets t.sizes (8 * b)) (covered_bit t.given_offsets t.given_sizes (8 * b)) (eqb (get_or t.image b 0) (get_or t.bytes b 0))

-- A run: its first byte, its bytes and their kind.
pub record Run : Type 0 where
  pub first : ℕ
  pub count : ℕ
  pub kind : ℕ

abbrev pub run : ℕ → ℕ → ℕ → Run
run first count kind = record { first = first; count = count; kind = kind }

-- The run from `first` to `end` is listed, unless nothing is to be said of its bytes.
abbrev pub closed : ℕ → ℕ → ℕ → List Run
closed kind first end = pick (eqb kind 0) [] (run first (end - first) kind ∷ [])

-- Byte b is of the kind `next`, and a run of `kind` has gone on from `first` to it: what is listed then, and where the run begins that b is in.
abbrev pub closed_at : ℕ → ℕ → ℕ → ℕ → List Run
closed_at kind next first b = pick (eqb next kind) [] (closed kind first b)

abbrev pub started_at : ℕ → ℕ → ℕ → ℕ → ℕ
started_at kind next first b = pick (eqb next kind) first b

-- The n bytes from b on, and the run that has gone on to them.
unfoldable pub runs_from : (ℕ → ℕ) → ℕ → ℕ → ℕ → ℕ → List Run
runs_from kinds kind first b zero = closed kind first b
runs_from kinds kind first b (suc n) = closed_at kind (kinds b) first b ++ runs_from kinds (kinds b) (started_at kind (kinds b) first b) (suc b) n

unfoldable pub runs_of : Readback → List Run
runs_of t = runs_from (kind_of t) 0 0 0 (length t.image)
