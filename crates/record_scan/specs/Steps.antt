-- What the steps of reading owe each other.
use Rattle.std.specs.Prelude.{◌≡◌, Bool, true, false, ◌&&◌, ◌||◌, List, [], ◌∷◌, ℕ, zero, suc, ◌+◌, ◌-◌, ◌*◌, ◌<◌, ◌≤◌, max, min, ltb, leb, eqb, length, take, drop, Err, Result, None, Option, Ok, Some}
use Rattle.prelude.specs.Pick.{pick}
use Rattle.record_lines.specs.Digits.{pair_at}
use Rattle.record_lines.specs.Items.{bad, Says}
use Rattle.record_lines.specs.Lines.{lines_of}
use Rattle.record_lines.specs.Pieces.{Piece, end_of}
use Rattle.record_srec_line.specs.Srec.{first_of}
use Rattle.record_scan.specs.Reading.{format_by, sound, faulty, new_pieces, is_new, read_text}
use Rattle.record_scan.specs.Trail.{trail, line_at, item_at, next_of}
use Rattle.record_scan.specs.Once.{is_free, new_at, new_line, Once}
use Rattle.record_scan.specs.declared.Step.{Step}
use Rattle.record_scan.specs.declared.Free.{Free}
use Rattle.record_scan.specs.declared.Walk.{Walk}
use Rattle.record_scan.specs.declared.Whole.{Whole}

-- Where in a line its data's first digit stands.
abbrev pub first_by : ℕ → List ℕ → ℕ
first_by format line = pick (eqb format 0) 9 (first_of line)

-- A line is not bad.
abbrev pub IsGood : ℕ → ℕ → List ℕ → Type 0
IsGood format state line = format_by format state line ≡ bad → ⊥

-- How long the line at a place is by its count, and where it ends by that, at the latest with the text.
abbrev pub long_by : ℕ → List ℕ → ℕ → ℕ
long_by format text at = pick (eqb format 0) (11 + 2 * pair_at text (at + 1)) (4 + 2 * pair_at text (at + 2))

abbrev pub stop_by : ℕ → List ℕ → ℕ → ℕ
stop_by format text at = pick (ltb (length text - at) 4) (length text) (at + min (long_by format text at) (length text - at))

-- One line.
pub record Stepped (format : ℕ) (text : List ℕ) (at state : ℕ) (r : Step) : Type 0 where
  pub says : Says (line_at text at) state (first_by format (line_at text at)) r.line (item_at format text at state)
  pub stop : r.stop ≡ at + length (line_at text at)
  pub start : at ≤ r.stop
  pub within : at ≤ length text → r.stop ≤ length text
  pub part : take (r.stop - at) (drop at text) ≡ line_at text at
  pub next : r.next ≡ next_of text at
  pub inside : at ≤ length text → r.next ≤ length text
  pub onward : at < length text → at < r.next

-- A line that was read, by its kind, address and count, gives no byte from `first` on and below `end`.
abbrev pub leaves_by : ℕ → ℕ → ℕ → ℕ → ℕ → Bool
leaves_by kind address count first end = pick (eqb kind 1) (pick (eqb count 0) true (leb (address + count) first || leb end address)) true

-- It may stand behind the pieces given.
abbrev pub admits_by : ℕ → List Piece → ℕ → ℕ → ℕ → Bool
admits_by load given kind address count =
    pick (eqb kind 2) true
    (pick (eqb kind 1)
    (pick (eqb count 0) true (leb load address && leb (address + count) 4294967296 && is_new given address (address + count)))
    false)

-- The highest end of the pieces given, and with a line's.
unfoldable pub highest : List Piece → ℕ
highest [] = 0
highest (p ∷ l) = max (end_of p) (highest l)

abbrev pub high_by : ℕ → ℕ → ℕ → ℕ → ℕ
high_by kind address count high = pick (eqb kind 1) (pick (eqb count 0) high (max high (address + count))) high

-- Nothing is given from `end` on and below r; 0 where a byte from `first` on and below `end` is.
abbrev pub RoomAbove : List Piece → ℕ → ℕ → ℕ → Type 0
RoomAbove given first end r = (r ≡ 0 → is_new given first end ≡ false) × (0 < r → (is_new given first end ≡ true) × (is_new given end r ≡ true))

-- 8589934593 stands for what was not looked for.
abbrev pub RoomIs : Bool → List Piece → ℕ → ℕ → ℕ → Type 0
RoomIs look given first end r = (look ≡ true → RoomAbove given first end r) × ((r ≡ 8589934593 → ⊥) → RoomAbove given first end r)

abbrev pub lower_by : ℕ → ℕ → ℕ → ℕ → ℕ → ℕ → ℕ
lower_by top kind address count first end =
    pick (leaves_by kind address count first end) (pick (leaves_by kind address count end top) top address) 0

-- What is free, and behind a line.
pub record FreeIs (given : List Piece) (free : Free) : Type 0 where
  pub below : is_new given 0 free.low ≡ true
  pub gap : is_new given free.edge free.top ≡ true

abbrev pub edge_by : ℕ → ℕ → ℕ → ℕ → ℕ
edge_by kind address count edge = pick (eqb kind 1) (pick (eqb count 0) edge (address + count)) edge

abbrev pub free_by : Free → ℕ → ℕ → ℕ → ℕ → Free
free_by free top kind address count =
    record {
      low = pick (eqb kind 1) (pick (eqb count 0) free.low (min free.low address)) free.low;
      edge = edge_by kind address count
          free.edge;
      top = top;
    }

-- Where the last of pieces ends, and how many of them do not begin where the one before them ends; `edge` is where the one before all of them ended.
unfoldable pub last_end : ℕ → List Piece → ℕ
last_end edge [] = edge
last_end edge (p ∷ l) = last_end (end_of p) l

unfoldable pub parts_of : ℕ → List Piece → ℕ
parts_of edge [] = 0
parts_of edge (p ∷ l) = pick (eqb p.address edge) 0 1 + parts_of (end_of p) l

-- One line, by its kind, address and count.
abbrev pub begins_by : ℕ → ℕ → ℕ → ℕ → ℕ
begins_by kind address count edge = pick (eqb kind 1) (pick (eqb count 0) 0 (pick (eqb address edge) 0 1)) 0

-- Before the first line: no address is as high.
abbrev pub nowhere : ℕ
nowhere = 8589934592

abbrev pub all_free : Free
all_free = record { low = nowhere; edge = nowhere; top = nowhere }

-- Whether a line may stand. Where it is not looked for whether its bytes are new, nothing is known of the room above it.
abbrev pub AdmitIs : Bool → ℕ → List Piece → ℕ → ℕ → ℕ → ℕ → ℕ → Option (ℕ × ℕ) → Type 0
AdmitIs look load given kind address count high edge None = admits_by load given kind address count ≡ false
AdmitIs look load given kind address count high edge (Some (h, top)) =
    (admits_by load [] kind address count ≡ true) × (look ≡ true → admits_by load given kind address count ≡ true)
    × (0 < top → admits_by load given kind address count ≡ true) × (h ≡ high_by kind address count high)
    × (is_new given (edge_by kind address count edge) top ≡ true)

-- Records ascend: every byte of a line lies at or above the highest end of those given before it.
unfoldable pub rises : ℕ → List ℕ → ℕ → Bool
rises format text zero = true
rises format text (suc n) =
    let t = trail format text n in
    rises format text n && is_new (new_pieces (item_at format text t.at t.state)) 0 (highest t.given)

-- None of the first n lines is bad.
abbrev pub AllGood : ℕ → List ℕ → ℕ → Type 0
AllGood format text n = (k : ℕ) → k < n → IsGood format (trail format text k).state (line_at text (trail format text k).at)

-- All lines up to the end record.
pub record Scanned (format load : ℕ) (text : List ℕ) (lines high : ℕ) (ascend : Bool) (parts : ℕ) : Type 0 where
  pub reads : read_text format load text ≡ sound (trail format text lines).given
  pub top : high ≡ highest (trail format text lines).given
  pub order : ascend ≡ rises format text lines
  pub begun : parts ≡ parts_of nowhere (trail format text lines).given
  pub all : suc lines ≡ length (lines_of text)
  pub good : AllGood format text lines
  pub once : Once format text lines

abbrev pub whole_file : ℕ → ℕ → Bool → ℕ → Result Whole ℕ
whole_file lines high ascend parts = Ok (record { lines = lines; high = high; ascend = ascend; parts = parts })

abbrev pub ScanIs : ℕ → ℕ → List ℕ → Result Whole ℕ → Type 0
ScanIs format load text (Ok w) = Scanned format load text w.lines w.high w.ascend w.parts
ScanIs format load text (Err line) = read_text format load text ≡ faulty line

-- While there are few parts, or always.
abbrev pub looks_by : Bool → ℕ → Bool
looks_by strict parts = strict || ltb parts 16

-- What a walk over the lines tells, and what it promises.
abbrev pub walk_of : ℕ → Bool → Bool → ℕ → ℕ → Bool → ℕ → Walk
walk_of lines sure whole line high ascend parts =
    record { lines = lines; sure = sure; whole = whole; line = line; high = high; ascend = ascend; parts = parts }

abbrev pub scan_of : Walk → Result Whole ℕ
scan_of w = pick w.whole (whole_file w.lines w.high w.ascend w.parts) (Err w.line)

pub record WalkIs (format load : ℕ) (text : List ℕ) (strict : Bool) (w : Walk) : Type 0 where
  pub good : AllGood format text w.lines
  pub near : (k : ℕ) → k < w.lines → (x : ℕ) → nowhere ≤ x → is_free (new_at format text k) x ≡ true
  pub twice : (k : ℕ) → k < w.lines → Once format text k → new_line format text k ≡ false → read_text format load text ≡ faulty k
  pub firm : strict ≡ true → Once format text w.lines
  pub sure : w.sure ≡ true → Once format text w.lines
  pub scan : Once format text w.lines → ScanIs format load text (scan_of w)
