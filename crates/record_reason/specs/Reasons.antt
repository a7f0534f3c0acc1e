-- Why a file of records is bad: the line at fault (record_fault/specs/Reading), the reason, and two numbers that go with it.
use Rattle.std.specs.Prelude.{◌≡◌, Bool, true, false, List, [], ◌∷◌, ℕ, zero, suc, ◌+◌, ◌-◌, ◌≤◌, max, min, ltb, leb, eqb, length}
use Rattle.prelude.specs.Pick.{pick}
use Rattle.record_lines.specs.Items.{Item, gives, passes, ends, bad, Format}
use Rattle.record_lines.specs.Lines.{lines_of}
use Rattle.record_lines.specs.Pieces.{Piece}
use Rattle.record_scan.specs.Reading.{format_by, Read, sound, faulty, new_pieces, state_after, is_new}
use Rattle.record_scan.specs.Trail.{trail, line_at, item_at}
use Rattle.record_reason.specs.Spelling.{cause_of, or_else, own_cause, start_by, many_by, top_by}
use Rattle.record_reason.specs.declared.Cause.{Cause}
use Rattle.record_reason.specs.declared.Why.{Why}
use Rattle.record_reason.specs.declared.Place.{Place}

-- Line n, from 0, and what it says.
abbrev pub line_of : ℕ → List ℕ → ℕ → List ℕ
line_of format text n = line_at text (trail format text n).at

abbrev pub item_of : ℕ → List ℕ → ℕ → Item
item_of format text n = item_at format text (trail format text n).at (trail format text n).state

abbrev pub is_end : Item → Bool
is_end (gives address bytes state) = false
is_end (passes state) = false
is_end ends = true
is_end bad = false

-- the line before line n is the end record
abbrev pub ends_before : ℕ → List ℕ → ℕ → Bool
ends_before format text zero = false
ends_before format text (suc n) = is_end (item_of format text n)

-- The first line, of the n first, that gives a byte from `first` on and below `end`; n where none does.
unfoldable pub giver : ℕ → List ℕ → ℕ → ℕ → ℕ → ℕ
giver format text first end zero = 0
giver format text first end (suc n) =
    pick (eqb (giver format text first end n) n) (pick (is_new (new_pieces (item_of format text n)) first end) (suc n) n) (giver format text first end n)

-- The address that a line gives bytes from.
abbrev pub address_in : Item → ℕ
address_in (gives address bytes state) = address
address_in (passes state) = 0
address_in ends = 0
address_in bad = 0

-- The lowest address that a file's lines give a byte at, 2^32 for none. A line that is bad gives none.
abbrev pub lower : List Piece → ℕ → ℕ
lower [] low = low
lower (p ∷ l) low = min p.address low

unfoldable pub lowest_from : Format → List (List ℕ) → ℕ → ℕ
lowest_from f [] state = 4294967296
lowest_from f (l ∷ ls) state = lower (new_pieces (f state l)) (lowest_from f ls (state_after state (f state l)))

abbrev pub lowest : ℕ → List ℕ → ℕ
lowest format text = lowest_from (format_by format) (lines_of text) 0

-- "a byte given twice or below the load address", "an address past 2^32 - 1". 9: the address of the line's last byte, and the last that there is. 10: the
-- line's first address, and the lowest that the file gives. 11: the first line that gave one of its bytes, and the lowest address that both give.
abbrev pub span_cause : ℕ → ℕ → List ℕ → ℕ → ℕ → ℕ → ℕ → Cause
span_cause format load text n start many top =
    pick (ltb top (start + many)) (cause_of 9 (start + many - 1) (top - 1))
    (pick (ltb start load) (cause_of 10 start (lowest format text))
    (cause_of 11 (giver format text start (start + many) n)
    (max start (address_in (item_of format text (giver format text start (start + many) n))))))

-- What is wrong with line n, with `line` its characters and `state` what is in force there.
abbrev pub line_cause : ℕ → ℕ → List ℕ → ℕ → ℕ → List ℕ → Cause
line_cause format load text n state line =
    or_else (own_cause format state line) (span_cause format load text n (start_by format state line) (many_by format line) (top_by format line))

-- 12: nothing stands behind the end record. 13: a text that ends without one.
abbrev pub cause_at : ℕ → ℕ → List ℕ → ℕ → Cause
cause_at format load text n =
    pick (ends_before format text n) (cause_of 12 0 0)
    (pick (leb (length text) (trail format text n).at) (cause_of 13 0 0)
    (line_cause format load text n (trail format text n).state (line_of format text n)))

-- What is told of a file.
abbrev pub told_of : ℕ → Cause → Why
told_of line c = record { reason = c.reason; line = line; first = c.first; second = c.second }

abbrev pub why_of : ℕ → ℕ → List ℕ → Read → Why
why_of format load text (sound pieces) = told_of 0 (cause_of 0 0 0)
why_of format load text (faulty n) = told_of n (cause_at format load text n)

-- What a walk to line n promises.
pub record Placed (format : ℕ) (text : List ℕ) (n : ℕ) (r : Place) : Type 0 where
  pub at : r.at ≡ (trail format text n).at
  pub state : r.state ≡ (trail format text n).state
  pub ended : r.ended ≡ ends_before format text n
  pub inside : r.at ≤ length text
