-- What `dk_form` says, from documents 01 and 02: which bytes of a file say which layout (what a file is stands in Files), and of that layout what `dk_build`
-- says (Build).
use Rattle.std.specs.Prelude.{◌≡◌, List, [], ℕ, ◌+◌, ◌*◌, ◌≤◌, ◌<◌, ℤ, pos, ◌-ℤ◌, length, get_or, replicate}
use Rattle.says.specs.Words.{Is}
use Rattle.says.specs.Build.{Given, Lent, Outcome, losing, BuildSays}
use Rattle.says.specs.Files.{two, four, eight, Held, Form, form-1, form-2, Sound, Broken}

-- "signed start 8": two's complement
pub data Signed (n : ℕ) : ℤ → Type 0 where
  from-0 : n < 9223372036854775808 → Signed n (pos n)
  below-0 : 9223372036854775808 ≤ n → Signed n (pos n -ℤ pos 18446744073709551616)

-- the fill bit: "a payload one byte longer (fill bit, 0 or 1)"; form 1 has none
abbrev pub fill_bit : Form → List ℕ → ℕ
fill_bit form-1 p = 0
fill_bit form-2 p = get_or p 23 0

-- "From form 2 on, labels, written items and reserves in bank 0 are refused even when it is alone."
abbrev pub closes : Form → ℕ
closes form-1 = 0
closes form-2 = 1

-- one number for each payload
abbrev pub Column : List ℕ → List (List ℕ) → (List ℕ → ℕ) → Type 0
Column l payloads read = (length l ≡ length payloads) × ((i : ℕ) → i < length payloads → get_or l i 0 ≡ read (get_or payloads i []))

-- one number for each node of each row, "number 4 and state 1 for each node", row after row
abbrev pub Cells : List ℕ → Held → (List ℕ → ℕ → ℕ) → Type 0
Cells l h read =
    (length l ≡ length h.rows * length h.nodes)
    × ((r i : ℕ) → r < length h.rows → i < length h.nodes → get_or l (r * length h.nodes + i) 0 ≡ read (get_or h.rows r []) (5 * i))

-- The layout that a sound file says, with the fill's choice. "1 bank (unit 2 bytes, signed start 8, size 4, offset 4, label alignment 4, flags 1 ..); 2 node
-- (kind 1, operand 4); 3 row (number 4 and state 1 for each node); 4 values, one field; 5 pass limit, 1 byte"
pub record Layout (f : Form) (h : Held) (fill : ℕ) (g : Given) : Type 0 where
  pub units : Column g.units h.banks (λ p. two p 0)
  pub starts : (length g.starts ≡ length h.banks)
      × ((b : ℕ) → b < length h.banks → Signed (eight (get_or h.banks b []) 2) (get_or g.starts b (pos 0)))
  pub sizes : Column g.bank_sizes h.banks (λ p. four p 10)
  pub offsets : Column g.bank_offsets h.banks (λ p. four p 14)
  pub aligns : Column g.aligns h.banks (λ p. four p 18)
  pub flags : Column g.flags h.banks (λ p. get_or p 22 0)
  pub fill_bits : Column g.fill_bits h.banks (fill_bit f)
  pub kinds : Column g.kinds h.nodes (λ p. get_or p 0 0)
  pub operands : Column g.operands h.nodes (λ p. four p 1)
  pub numbers : Cells g.numbers h four
  pub states : Cells g.states h (λ p at. get_or p (at + 4) 0)
  pub rows : g.rows ≡ length h.rows
  pub values : g.values ≡ h.values
  pub limit : g.limit ≡ h.limit
  pub choice : g.fill ≡ fill
  pub closed : g.closed ≡ closes f

-- "Form 2 begins with a field of tag 16": a file that begins with 16 is read as form 2, every other as form 1.
pub data OfForm (file : List ℕ) : Form → Type 0 where
  of-1 : (get_or file 0 0 ≡ 16 → ⊥) → OfForm file form-1
  of-2 : get_or file 0 0 ≡ 16 → OfForm file form-2

module _ (file : List ℕ) (fill : ℕ) (old : Lent) where
  -- 4 with a field's index; no pass has run, and nothing lent is changed
  abbrev pub broken_at : ℕ → Outcome
  broken_at index = record {
    answer = record { refusal = 4; place = index; second = 0; passes = 0; k = 0; length = 0; spans = 0; padding = replicate 16 (losing 0 0) };
    lent = old;
  }

  pub data FormSays (y : Outcome) : Type 0 where
    broken : {f : Form} {i : ℕ} → OfForm file f → Broken f file i → Is (broken_at i) y → FormSays y
    laid : {f : Form} {h : Held} {g : Given} → OfForm file f → Sound f file h → Layout f h fill g → BuildSays g old y → FormSays y
