-- Laws that proofs about Items need.
use Rattle.std.specs.Prelude.{◌≡◌, ℕ, ◌+◌, ◌*◌, ◌≤◌, List, length, refl}
use Rattle.std.proofs.Common.{sym, ap, arith}
use Rattle.prelude.specs.Laws.Pick.{determined}
use Rattle.bitvec.specs.Laws.Lists.{length-list_of}
use Rattle.record_lines.specs.declared.Line.{Line}
use Rattle.record_lines.specs.Digits.{bytes_at}
use Rattle.record_lines.specs.Items.{Item, gives, passes, ends, bad, item_of, plain_line, Says}

-- One line.
pub one_line : {line : List ℕ} {state first : ℕ} {item : Item} {r s : Line} → Says line state first r item → Says line state first s item → r ≡ s
one_line p q = determined p.answer q.answer

-- A line that is handed on, by what it says.
module _ {l : List ℕ} {r : Line} {first state : ℕ} {i : Item} where
  pub as-bad : i ≡ bad → r ≡ plain_line 0 state → Says l state first r i
  as-bad e p = rw e (record { answer = p; says = ap (item_of l) p; room = rw p (omega arith) })

  pub as-passes : {after : ℕ} → i ≡ passes after → r ≡ plain_line 2 after → Says l state first r i
  as-passes e p = rw e (record { answer = p; says = ap (item_of l) p; room = rw p (omega arith) })

  pub as-ends : i ≡ ends → r ≡ plain_line 3 state → Says l state first r i
  as-ends e p = rw e (record { answer = p; says = ap (item_of l) p; room = rw p (omega arith) })

pub as-gives : (l : List ℕ) (state first address count after : ℕ) {i : Item} → i ≡ gives address (bytes_at l first count) after
    → first + 2 * count ≤ length l → Says l state first (record { kind = 1; address = address; first = first; count = count; state = after }) i
as-gives l state first address count after e h =
    rw e
    (record {
      answer = ap (λ (n : ℕ). record { kind = 1; address = address; first = first; count = n; state = after }) (sym (length-list_of count _));
      says = refl;
      room = h;
    })
