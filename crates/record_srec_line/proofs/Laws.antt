-- One law for each return of the functions that read a line, on plain values.
use mathlib.Core.Path.{◌≡◌, refl, ap, ◌∙◌}
use mathlib.Core.Bool.{Bool, true, false, ◌&&◌}
use mathlib.Core.List.{List}
use Prim.Native.Nat.{ℕ, ◌+◌, ◌-◌, ◌*◌, ◌%◌, ◌^◌, ◌<◌, ◌≤◌}
use native.Mathlib.Omega.{arith}
use lib.Dec.{ltb, eqb}
use lib.ListN.{length, get_or, drop}
use borrow.Author.Tests.{lt-ltb, le-ltb, le-leb, lt-leb, eq-eqb, ne_eqb}
use Rattle.bitvec.specs.Lists.{list_of}
use Rattle.record_lines.specs.Digits.{all_digits, pair_at, bytes_at}
use Rattle.prelude.specs.Pick.{pick}
use Rattle.record_lines.specs.Items.{gives, passes, ends, bad, Says}
use Rattle.record_lines.specs.Laws.Items.{as-gives}
use Rattle.record_lines.specs.Spelling.{checked_sum}
use Rattle.record_lines.specs.Sums.{sum_of}
use Rattle.record_lines.specs.declared.Line.{Line}
use Rattle.record_srec_line.specs.Srec.{is_s, is_sound, agrees, number_from, count_of, address_of, data_of, data_line, end_line}
use Rattle.record_srec_line.specs.Srec.{header_line, typed}

-- A line without bytes has no place for them.
module _ (w state : ℕ) (l : List ℕ) {r : Line} (f g : ℕ) where
  pub end-anywhere : Says l state f r (end_line w state l) → Says l state g r (end_line w state l)
  unfolding end_line
  end-anywhere s = go (agrees state w && eqb (count_of l) (w + 1)) s
    where
      go : (b : Bool) → Says l state f r (pick b ends bad) → Says l state g r (pick b ends bad)
      go true p = record { answer = p.answer; says = p.says; room = p.room }
      go false p = record { answer = p.answer; says = p.says; room = p.room }

  pub header-anywhere : Says l state f r (header_line state l) → Says l state g r (header_line state l)
  unfolding header_line
  header-anywhere s = go (ltb 2 (count_of l)) s
    where
      go : (b : Bool) → Says l state f r (pick b (passes state) bad) → Says l state g r (pick b (passes state) bad)
      go true p = record { answer = p.answer; says = p.says; room = p.room }
      go false p = record { answer = p.answer; says = p.says; room = p.room }

-- ---- soundness

checked : (d long : Bool) (n : ℕ) → (d && long && eqb n 255) ≡ eqb (pick long (pick d n 256) 256) 255
checked true true n = refl
checked true false n = refl
checked false true n = refl
checked false false n = refl

module _ (l : List ℕ) where
  pub sound-short : length l < 4 → is_sound l ≡ false
  unfolding is_sound
  sound-short h = rw (lt-leb 4 (length l) h)

  module _ (long : 4 ≤ length l) where
    pub sound-letter : is_s (get_or l 0 0) ≡ false → is_sound l ≡ false
    unfolding is_sound
    sound-letter h = rw (le-leb 4 (length l) long, h)

    module _ (s : is_s (get_or l 0 0) ≡ true) where
      pub sound-sum : is_sound l ≡ eqb (checked_sum l 2 (count_of l + 1)) 255
      unfolding is_sound
      sound-sum =
          let sum = sum_of (bytes_at l 2 (count_of l + 1)) % 256 in
          let e : 4 + 2 * count_of l ≡ 2 + 2 * (count_of l + 1) = omega arith in
          rw (le-leb 4 (length l) long, s)
          (checked (all_digits (drop 2 l)) (eqb (length l) (4 + 2 * count_of l)) sum
          ∙ ap (λ (n : ℕ). eqb (pick (eqb (length l) n) (pick (all_digits (drop 2 l)) sum 256) 256) 255) e)

-- ---- the types

module _ (w state : ℕ) (l : List ℕ) where
  pub data-other : agrees state w ≡ false → data_line w state l ≡ bad
  unfolding data_line
  data-other h = rw h

  pub end-other : agrees state w ≡ false → end_line w state l ≡ bad
  unfolding end_line
  end-other h = rw h

  module _ (own : agrees state w ≡ true) where
    pub data-short : count_of l ≤ w → data_line w state l ≡ bad
    unfolding data_line
    data-short h = rw (own, le-ltb w (count_of l) h)

    pub data-past : w < count_of l → 256 ^ w < address_of w l + (count_of l - w - 1) → data_line w state l ≡ bad
    unfolding data_line
    data-past h p = rw (own, lt-ltb w (count_of l) h, lt-leb (address_of w l + (count_of l - w - 1)) (256 ^ w) p)

    pub data-gives : w < count_of l → address_of w l + (count_of l - w - 1) ≤ 256 ^ w → data_line w state l ≡ gives (address_of w l) (data_of w l) w
    unfolding data_line
    data-gives h p = rw (own, lt-ltb w (count_of l) h, le-leb (address_of w l + (count_of l - w - 1)) (256 ^ w) p)

    pub end-count : (count_of l ≡ w + 1 → ⊥) → end_line w state l ≡ bad
    unfolding end_line
    end-count h = rw (own, ne_eqb (count_of l) (w + 1) h)

    pub end-ends : count_of l ≡ w + 1 → end_line w state l ≡ ends
    unfolding end_line
    end-ends h = rw (own, eq-eqb (count_of l) (w + 1) h)

-- A data record by its figures.
pub data-as : (w state : ℕ) (l : List ℕ) (a n : ℕ) → a ≡ address_of w l → n ≡ count_of l → data_line w state l ≡ gives (address_of w l) (data_of w l) w
    → w < n → length l ≡ 4 + 2 * count_of l
    → Says l state (4 + 2 * w) (record { kind = 1; address = a; first = 4 + 2 * w; count = n - w - 1; state = w }) (data_line w state l)
data-as w state l a n p q e h k =
    rw (p, q) (as-gives l state (4 + 2 * w) (address_of w l) (count_of l - w - 1) w e (omega (arith, q)))

pub header-short : (state : ℕ) (l : List ℕ) → count_of l < 3 → header_line state l ≡ bad
unfolding header_line
header-short state l h = rw (le-ltb 2 (count_of l) (omega arith))

pub header-passes : (state : ℕ) (l : List ℕ) → 3 ≤ count_of l → header_line state l ≡ passes state
unfolding header_line
header-passes state l h = rw (lt-ltb 2 (count_of l) (omega arith))

-- an address of two and of four bytes
pub address-two : (l : List ℕ) → address_of 2 l ≡ pair_at l 4 * 256 + pair_at l 6
unfolding number_from list_of
address-two l = omega arith

pub address-four : (l : List ℕ) → address_of 4 l ≡ (pair_at l 4 * 256 + pair_at l 6) * 65536 + (pair_at l 8 * 256 + pair_at l 10)
unfolding number_from list_of
address-four l = omega arith

-- ---- the types by their digits

module _ (t state : ℕ) (l : List ℕ) where
  pub typed-header : t ≡ 48 → typed t state l ≡ header_line state l
  unfolding typed
  typed-header e = rw e

  pub typed-s1 : t ≡ 49 → typed t state l ≡ data_line 2 state l
  unfolding typed
  typed-s1 e = rw e

  pub typed-s3 : t ≡ 51 → typed t state l ≡ data_line 4 state l
  unfolding typed
  typed-s3 e = rw e

  pub typed-s7 : t ≡ 55 → typed t state l ≡ end_line 4 state l
  unfolding typed
  typed-s7 e = rw e

  pub typed-s9 : t ≡ 57 → typed t state l ≡ end_line 2 state l
  unfolding typed
  typed-s9 e = rw e
