-- The blank image laid bank by bank: what a bank's range of ones is, what one more bank makes of the image, and that it ends as the blank.
use Rattle.std.specs.Prelude.{None, Some}
use mathlib.Core.Path.{◌≡◌, refl, sym, ap, ◌∙◌, fun_ext}
use mathlib.Core.Bool.{Bool, true, false, ◌&&◌, ◌||◌}
use mathlib.Core.List.{List}
use Prim.Native.Nat.{ℕ, zero, suc, ◌+◌, ◌-◌, ◌*◌, ◌≤◌, ◌<◌, min}
use native.Mathlib.Decide.{dec_lt}
use native.Mathlib.Numerals.{add-one}
use native.Mathlib.Omega.{arith}
use borrow.Author.Tests.{ltb-true, lt-ltb, eqb-true}
use lib.Dec.{ltb, eqb}
use lib.ListN.{length, get_or, take, drop, replicate, length-replicate, length-take, get_or-eq_default}
use lib.Seq.{get_or-take, get_or-drop}
use Rattle.prelude.specs.Laws.Bools.{either, clash, both, unlike, or_right}
use Rattle.prelude.specs.Pick.{pick}
use Rattle.bankdef.specs.Check.{no_bank}
use Rattle.bankdef.specs.FillBits.{fills_at, ones_at, fill_bit_at, FillsBit, One}
use Rattle.bankdef.specs.Theorems.FillBits.{fills-exactly, one-exactly}
use Rattle.bankdef.specs.Laws.FillBits.{fill-bit-lt}
use Rattle.bankdef.specs.Numbers.{fill_bit}
use Rattle.bankdef.specs.declared.Bankdef.{Bankdef}
use Rattle.bitvec.specs.Bits.{bit_at, of_bits, Bytes}
use Rattle.bitvec.specs.Theorems.Bits.{length-of_bits, bit_at-of_bits, bytes-of_bits, same_bits}
use Rattle.bitvec.specs.Numeral.{Bits}
use Rattle.bitvec.specs.Laws.Numeral.{pick-lt}
use Rattle.bitvec.specs.Ones.{with_ones}
use Rattle.bitvec.specs.Theorems.Ones.{only-ones}
use Rattle.build_write.specs.Blank.{blank_of}
use Rattle.build_visits.specs.Laws.ItemLaws.{zeros-bit, zeros-bytes}
use Rattle.build_write.specs.Steps.{OnesOf}

-- ---- a bank's range of ones

module _ (b : Bankdef) (bits : ℕ) where
  -- what holds where a bank has a bit of one
  one-fills : (k : ℕ) → ones_at b k ≡ true → FillsBit b k × (fill_bit b ≡ 1)
  one-fills k e =
      let s = both (fills_at b k) (eqb (fill_bit b) 1) e in
      ((fills-exactly b k).0 s.0, eqb-true (fill_bit b) 1 s.1)

  pub no_ones : ((k : ℕ) → ones_at b k ≡ true → ⊥) → OnesOf b bits 0 0
  no_ones none = record { inside = λ k h l. absurd (omega arith); outside = λ k h e. absurd (none k e) }

  pub unfilled : b.fill ≡ false → OnesOf b bits 0 0
  unfilled e = no_ones (λ k o. clash (one-fills k o).0.fill e)

  pub other-bit : (fill_bit b ≡ 1 → ⊥) → OnesOf b bits 0 0
  other-bit e = no_ones (λ k o. e (one-fills k o).1)

  none-some : {n : ℕ} → None ≡ Some n → ⊥
  none-some e = unlike cc

  pub sizeless : b.size ≡ None → OnesOf b bits 0 0
  sizeless e = no_ones (λ k o. none-some (sym e ∙ (one-fills k o).0.size))

  pub placeless : b.offset ≡ None → OnesOf b bits 0 0
  placeless e = no_ones (λ k o. none-some (sym e ∙ (one-fills k o).0.offset))

  some_same : {m n : ℕ} → Some m ≡ Some n → m ≡ n
  some_same e = cc

  pub ranged : (size offset end : ℕ) → b.fill ≡ true → fill_bit b ≡ 1 → b.size ≡ Some size → b.offset ≡ Some offset → end ≡ min (offset + size) bits
      → OnesOf b bits offset end
  ranged size offset end f one s o e =
      record {
        inside = λ k h l. (omega arith, there k h (omega arith));
        outside = λ k h t.
            let (at, is) = one-fills k t in
            let m = some_same (sym at.size ∙ s) in
            let n = some_same (sym at.offset ∙ o) in
            (omega (arith, at.first), omega (arith, at.past));
      }
    where
      there : (k : ℕ) → offset ≤ k → k < offset + size → ones_at b k ≡ true
      there k h l = rw ((fills-exactly b k).1 (record { fill = f; bits = size; from = offset; size = s; offset = o; first = h; past = l }), one)

-- ---- bank by bank

-- some bank from 1 to before i has a one there
unfoldable pub ones_below : List Bankdef → ℕ → ℕ → Bool
ones_below l zero k = false
ones_below l (suc i) k = ones_below l i k || (ltb 0 i && ones_at (get_or l i no_bank) k)

abbrev pub laid_bit : List Bankdef → ℕ → ℕ → ℕ → ℕ
laid_bit l bits i k = pick (ltb k bits) (pick (ones_below l i k) 1 0) 0

-- the image once the banks before i are laid
abbrev pub laid_to : List Bankdef → ℕ → ℕ → ℕ → List ℕ
laid_to l bits bytes i = of_bits bytes (laid_bit l bits i)

or-false : (a b : Bool) → b ≡ false → (a || b) ≡ a
or-false true b e = refl
or-false false b e = e

module _ (l : List Bankdef) (bits bytes : ℕ) where
  laid-lt : (i : ℕ) → Bits (laid_bit l bits i)
  laid-lt i k = pick-lt (ltb k bits) (pick-lt (ones_below l i k) (omega arith) (omega arith)) (omega arith)

  pub laid-length : (i : ℕ) → length (laid_to l bits bytes i) ≡ bytes
  laid-length i = length-of_bits bytes (laid_bit l bits i)

  laid-bit : (i k : ℕ) → k < 8 * bytes → bit_at (laid_to l bits bytes i) k ≡ laid_bit l bits i k
  laid-bit i k h = bit_at-of_bits bytes (laid_bit l bits i) (laid-lt i) k h

  laid-bytes : (i : ℕ) → Bytes (laid_to l bits bytes i)
  laid-bytes i = bytes-of_bits bytes (laid_bit l bits i) (laid-lt i)

  -- none is laid before bank 1
  none_below : (k : ℕ) → ones_below l 1 k ≡ false
  unfolding ones_below
  none_below k = refl

  pub laid-first : replicate bytes 0 ≡ laid_to l bits bytes 1
  laid-first =
      same_bits (replicate bytes 0) (laid_to l bits bytes 1) (zeros-bytes bytes) (laid-bytes 1)
      (length-replicate {A = ℕ} bytes 0 ∙ sym (laid-length 1))
      (λ k h.
      zeros-bit bytes k ∙ sym (laid-bit 1 k (omega (arith, length-replicate {A = ℕ} bytes 0)) ∙ rw (none_below k) (nothing (ltb k bits))))
    where
      nothing : (t : Bool) → ◌≡◌ {A = ℕ} (pick t 0 0) 0
      nothing true = refl
      nothing false = refl

  -- one bank more
  module _ (i from end : ℕ) (some : 1 ≤ i) (range : OnesOf (get_or l i no_bank) bits from end) where
    inside_one : (k : ℕ) → from ≤ k → k < end → laid_bit l bits (suc i) k ≡ 1
    unfolding ones_below
    inside_one k h m =
        let (low, one) = range.inside k h m in
        rw (lt-ltb k bits low, or_right (ones_below l i k) (ltb 0 i && ones_at (get_or l i no_bank) k) (rw (lt-ltb 0 i some, one)))

    outside-same : (k : ℕ) → (from ≤ k → k < end → ⊥) → laid_bit l bits (suc i) k ≡ laid_bit l bits i k
    unfolding ones_below
    outside-same k out =
        either (ltb k bits)
        (λ t.
        let dark : ones_at (get_or l i no_bank) k ≡ false =
        either (ones_at (get_or l i no_bank) k) (λ one. let r = range.outside k (ltb-true k bits t) one in absurd (out r.0 r.1)) (λ e. e) in
        ap (λ (a : Bool). pick (ltb k bits) (pick a 1 0) 0)
        (or-false (ones_below l i k) (ltb 0 i && ones_at (get_or l i no_bank) k) (rw (lt-ltb 0 i some, dark))))
        (λ t. rw t)

    pub laid_next : {image after : List ℕ} → image ≡ laid_to l bits bytes i → after ≡ with_ones image from end → after ≡ laid_to l bits bytes (i + 1)
    laid_next {image} before e =
        rw (add-one i)
        (e
        ∙ sym (only-ones image from end (laid_to l bits bytes (suc i)) (laid-bytes (suc i)) (laid-length (suc i) ∙ sym long)
        (λ k h p q. laid-bit (suc i) k (omega (arith, long)) ∙ inside_one k p q)
        (λ k h out.
        laid-bit (suc i) k (omega (arith, long)) ∙ outside-same k out
        ∙ sym (ap (λ (m : List ℕ). bit_at m k) before ∙ laid-bit i k (omega (arith, long))))))
      where
        long : length image ≡ bytes
        long = ap length before ∙ laid-length i

  -- ---- all banks

  found_below : (i k : ℕ) → ones_below l i k ≡ true → (j : ℕ) × (0 < j) × (j < i) × (ones_at (get_or l j no_bank) k ≡ true)
  unfolding ones_below
  found_below zero k e = absurd (mathlib.Core.Bool.true≢false (sym e))
  found_below (suc i) k e =
      either (ones_below l i k)
      (λ t. let r = found_below i k t in (r.0, r.1, omega (arith, r.2), r.3))
      (λ t.
      let own : (ltb 0 i && ones_at (get_or l i no_bank) k) ≡ true = rw t at e in
      let s = both (ltb 0 i) (ones_at (get_or l i no_bank) k) own in
      (i, ltb-true 0 i s.0, omega arith, s.1))

  below-found : (i j k : ℕ) → 0 < j → j < i → ones_at (get_or l j no_bank) k ≡ true → ones_below l i k ≡ true
  unfolding ones_below
  below-found zero j k h m e = absurd (omega arith)
  below-found (suc i) j k h m e =
      elim (dec_lt j i) [
        | yes less ↦ rw (below-found i j k h less e)
        | no same ↦
            (let is : j ≡ i = omega arith in
            or_right (ones_below l i k) _ (rw (lt-ltb 0 i (omega arith), ap (λ (n : ℕ). ones_at (get_or l n no_bank) k) (sym is) ∙ e)))
      ]

  -- past the table there is no bank
  listed : (j k : ℕ) → ones_at (get_or l j no_bank) k ≡ true → j < length l
  listed j k e =
      elim (dec_lt j (length l)) [
        | yes h ↦ h
        | no h ↦
            absurd
            (mathlib.Core.Bool.true≢false
            (sym e ∙ ap (λ (b : Bankdef). ones_at b k) (get_or-eq_default l no_bank {n = j} (omega arith))))
      ]

  same-fill : (i : ℕ) → length l ≤ i → (k : ℕ) → pick (ones_below l i k) 1 0 ≡ fill_bit_at l k
  same-fill i all k =
      either (ones_below l i k)
      (λ t.
      let (j, h, m, e) = found_below i k t in
      let (fills, one) = one-fills (get_or l j no_bank) bits k e in
      rw t (sym ((one-exactly l k).1 (record { bank = j; not-bank-0 = h; there = listed j k e; fills = fills; bit = one }))))
      (λ t.
      let not-one : fill_bit_at l k ≡ 1 → ⊥ = λ e. dark t ((one-exactly l k).0 e) in
      rw t (zero_bit (fill_bit_at l k) (fill-bit-lt l k) not-one))
    where
      zero_bit : (x : ℕ) → x < 2 → (x ≡ 1 → ⊥) → 0 ≡ x
      zero_bit x h n = omega arith

      dark : ones_below l i k ≡ false → One l k → ⊥
      dark t o =
          let e : ones_at (get_or l o.bank no_bank) k ≡ true = rw ((fills-exactly (get_or l o.bank no_bank) k).1 o.fills, o.bit) in
          let h = o.there in
          mathlib.Core.Bool.true≢false (sym (below-found i o.bank k o.not-bank-0 (omega arith) e) ∙ t)

  pub laid-all : (i : ℕ) → length l ≤ i → laid_to l bits bytes i ≡ blank_of l bits bytes
  unfolding blank_of
  laid-all i all = ap (of_bits bytes) (fun_ext (λ k. ap (λ (x : ℕ). pick (ltb k bits) x 0) (same-fill i all k)))

-- the banks from bank 1 on and before `end`, by number
pub from-one : (l : List Bankdef) (n end k : ℕ) → k < length (take (end - 1) (drop 1 l)) → 1 + k < n
    → get_or (take (end - 1) (drop 1 l)) k no_bank ≡ get_or (take n l) (1 + k) no_bank
from-one l n end k h low =
    let below : k < end - 1 = omega (arith, length-take (end - 1) (drop 1 l)) in
    get_or-take (end - 1) (drop 1 l) k no_bank below
    ∙ get_or-drop 1 l k no_bank
    ∙ sym (get_or-take n l (1 + k) no_bank low)
