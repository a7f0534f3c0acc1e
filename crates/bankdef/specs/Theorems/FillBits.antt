-- Theorems about what FillBits defines.
use Rattle.std.specs.Prelude.{◌≡◌, refl, true, List, [], ◌∷◌, ◌↔◌, ℕ, zero, suc, ◌+◌, ◌<◌, eqb, length, get_or, drop}
use Rattle.std.proofs.Common.{ap, ◌∙◌, arith, length-take, get_or-take, lt-ltb, le-leb, eqb-true}
use Rattle.bankdef.specs.declared.Bankdef.{Bankdef}
use Rattle.bankdef.specs.declared.Bankdefs.{Bankdefs}
use Rattle.prelude.specs.Laws.Bools.{both}
use Rattle.prelude.specs.Verdict.{Accepted}
use Rattle.bankdef.specs.Numbers.{fill_bit, SoundBank}
use Rattle.bankdef.specs.Check.{no_bank, banks_of, check_of}
use Rattle.bankdef.specs.Theorems.Refused.{accepted}
use Rattle.bankdef.specs.SharedBit.{InBank}
use Rattle.bankdef.specs.Laws.SharedBit.{offsets-meet}
use Rattle.bankdef.specs.FillBits.{FillsBit, One, fill_bit_at, fills_at, ones_in}
use Rattle.bankdef.specs.Laws.FillBits.{Gives, fill-bit-lt, fills-cases, fills-in-bank, ones-found, ones-from, picked, same_bit}

pub fills-exactly : (b : Bankdef) (p : ℕ) → (fills_at b p ≡ true) ↔ FillsBit b p
fills-exactly b p = (
  fills-cases b p b.fill b.size b.offset refl refl refl,
  λ s. rw (s.fill, s.size, s.offset, le-leb s.from p s.first, lt-ltb p (s.from + s.bits) s.past),
)

from_gives : (l : List Bankdef) (p : ℕ) → Gives (drop 1 l) p → One l p
from_gives [] p g = absurd (omega (arith, g.1))
from_gives (z ∷ l) p g =
    let b = get_or l g.0 no_bank in
    let s = both (fills_at b p) (eqb (fill_bit b) 1) g.2 in
    record {
      bank = suc g.0;
      not-bank-0 = omega arith;
      there = omega (arith, g.1);
      fills = (fills-exactly b p).0 s.0;
      bit = eqb-true (fill_bit b) 1 s.1;
    }

gives-from : (l : List Bankdef) (p k : ℕ) → 0 < k → k < length l → FillsBit (get_or l k no_bank) p → fill_bit (get_or l k no_bank) ≡ 1 → ones_in (drop 1 l) p ≡ true
gives-from l p zero h i s e = absurd (omega arith)
gives-from [] p (suc k) h i s e = absurd (omega arith)
gives-from (z ∷ l) p (suc k) h i s e =
    ones-from l p k (omega arith) (rw ((fills-exactly (get_or l k no_bank) p).1 s, e))

pub one-exactly : (l : List Bankdef) (p : ℕ) → (fill_bit_at l p ≡ 1) ↔ One l p
one-exactly l p = (
  λ e. from_gives l p (ones-found (drop 1 l) p (picked (ones_in (drop 1 l) p) e)),
  λ o. rw (gives-from l p o.bank o.not-bank-0 o.there o.fills o.bit),
)

-- 0 where no bank other than bank 0 fills,
pub none-zero : (l : List Bankdef) (p : ℕ) → ((k : ℕ) → 0 < k → k < length l → FillsBit (get_or l k no_bank) p → ⊥) → fill_bit_at l p ≡ 0
none-zero l p none =
    let not-one : fill_bit_at l p ≡ 1 → ⊥ = λ e. let o = (one-exactly l p).0 e in none o.bank o.not-bank-0 o.there o.fills in
    omega (arith, fill-bit-lt l p)

-- and 0 everywhere where all fill bits are zero.
pub bits-zero : (l : List Bankdef) → ((k : ℕ) → 0 < k → k < length l → fill_bit (get_or l k no_bank) ≡ 0) → (p : ℕ) → fill_bit_at l p ≡ 0
bits-zero l zeros p =
    let not-one : fill_bit_at l p ≡ 1 → ⊥ = λ e.
    let o = (one-exactly l p).0 e in
    omega (arith, zeros o.bank o.not-bank-0 o.there, o.bit) in
    omega (arith, fill-bit-lt l p)

module _ (t : Bankdefs) (fine : check_of t ≡ Accepted) where
  abbrev l : List Bankdef
  l = banks_of t

  apart : (i j p : ℕ) → 0 < i → i < j → j < length l → InBank (get_or l i no_bank) p → InBank (get_or l j no_bank) p → ⊥
  apart i j p h r there a b =
      let m = offsets-meet (get_or l i no_bank) (get_or l j no_bank) p a b in
      (accepted t fine).disjoint i j (record {
        not-bank-0 = h;
        rising = r;
        there = there;
        o = m.first;
        p = m.second;
        first-offset = m.first-offset;
        second-offset = m.second-offset;
        overlap = m.overlap;
      })

  -- No two banks of it other than bank 0 share a bit of the output.
  pub no-shared-bit : (i j p : ℕ) → 0 < i → 0 < j → i < length l → j < length l → InBank (get_or l i no_bank) p → InBank (get_or l j no_bank) p → i ≡ j
  no-shared-bit i j p h k hi hj a b =
      let up : i < j → ⊥ = λ r. apart i j p h r hj a b in
      let down : j < i → ⊥ = λ r. apart j i p k r hi b a in
      omega arith

  -- So at most one of them fills a bit,
  pub one-bank-fills : (i j p : ℕ) → 0 < i → 0 < j → i < length l → j < length l → FillsBit (get_or l i no_bank) p → FillsBit (get_or l j no_bank) p → i ≡ j
  one-bank-fills i j p h k hi hj a b =
      no-shared-bit i j p h k hi hj (fills-in-bank (get_or l i no_bank) p a) (fills-in-bank (get_or l j no_bank) p b)

  sound-at : (i : ℕ) → i < length l → SoundBank (get_or l i no_bank)
  sound-at i h =
      let m = length-take t.len t.defs in
      rw (get_or-take t.len t.defs i no_bank (omega (arith, m))) ((accepted t fine).each i (omega (arith, m)) (omega (arith, m)))

  -- and the bit "takes the fill bit" of that bank.
  pub takes-fill-bit : (k p : ℕ) → 0 < k → k < length l → FillsBit (get_or l k no_bank) p → fill_bit_at l p ≡ fill_bit (get_or l k no_bank)
  takes-fill-bit k p h there s =
      let b = get_or l k no_bank in
      let up : fill_bit b ≡ 1 → fill_bit_at l p ≡ 1 = λ e.
      (one-exactly l p).1 (record { bank = k; not-bank-0 = h; there = there; fills = s; bit = e }) in
      let down : fill_bit_at l p ≡ 1 → fill_bit b ≡ 1 = λ e.
      let o = (one-exactly l p).0 e in
      let same = one-bank-fills k o.bank p h o.not-bank-0 there o.there s o.fills in
      ap (λ (i : ℕ). fill_bit (get_or l i no_bank)) same ∙ o.bit in
      same_bit (fill_bit_at l p) (fill_bit b) (fill-bit-lt l p) (sound-at k there).bit up down
