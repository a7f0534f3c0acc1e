-- Laws that Theorems/Bits rests on.
use Rattle.std.specs.Prelude.{Some, ◌≡◌, ℕ, ◌+◌, ◌≤◌, ◌<◌, leb, ltb, Option, None}
use Rattle.std.proofs.Math.Path.{refl}
use mathlib.Core.List.Memᴰ
use mathlib.Core.List.{List, [], ◌∷◌}
use Rattle.std.proofs.Math.Logic.{⊎_elim}
use native.Mathlib.Omega.{arith}
use Rattle.std.proofs.Common.{le-leb, lt-ltb, le-ltb}
use Rattle.std.proofs.lemmas.Bool.{lt-leb}
use Rattle.prelude.specs.Pick.{pick}
use Rattle.sort.specs.Order.{total}
use Rattle.sort.specs.Laws.Sorted.{le-or-lt}
use Rattle.blocks.specs.Laws.Measure.{Additive, of_block, measure-kept}
use Rattle.blocks.specs.Measure.{of_run, of_span}
use Rattle.blocks.specs.Spans.{Span}
use Rattle.blocks.specs.Walk.{blocks_of}
use Rattle.blocks.specs.Bits.{InBlock, InPlaced, InRun, InSpan, NoSharedBit, SomeElement}

-- 1 for a run that has the bit, 0 for another.
abbrev pub covers : ℕ → ℕ → ℕ → ℕ
covers bit o size = pick (leb o bit) (pick (ltb bit (o + size)) 1 0) 0

module _ (bit o size : ℕ) where
  covers-in : InRun bit o size → covers bit o size ≡ 1
  covers-in h = rw (le-leb o bit h.0, lt-ltb bit (o + size) h.1)

  covers-before : bit < o → covers bit o size ≡ 0
  covers-before h = rw (lt-leb o bit h)

  covers-behind : o + size ≤ bit → covers bit o size ≡ 0
  covers-behind h = rw (le-leb o bit (omega arith), le-ltb bit (o + size) h)

  -- a run has the bit, or stands behind or before it
  where-is : (P : Type 0) → (bit < o → P) → (InRun bit o size → P) → (o + size ≤ bit → P) → P
  where-is P before inside behind = ⊎_elim (λ h. ⊎_elim behind (λ k. inside (h, k)) (le-or-lt (o + size) bit)) before (le-or-lt o bit)

  covers-few : covers bit o size ≤ 1
  covers-few = where-is (covers bit o size ≤ 1) (λ h. rw (covers-before h) (omega arith)) (λ h. rw (covers-in h) (omega arith))
      (λ h. rw (covers-behind h) (omega arith))

  covers-is-in : 1 ≤ covers bit o size → InRun bit o size
  covers-is-in h = where-is (InRun bit o size) (λ k. let e = covers-before k in absurd (omega arith)) (λ k. k)
      (λ k. let e = covers-behind k in absurd (omega arith))

covers-adds : (bit : ℕ) → Additive (covers bit)
covers-adds bit = record {
  none = λ o. where-is bit o 0 (covers bit o 0 ≡ 0) (covers-before bit o 0) (λ h. absurd (omega (arith, h.0, h.1))) (covers-behind bit o 0);
  more = λ o s t. where-is bit o s (covers bit o (s + t) ≡ covers bit o s + covers bit (o + s) t)
      (λ h. rw (covers-before bit o (s + t) h, covers-before bit o s h, covers-before bit (o + s) t (omega arith)))
      (λ h. rw (covers-in bit o (s + t) (h.0, omega (arith, h.1)), covers-in bit o s h, covers-before bit (o + s) t h.1))
      (λ h. rw (covers-behind bit o s h) (where-is bit (o + s) t (covers bit o (s + t) ≡ 0 + covers bit (o + s) t)
      (λ k. absurd (omega arith))
      (λ k. rw (covers-in bit o (s + t) (omega arith, omega (arith, k.1)), covers-in bit (o + s) t k))
      (λ k. rw (covers-behind bit o (s + t) (omega arith), covers-behind bit (o + s) t k))));
}

-- A bit lies in as many blocks as spans.
pub bit_kept : (bit : ℕ) (spans : List Span) → total (of_block (covers bit)) (blocks_of spans) ≡ total (of_span (covers bit)) spans
bit_kept bit = measure-kept (covers bit) (covers-adds bit)

-- A count that is 1 for what has a bit, and 0 for what has it not.
pub record Counts {A : Type 0} (In : ℕ → A → Type 0) (count : ℕ → A → ℕ) : Type 0 where
  pub few : (bit : ℕ) (a : A) → count bit a ≤ 1
  pub counted : (bit : ℕ) (a : A) → In bit a → 1 ≤ count bit a
  pub is-in : (bit : ℕ) (a : A) → 1 ≤ count bit a → In bit a

-- Such a count, added up over a list: some element has the bit, and no two do.
module _ {A : Type 0} (In : ℕ → A → Type 0) (count : ℕ → A → ℕ) (c : Counts In count) where
  pub some-counted : (bit : ℕ) (l : List A) → SomeElement (In bit) l → 1 ≤ total (count bit) l
  unfolding total
  some-counted bit [] h = absurd (Memᴰ.not-nil h.1)
  some-counted bit (b ∷ l) h = ⊎_elim
      (λ e. let k : 1 ≤ count bit b = rw e at (c.counted bit h.0 h.2) in omega arith)
      (λ t. let k = some-counted bit l (h.0, t, h.2) in omega arith)
      (Memᴰ.cases_cons h.1)

  pub some-is-in : (bit : ℕ) (l : List A) → 1 ≤ total (count bit) l → SomeElement (In bit) l
  unfolding total
  some-is-in bit [] h = absurd (omega arith)
  some-is-in bit (b ∷ l) h = ⊎_elim
      (λ k. (b, Memᴰ.head refl, c.is-in bit b k))
      (λ k. let r = some-is-in bit l (omega arith) in (r.0, Memᴰ.tail r.1, r.2))
      (le-or-lt 1 (count bit b))

  pub apart-counted : (l : List A) → NoSharedBit In l → (bit : ℕ) → total (count bit) l ≤ 1
  unfolding total
  apart-counted [] h bit = omega arith
  apart-counted (b ∷ l) h bit =
      let r = apart-counted l h.1 bit in
      ⊎_elim
      (λ k. ⊎_elim (λ t. absurd (h.0 bit (c.is-in bit b k) (some-is-in bit l t))) (λ t. omega (arith, c.few bit b)) (le-or-lt 1 (total (count bit) l)))
      (λ k. omega arith)
      (le-or-lt 1 (count bit b))

  pub counted-apart : (l : List A) → ((bit : ℕ) → total (count bit) l ≤ 1) → NoSharedBit In l
  unfolding total
  counted-apart [] h = tt
  counted-apart (b ∷ l) h = (
    λ bit i s. let k = c.counted bit b i in let t = some-counted bit l s in let m = h bit in omega arith,
    counted-apart l (λ bit. let m = h bit in omega arith),
  )

pub blocks-count : Counts InBlock (λ bit b. of_block (covers bit) b)
blocks-count = record {
  few = λ bit b. covers-few bit b.origin b.size;
  counted = λ bit b h. rw (covers-in bit b.origin b.size h) (omega arith);
  is-in = λ bit b. covers-is-in bit b.origin b.size;
}

placed-few : (bit : ℕ) (o : Option ℕ) (size : ℕ) → of_run (covers bit) o size ≤ 1
placed-few bit None size = omega arith
placed-few bit (Some o) size = covers-few bit o size

placed-counted : (bit : ℕ) (o : Option ℕ) (size : ℕ) → InPlaced bit o size → 1 ≤ of_run (covers bit) o size
placed-counted bit None size h = absurd h
placed-counted bit (Some o) size h = rw (covers-in bit o size h) (omega arith)

placed-is-in : (bit : ℕ) (o : Option ℕ) (size : ℕ) → 1 ≤ of_run (covers bit) o size → InPlaced bit o size
placed-is-in bit None size h = absurd (omega arith)
placed-is-in bit (Some o) size h = covers-is-in bit o size h

pub spans-count : Counts InSpan (λ bit s. of_span (covers bit) s)
spans-count = record {
  few = λ bit s. placed-few bit s.offset s.size;
  counted = λ bit s. placed-counted bit s.offset s.size;
  is-in = λ bit s. placed-is-in bit s.offset s.size;
}
