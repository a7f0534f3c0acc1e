-- Theorems about what Numbers defines.
use Rattle.std.specs.Prelude.{◌≡◌, refl, Bool, true, false, not, ◌&&◌, ◌||◌, ◌↔◌, ℕ, ◌<◌, ltb, leb, eqb, ℤ, nat_abs}
use Rattle.std.proofs.Common.{sym, ◌∙◌, arith, ltb-true, ltb-false, lt-ltb, leb-true, leb-false, eqb-true, eq-eqb}
use Rattle.std.proofs.lemmas.Bool.{lt-leb, eqb-false, not-false}
use Rattle.prelude.specs.Laws.Bools.{either, clash, both, neither, or_left, or_right, or_else}
use Rattle.bankdef.specs.Laws.Integers.{between}
use Rattle.prelude.specs.Limits.{max_start}
use Rattle.bankdef.specs.declared.Bankdef.{Bankdef}
use Rattle.bankdef.specs.Laws.Numbers.{zero-size}
use Rattle.bankdef.specs.Numbers.{Faulty, SoundBank, bank-0-one, bank_fault, far-start, fault_at, fill_bit, filled-empty, is_zero, no-bit}
use Rattle.bankdef.specs.Numbers.{no-unit, start_sound, zero_fault}

-- The start's range is a bound on its magnitude.
pub start-by-magnitude : (start : ℤ) → start_sound start ≡ leb (nat_abs start) max_start
start-by-magnitude start = between 1099511627775 start

pub sound-bank : (b : Bankdef) → bank_fault b ≡ false → SoundBank b
sound-bank b e =
    let s = start_sound b.start in
    let u = neither (eqb b.unit 0) (not s || (ltb 1 (fill_bit b) || (b.fill && is_zero b.size))) e in
    let v = neither (not s) (ltb 1 (fill_bit b) || (b.fill && is_zero b.size)) u.1 in
    let w = neither (ltb 1 (fill_bit b)) (b.fill && is_zero b.size) v.1 in
    record {
      unit = omega (arith, eqb-false b.unit 0 u.0);
      start = leb-true (nat_abs b.start) max_start (sym (start-by-magnitude b.start) ∙ not-false s v.0);
      filled = λ f. rw f at w.1;
      bit = ltb-false 1 (fill_bit b) w.0;
    }

past-start : (start : ℤ) → not (start_sound start) ≡ true → max_start < nat_abs start
past-start start e = go (leb (nat_abs start) max_start) refl
  where
    go : (t : Bool) → leb (nat_abs start) max_start ≡ t → max_start < nat_abs start
    go true f = absurd (clash e (rw (start-by-magnitude start, f)))
    go false f = leb-false (nat_abs start) max_start f

module _ (i : ℕ) (b : Bankdef) where
  abbrev size_test : Bool
  size_test = b.fill && is_zero b.size

  abbrev bit_test : Bool
  bit_test = ltb 1 (fill_bit b) || size_test

  abbrev start_test : Bool
  start_test = not (start_sound b.start) || bit_test

  by-record : bank_fault b ≡ true → Faulty i b
  by-record e =
      either (eqb b.unit 0) (λ f. no-unit (eqb-true b.unit 0 f)) (λ f.
      let e1 = or_else (eqb b.unit 0) start_test f e in
      either (not (start_sound b.start)) (λ g. far-start (past-start b.start g)) (λ g.
      let e2 = or_else (not (start_sound b.start)) bit_test g e1 in
      either (ltb 1 (fill_bit b)) (λ h. no-bit (ltb-true 1 (fill_bit b) h)) (λ h.
      let e3 = both b.fill (is_zero b.size) (or_else (ltb 1 (fill_bit b)) size_test h e2) in
      filled-empty e3.0 (zero-size b.size e3.1))))

  -- A fault of the record is one whatever the bank's number.
  pub fault-anywhere : bank_fault b ≡ true → fault_at i b ≡ true
  fault-anywhere e = or_left (bank_fault b) (eqb i 0 && zero_fault b) e

  why : fault_at i b ≡ true → Faulty i b
  why e =
      either (bank_fault b) by-record (λ f.
      let z = both (eqb i 0) (zero_fault b) (or_else (bank_fault b) (eqb i 0 && zero_fault b) f e) in
      bank-0-one (eqb-true i 0 z.0) (eqb-true (fill_bit b) 1 z.1))

  because : Faulty i b → fault_at i b ≡ true
  because (no-unit e) = fault-anywhere (or_left (eqb b.unit 0) start_test (eq-eqb b.unit 0 e))
  because (far-start e) =
      let far : not (start_sound b.start) ≡ true = rw (start-by-magnitude b.start, lt-leb (nat_abs b.start) max_start e) in
      fault-anywhere (or_right (eqb b.unit 0) start_test (or_left (not (start_sound b.start)) bit_test far))
  because (no-bit e) =
      fault-anywhere (or_right (eqb b.unit 0) start_test (or_right (not (start_sound b.start)) bit_test (or_left (ltb 1 (fill_bit b)) size_test
      (lt-ltb 1 (fill_bit b) e))))
  because (filled-empty e f) =
      let s : size_test ≡ true = rw (e, f) in
      fault-anywhere (or_right (eqb b.unit 0) start_test (or_right (not (start_sound b.start)) bit_test (or_right (ltb 1 (fill_bit b)) size_test s)))
  because (bank-0-one e f) = or_right (bank_fault b) (eqb i 0 && zero_fault b) (rw (e, f))

  -- Bank i is at fault exactly for one of these.
  pub fault-exactly : (fault_at i b ≡ true) ↔ Faulty i b
  fault-exactly = (why, because)
