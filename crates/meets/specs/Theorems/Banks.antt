-- `bankdef::check`: the definition says the sentences of Banks (`check-meets`), and they leave one answer (`check-decides`).
use Rattle.std.specs.Prelude.{◌≡◌, refl, true, false, List, ℕ, ◌≤◌, ◌<◌, min, leb, length, get_or, Some}
use Rattle.std.proofs.Common.{sym, ap, ◌∙◌, inl, inr, ⊎_elim, arith, leb-true, leb-false, length-take, get_or-take}
use Rattle.prelude.specs.Laws.Bools.{either, both}
use Rattle.prelude.specs.Told.{gives, refuses, nothing, told_verdict}
use Rattle.prelude.specs.declared.Place.TheVariants.{One, Two}
use Rattle.prelude.specs.Verdict.{Verdict}
use Rattle.bankdef.specs.declared.Bankdef.{Bankdef}
use Rattle.bankdef.specs.declared.Bankdefs.{Bankdefs}
use Rattle.bankdef.specs.Check.{no_bank, banks_of, count_sound, check_of}
use Rattle.bankdef.specs.Numbers as numbers
use Rattle.bankdef.specs.Numbers.{Faulty, fault_at}
use Rattle.bankdef.specs.Theorems.Numbers.{fault-exactly}
use Rattle.bankdef.specs.Pairs.{OverlapAt}
use Rattle.bankdef.specs.Refused as by
use Rattle.bankdef.specs.Refused.{NoFault, Decided}
use Rattle.bankdef.specs.Theorems.Refused.{decided}
use Rattle.says.specs.Banks as says
use Rattle.says.specs.Banks.{Fault}
use Rattle.meets.specs.Table.{Has, Bank, CountOutside, AtFault, Overlapping, CheckSays}
use Rattle.meets.specs.Laws.Lists.{any-default}
use Rattle.meets.specs.Laws.Meets.{itself, meet, met}
use Rattle.meets.specs.Laws.Words.{OneOnly, tries-one, is_one, first_one, first-pair-one}
use Rattle.says.specs.Words.{refused, passed, is, First, FirstPair}

-- ---- they leave one answer

module _ (t : Bankdefs) where
  pub check-decides : OneOnly (CheckSays t)
  check-decides =
      tries-one (CountOutside t) (λ _. refuses 1 (One 0)) _ (λ a b m n. refl)
      (tries-one (First (AtFault t)) (λ i. refuses 2 (One i)) _ (λ i j f g. ap (λ (k : ℕ). refuses 2 (One k)) (first_one (AtFault t) i j f g))
      (tries-one (λ (p : ℕ × ℕ). FirstPair (Overlapping t) p.0 p.1) (λ p. refuses 3 (Two p.0 p.1)) _
      (λ p q f g. let e = first-pair-one (Overlapping t) p.0 p.1 q.0 q.1 f g in rw (e.0, e.1))
      (is_one (gives nothing))))

-- ---- the definition says them

-- What the types of a bank's record hold, u16 and u32: no other record reaches the call.
pub record Held (b : Bankdef) : Type 0 where
  pub unit : b.unit ≤ 65535
  pub size : (m : ℕ) → b.size ≡ Some m → m ≤ 4294967295
  pub offset : (o : ℕ) → b.offset ≡ Some o → o ≤ 4294967295
  pub align : (a : ℕ) → b.align ≡ Some a → a ≤ 4294967295

-- bank i of this record is refused
abbrev FaultIn : ℕ → Bankdef → Type 0
FaultIn i b = Fault i b.unit b.start (Has b.size) (Has b.offset) (Has b.align) (b.fill ≡ true) b.fill_bit

faulty : (i : ℕ) (b : Bankdef) → Held b → FaultIn i b → Faulty i b
faulty i b h (says.unit-zero e) = numbers.no-unit e
faulty i b h (says.unit-past e) = absurd (omega (arith, h.unit))
faulty i b h (says.start-far e) = numbers.far-start e
faulty i b h (says.size-past {m} e f) = absurd (omega (arith, h.size m e))
faulty i b h (says.offset-past {o} e f) = absurd (omega (arith, h.offset o e))
faulty i b h (says.align-past {a} e f) = absurd (omega (arith, h.align a e))
faulty i b h (says.filled-empty e f) = numbers.filled-empty e f
faulty i b h (says.bit_past e) = numbers.no-bit e
faulty i b h (says.bit-of-bank-0 e f) = numbers.bank-0-one e f

fault : (i : ℕ) (b : Bankdef) → Faulty i b → FaultIn i b
fault i b (numbers.no-unit e) = says.unit-zero e
fault i b (numbers.far-start e) = says.start-far e
fault i b (numbers.no-bit e) = says.bit_past e
fault i b (numbers.filled-empty e f) = says.filled-empty e f
fault i b (numbers.bank-0-one e f) = says.bit-of-bank-0 e f

module _ (t : Bankdefs) (held : (i : ℕ) (b : Bankdef) → Bank t i b → Held b) where
  abbrev l : List Bankdef
  l = banks_of t

  abbrev at : ℕ → Bankdef
  at i = get_or l i no_bank

  there : (i : ℕ) (b : Bankdef) → Bank t i b → (i < length l) × (at i ≡ b)
  there i b k = (
    rw length-take (omega (arith, k.0, k.1.0)),
    get_or-take t.len t.defs i no_bank k.0 ∙ any-default t.defs i no_bank b k.1.0 ∙ k.1.1,
  )

  bank : (i : ℕ) → i < length l → Bank t i (at i)
  bank i h =
      let k : i < min t.len (length t.defs) = rw length-take at h in
      (omega arith, (omega arith, any-default t.defs i (at i) no_bank (omega arith) ∙ sym (get_or-take t.len t.defs i no_bank (omega arith))))

  at-fault : (i : ℕ) → i < length l → fault_at i (at i) ≡ true → AtFault t i
  at-fault i h e = (at i, bank i h, fault i (at i) ((fault-exactly i (at i)).0 e))

  faults : (i : ℕ) → AtFault t i → (i < length l) × (fault_at i (at i) ≡ true)
  faults i f =
      let k = there i f.0 f.1 in
      (k.0, (fault-exactly i (at i)).1 (rw k.1 (faulty i f.0 (held i f.0 f.1) f.2)))

  overlapping : (i j : ℕ) → OverlapAt l i j → Overlapping t i j
  overlapping i j m = (
    at i,
    at j,
    m.not-bank-0,
    m.rising,
    bank i (omega (arith, m.rising, m.there)),
    bank j m.there,
    meet (itself (at i).offset) (itself (at i).size) (itself (at j).offset) (itself (at j).size) m.o m.p m.first-offset m.second-offset
        m.overlap,
  )

  overlaps : (i j : ℕ) → Overlapping t i j → OverlapAt l i j
  overlaps i j s =
      let a = there i s.0 s.4 in
      let b = there j s.1 s.5 in
      let m = met (itself s.0.offset) (itself s.0.size) (itself s.1.offset) (itself s.1.size) s.6 in
      record {
        not-bank-0 = s.2;
        rising = s.3;
        there = b.0;
        o = m.0;
        p = m.1;
        first-offset = ap (λ (x : Bankdef). x.offset) a.1 ∙ m.2;
        second-offset = ap (λ (x : Bankdef). x.offset) b.1 ∙ m.3;
        overlap = rw (a.1, b.1) m.4;
      }

  outside : count_sound t.len ≡ false → CountOutside t tt
  outside e = either (leb 1 t.len)
      (λ f. inr (leb-false t.len 16 (rw f at e)))
      (λ f. inl (leb-false 1 t.len f))

  inside : count_sound t.len ≡ true → (x : Unit {0}) → CountOutside t x → ⊥
  inside e x o =
      let h = both (leb 1 t.len) (leb t.len 16) e in
      ⊎_elim (λ lt. omega (arith, leb-true 1 t.len h.0)) (λ lt. omega (arith, leb-true t.len 16 h.1)) o

  no-fault : NoFault l → (i : ℕ) → First (AtFault t) i → ⊥
  no-fault n i f = let k = faults i f.so in n i k.0 k.1

  by_cases : {v : Verdict} → Decided t v → CheckSays t (told_verdict v)
  by_cases (by.count e) = refused tt (outside e)
  by_cases (by.number {i} e f) = passed (inside e) (refused i (record {
    so = at-fault i f.there f.fault;
    none_below = λ k s. let g = faults k s in f.no-earlier k g.0 g.1;
  }))
  by_cases (by.pair {i} {j} e n f) = passed (inside e) (passed (no-fault n) (refused (i, j) (record {
    so = overlapping i j f.at;
    none_before = λ c d s. f.no-earlier c d (overlaps c d s);
  })))
  by_cases (by.sound e n f) = passed (inside e) (passed (no-fault n) (passed (λ p g. f p.0 p.1 (overlaps p.0 p.1 g.so)) is))

  pub check-meets : CheckSays t (told_verdict (check_of t))
  check-meets = by_cases (decided t)
