-- The table of banks that the library makes of what is given: when it has no banks, a bank's record field by field, and the first bank at fault and the
-- first pair that overlaps are those of the sentences.
use Rattle.std.specs.Prelude.{◌≡◌, true, false, not, ◌⊎◌, ℕ, ◌-◌, ◌/◌, ◌%◌, ◌≤◌, ◌<◌, min, eqb, leb, length, get_or, replicate, Some, None}
use Rattle.std.proofs.Math.Path.{refl}
use Rattle.std.proofs.Common.{sym, ap, subst, ◌∙◌, inl, inr, div-one, arith, length-append, length-take, get_or-take, eqb-true, eq-eqb, ne_eqb, leb-true, leb-false, le-leb}
use Rattle.std.proofs.Math.ListN.{get_or-append}
use Rattle.std.proofs.lemmas.Bool.{eqb-false, lt-leb, not-true}
use Rattle.prelude.specs.Laws.Bools.{either, clash, both, unlike}
use Rattle.prelude.specs.Limits.{max_banks, max_start}
use Rattle.prelude.specs.Pick.{pick}
use Rattle.prelude.specs.Verdict.{Accepted}
use Rattle.bankdef.specs.Check.{banks_of, count_sound, check_of, no_bank}
use Rattle.bankdef.specs.Numbers as numbers
use Rattle.bankdef.specs.Numbers.{Faulty, SoundBank}
use Rattle.bankdef.specs.Overlap.{ranges_overlap}
use Rattle.bankdef.specs.Pairs.{OverlapAt}
use Rattle.bankdef.specs.Theorems.Refused.{accepted}
use Rattle.bankdef.specs.declared.Bankdef.{Bankdef}
use Rattle.bankdef.specs.declared.Bankdefs.{Bankdefs}
use Rattle.iter.specs.Distance.{size_of, tellable}
use Rattle.form_fields.specs.Banks.{is_set, opt_of}
use Rattle.form_fields.specs.Columns.{column}
use Rattle.form_fields.specs.Laws.Columns.{column-length, column-at}
use Rattle.resolver.specs.Laws.NeverFour.{listed-tells}
use Rattle.resolver.specs.Once.{bank_record}
use Rattle.c_tables.specs.Tables as made
use Rattle.c_tables.specs.Tables.{given, unit_of, bank_of, bank_in, banks_in, agree, count_of, table_of}
use Rattle.says.specs.Banks as bank
use Rattle.meets.specs.Laws.Meets.{Shows, meet, met}
use Rattle.says.specs.Build as says
use Rattle.says.specs.Build.{Given, banks, unit, start, flag, fill_bit, Size, Offset, NoBanks, BadBank}
use Rattle.says.specs.Words.{Not}
use Rattle.says.specs.Build.{Overlap}
use Rattle.meets_sentences.specs.Typed.{Typed}
use Rattle.meets_build.specs.Laws.Shown.{Shown, Tells}

-- ---- a number behind a flag

some_same : {a b : ℕ} → Some a ≡ Some b → a ≡ b
some_same e = cc

some-apart : {a : ℕ} → None ≡ Some a → ⊥
some-apart e = unlike cc

module _ (f k n : ℕ) where
  opt-when : f / k % 2 ≡ 1 → opt_of f k n ≡ Some n
  opt-when e = rw (eq-eqb (f / k % 2) 1 e)

  opt-unless : (f / k % 2 ≡ 1 → ⊥) → opt_of f k n ≡ None
  opt-unless e = rw (ne_eqb (f / k % 2) 1 e)

  opt-some : (a : ℕ) → opt_of f k n ≡ Some a → (f / k % 2 ≡ 1) × (a ≡ n)
  opt-some a e =
      either (eqb (f / k % 2) 1)
      (λ t. let h = eqb-true (f / k % 2) 1 t in (h, some_same (sym e ∙ opt-when h)))
      (λ t. absurd (some-apart (sym (opt-unless (eqb-false (f / k % 2) 1 t)) ∙ e)))

  opt_none : opt_of f k n ≡ None → f / k % 2 ≡ 1 → ⊥
  opt_none e h = some-apart (sym e ∙ opt-when h)

unit-when : (u f : ℕ) → 0 < unit_of u f → (f ≤ 15) × (unit_of u f ≡ u)
unit-when u f h = either (leb f 15) (λ t. (leb-true f 15 t, rw t)) (λ t. absurd (let z : 0 < 0 = rw t at h in let b : ⊥ = omega arith in b))

module _ (g : Given) where
  abbrev lent : made.Given
  lent = given g.units g.starts g.bank_sizes g.bank_offsets g.aligns g.flags g.fill_bits

  abbrev pub table : Bankdefs
  table = table_of lent

  -- ---- the count

  agree-some : (a b c : ℕ) → 1 ≤ agree a b c → (a ≡ b) × (agree a b c ≡ c)
  agree-some a b c h = either (eqb a b) (λ t. (eqb-true a b t, rw t)) (λ t. absurd (let z : 1 ≤ 0 = rw t at h in let b : ⊥ = omega arith in b))

  abbrev len : ℕ
  len = length g.units

  abbrev c1 : ℕ
  c1 = agree (length g.starts) len len

  abbrev c2 : ℕ
  c2 = agree (length g.bank_sizes) len c1

  abbrev c3 : ℕ
  c3 = agree (length g.bank_offsets) len c2

  abbrev c4 : ℕ
  c4 = agree (length g.aligns) len c3

  abbrev c5 : ℕ
  c5 = agree (length g.flags) len c4

  -- lists of the same length
  record Agree : Type 0 where
    starts : length g.starts ≡ len
    sizes : length g.bank_sizes ≡ len
    offsets : length g.bank_offsets ≡ len
    aligns : length g.aligns ≡ len
    flags : length g.flags ≡ len
    bits : length g.fill_bits ≡ len
    count : count_of lent ≡ len

  agrees : 1 ≤ count_of lent → Agree
  unfolding count_of
  agrees h =
      let a6 = agree-some (length g.fill_bits) len c5 h in
      let h5 : 1 ≤ c5 = omega (arith, a6.1) in
      let a5 = agree-some (length g.flags) len c4 h5 in
      let h4 : 1 ≤ c4 = omega (arith, a5.1) in
      let a4 = agree-some (length g.aligns) len c3 h4 in
      let h3 : 1 ≤ c3 = omega (arith, a4.1) in
      let a3 = agree-some (length g.bank_offsets) len c2 h3 in
      let h2 : 1 ≤ c2 = omega (arith, a3.1) in
      let a2 = agree-some (length g.bank_sizes) len c1 h2 in
      let h1 : 1 ≤ c1 = omega (arith, a2.1) in
      let a1 = agree-some (length g.starts) len len h1 in
      record {
        starts = a1.0;
        sizes = a2.0;
        offsets = a3.0;
        aligns = a4.0;
        flags = a5.0;
        bits = a6.0;
        count = a6.1 ∙ a5.1 ∙ a4.1 ∙ a3.1 ∙ a2.1 ∙ a1.1;
      }

  agree-when : (a b c : ℕ) → a ≡ b → agree a b c ≡ c
  agree-when a b c e = rw (eq-eqb a b e)

  all-agree : length g.starts ≡ len → length g.bank_sizes ≡ len → length g.bank_offsets ≡ len → length g.aligns ≡ len → length g.flags ≡ len
      → length g.fill_bits ≡ len → count_of lent ≡ len
  unfolding count_of
  all-agree s m o a f b =
      agree-when (length g.fill_bits) len c5 b ∙ agree-when (length g.flags) len c4 f ∙ agree-when (length g.aligns) len c3 a
      ∙ agree-when (length g.bank_offsets) len c2 o ∙ agree-when (length g.bank_sizes) len c1 m ∙ agree-when (length g.starts) len len s

  -- 1: "the bank count is outside 1 to 16"
  pub no-banks-when : count_sound table.len ≡ false → NoBanks g
  no-banks-when e =
      either (eqb (length g.starts) len) (λ s.
      either (eqb (length g.bank_sizes) len) (λ m.
      either (eqb (length g.bank_offsets) len) (λ o.
      either (eqb (length g.aligns) len) (λ a.
      either (eqb (length g.flags) len) (λ f.
      either (eqb (length g.fill_bits) len) (λ b.
      let same = all-agree (eqb-true (length g.starts) len s) (eqb-true (length g.bank_sizes) len m) (eqb-true (length g.bank_offsets) len o)
      (eqb-true (length g.aligns) len a) (eqb-true (length g.flags) len f) (eqb-true (length g.fill_bits) len b) in
      either (leb 1 (count_of lent))
      (λ t. says.too_many (let q = leb-false (count_of lent) 16 (rw t at e) in omega arith))
      (λ t. says.too_few (let q = leb-false 1 (count_of lent) t in omega arith)))
      (λ b. says.lists-differ (λ t. eqb-false (length g.fill_bits) len b t.5)))
      (λ f. says.lists-differ (λ t. eqb-false (length g.flags) len f t.4)))
      (λ a. says.lists-differ (λ t. eqb-false (length g.aligns) len a t.3)))
      (λ o. says.lists-differ (λ t. eqb-false (length g.bank_offsets) len o t.2)))
      (λ m. says.lists-differ (λ t. eqb-false (length g.bank_sizes) len m t.1)))
      (λ s. says.lists-differ (λ t. eqb-false (length g.starts) len s t.0))

  module _ (sound : count_sound table.len ≡ true) where
    counts : (leb 1 table.len ≡ true) × (leb table.len 16 ≡ true)
    counts = both (leb 1 table.len) (leb table.len 16) sound

    least : 1 ≤ count_of lent
    least = leb-true 1 table.len counts.0

    most : count_of lent ≤ 16
    most = leb-true table.len 16 counts.1

    all : Agree
    all = agrees least

    pub no-banks-only : NoBanks g → ⊥
    no-banks-only (says.too_few h) = omega (arith, least, all.count)
    no-banks-only (says.too_many h) = omega (arith, most, all.count)
    no-banks-only (says.lists-differ h) = h (all.starts, all.sizes, all.offsets, all.aligns, all.flags, all.bits)

    pub as_many : table.len ≡ banks g
    as_many = all.count

    -- ---- a record

    few : min (count_of lent) max_banks ≡ count_of lent
    few = omega (arith, most)

    pub whole : table.len ≤ length table.defs
    whole =
        let l = length-append (banks_in lent (min (count_of lent) max_banks)) (replicate (max_banks - min (count_of lent) max_banks) no_bank) in
        let m = column-length (bank_in lent) 1 0 (min (count_of lent) max_banks) in
        omega (arith, l, m, few)

    pub long : length (banks_of table) ≡ banks g
    long = let l = length-take table.len table.defs in omega (arith, l, whole, as_many)

    pub record_is : (b : ℕ) → b < table.len → bank_record table b ≡ bank_in lent b
    record_is b h =
        let n = min (count_of lent) max_banks in
        let m = column-length (bank_in lent) 1 0 n in
        get_or-take table.len table.defs b no_bank h
        ∙ get_or-append (banks_in lent n) (replicate (max_banks - n) no_bank) no_bank b (omega (arith, m, few))
        ∙ column-at (bank_in lent) 1 no_bank 0 n b (omega (arith, few)) ∙ ap (bank_in lent) (omega arith)

  -- ---- bank b, field by field

  module _ (b : ℕ) where
    abbrev pub record_of : Bankdef
    record_of = bank_of (unit g b) (start g b) (get_or g.bank_sizes b 0) (get_or g.bank_offsets b 0) (get_or g.aligns b 0) (flag g b) (fill_bit g b)

    in-fields : bank_in lent b ≡ record_of
    unfolding bank_in
    in-fields = refl

    size-some : (m : ℕ) → record_of.size ≡ Some m → Size g b m
    size-some m e = let x = opt-some (flag g b) 1 (get_or g.bank_sizes b 0) m e in (sym (ap (λ (f : ℕ). f % 2) (div-one (flag g b))) ∙ x.0, x.1)

    size-when : (m : ℕ) → Size g b m → record_of.size ≡ Some m
    size-when m s =
        opt-when (flag g b) 1 (get_or g.bank_sizes b 0) (ap (λ (f : ℕ). f % 2) (div-one (flag g b)) ∙ s.0) ∙ ap Some (sym s.1)

    offset-some : (o : ℕ) → record_of.offset ≡ Some o → Offset g b o
    offset-some o e = opt-some (flag g b) 2 (get_or g.bank_offsets b 0) o e

    offset-when : (o : ℕ) → Offset g b o → record_of.offset ≡ Some o
    offset-when o s = opt-when (flag g b) 2 (get_or g.bank_offsets b 0) s.0 ∙ ap Some (sym s.1)

    size-shown : Shows record_of.size (Size g b)
    size-shown = record { has = size-some; only = size-when }

    offset-shown : Shows record_of.offset (Offset g b)
    offset-shown = record { has = offset-some; only = offset-when }

    -- 2: "a bank number is beyond its limit, or a filled bank has size 0"
    bad-unit : unit_of (unit g b) (flag g b) ≡ 0 → BadBank g b
    bad-unit e =
        either (leb (flag g b) 15) (λ t. says.beyond (bank.unit-zero (let z : unit g b ≡ 0 = rw t at e in z)))
        (λ t. says.flags-past (leb-false (flag g b) 15 t))

    pub bad-of : Faulty b record_of → BadBank g b
    bad-of (numbers.no-unit e) = bad-unit e
    bad-of (numbers.far-start e) = says.beyond (bank.start-far e)
    bad-of (numbers.no-bit e) = says.beyond (bank.bit_past e)
    bad-of (numbers.filled-empty e f) = says.beyond (bank.filled-empty (eqb-true (flag g b / 8 % 2) 1 e) (size-some 0 f))
    bad-of (numbers.bank-0-one e f) = says.beyond (bank.bit-of-bank-0 e f)

    no-unit : (u f : ℕ) → (u ≡ 0) ⊎ (15 < f) → unit_of u f ≡ 0
    no-unit u f (inl e) = either (leb f 15) (λ t. rw t e) (λ t. rw t)
    no-unit u f (inr l) = rw (lt-leb f 15 l)

    pub faulty-of : Typed g → BadBank g b → Faulty b record_of
    faulty-of t (says.beyond (bank.unit-zero e)) = numbers.no-unit (no-unit (unit g b) (flag g b) (inl e))
    faulty-of t (says.beyond (bank.unit-past e)) = absurd (omega (arith, t.units b))
    faulty-of t (says.beyond (bank.start-far e)) = numbers.far-start e
    faulty-of t (says.beyond (bank.size-past s e)) = absurd (omega (arith, t.sizes b, s.1))
    faulty-of t (says.beyond (bank.offset-past s e)) = absurd (omega (arith, t.offsets b, s.1))
    faulty-of t (says.beyond (bank.align-past s e)) = absurd (omega (arith, t.aligns b, s.1))
    faulty-of t (says.flags-past e) = numbers.no-unit (no-unit (unit g b) (flag g b) (inr e))
    faulty-of t (says.beyond (bank.filled-empty e s)) = numbers.filled-empty (eq-eqb (flag g b / 8 % 2) 1 e) (size-when 0 s)
    faulty-of t (says.beyond (bank.bit_past e)) = numbers.no-bit e
    faulty-of t (says.beyond (bank.bit-of-bank-0 e f)) = numbers.bank-0-one e f

  module _ (sound : count_sound table.len ≡ true) where
    pub record_of_lem : (b : ℕ) → b < table.len → bank_record table b ≡ record_of b
    record_of_lem b h = record_is sound b h ∙ in-fields b

    -- ---- the first pair

    pub overlap-of : (i j : ℕ) → OverlapAt (banks_of table) i j → Overlap g i j
    overlap-of i j m =
        let count = long sound in
        let many = as_many sound in
        let jn : j < table.len = omega (arith, m.there) in
        let ri = record_of_lem i (omega (arith, m.rising)) in
        let rj = record_of_lem j jn in
        let e : ranges_overlap m.o (record_of i).size m.p (record_of j).size ≡ true =
        ap (λ (d : Bankdef). ranges_overlap m.o (record_of i).size m.p d.size) (sym rj)
        ∙ ap (λ (d : Bankdef). ranges_overlap m.o d.size m.p (bank_record table j).size) (sym ri) ∙ m.overlap in
        says.overlap m.not-bank-0 m.rising (omega arith)
        (meet (offset-shown i) (size-shown i) (offset-shown j) (size-shown j) m.o m.p (sym (ap (λ (d : Bankdef). d.offset) ri) ∙ m.first-offset)
        (sym (ap (λ (d : Bankdef). d.offset) rj) ∙ m.second-offset) e)

    pub overlap-at : (i j : ℕ) → Overlap g i j → OverlapAt (banks_of table) i j
    overlap-at i j (says.overlap some rising there x) =
        let many = as_many sound in
        let ri = record_of_lem i (omega arith) in
        let rj = record_of_lem j (omega arith) in
        let (o, p, e, f, over) = met (offset-shown i) (size-shown i) (offset-shown j) (size-shown j) x in
        record {
          not-bank-0 = some;
          rising = rising;
          there = omega (arith, long sound);
          o = o;
          p = p;
          first-offset = ap (λ (d : Bankdef). d.offset) ri ∙ e;
          second-offset = ap (λ (d : Bankdef). d.offset) rj ∙ f;
          overlap =
              ap (λ (d : Bankdef). ranges_overlap o d.size p (bank_record table j).size) ri
              ∙ ap (λ (d : Bankdef). ranges_overlap o (record_of i).size p d.size) rj ∙ over;
        }

  -- ---- an accepted table

  -- The table stands for what is given.
  pub shown : Typed g → check_of table ≡ Accepted → Shown g table
  shown typed e =
      let s = accepted table e in
      let sound : count_sound table.len ≡ true = rw (le-leb 1 table.len s.least, le-leb table.len 16 s.most) in
      record {
        count = as_many sound;
        whole = whole sound;
        tells = λ b h. tells-of b h sound;
        typed = typed.numbers;
      }
    where
      unit-some : (b : ℕ) → tellable (record_of b) ≡ true → 0 < unit_of (unit g b) (flag g b)
      unit-some b t =
          let u = both (not (eqb (unit_of (unit g b) (flag g b)) 0)) (leb (size_of (start g b)) max_start) t in
          omega (arith, eqb-false (unit_of (unit g b) (flag g b)) 0 (not-true (eqb (unit_of (unit g b) (flag g b)) 0) u.0))

      tells-of : (b : ℕ) → b < table.len → count_sound table.len ≡ true → Tells g b (bank_record table b)
      tells-of b h sound =
          let is = record_of_lem sound b h in
          let t : tellable (record_of b) ≡ true = subst (λ (d : Bankdef). tellable d ≡ true) is (listed-tells table e (whole sound) b h) in
          subst (Tells g b) (sym is) (record {
            told = t;
            of-unit = (unit-when (unit g b) (flag g b) (unit-some b t)).1;
            of-start = refl;
            aligned = λ a f. opt-some (flag g b) 4 (get_or g.aligns b 0) a f;
            unaligned = λ f. opt_none (flag g b) 4 (get_or g.aligns b 0) f;
            sized = size-some b;
            has-size = size-when b;
            placed = offset-some b;
            has-offset = offset-when b;
            filled = eqb-true (flag g b / 8 % 2) 1;
            has-fill = eq-eqb (flag g b / 8 % 2) 1;
            of-bit = refl;
          })
