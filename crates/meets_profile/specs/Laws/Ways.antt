-- The ways that tries of 1 to 4 and of the rules go: something is refused, with its number and place, or all of them are passed. What no first breaks, none
-- breaks: the rules as tries, and as Ticket 9 says them.
use Rattle.std.specs.Prelude.{◌≡◌, refl, ◌⊎◌, ℕ, ◌%◌, ◌≤◌, ◌<◌, eqb, get_or}
use Rattle.std.proofs.Common.{inl, inr, ⊎_elim, arith, eqb-true}
use Rattle.std.proofs.lemmas.Bool.{eqb-false}
use Rattle.prelude.specs.Laws.Bools.{either}
use Rattle.build_profile.specs.OneBit.{one_bit}
use Rattle.build_profile.specs.Theorems.OneBit.{one-bit-power}
use Rattle.build_profile.specs.Rules.{multiple}
use Rattle.says.specs.Words.{Tries, refused, passed, First}
use Rattle.says.specs.Build.{Given, banks, unit, flag, Size, Offset, nodes, BadBank, Overlap, BadField, BadNode}
use Rattle.says.specs.Words.{Not}
use Rattle.meets_sentences.specs.Laws.First.{none_at_all, no-pair-at-all}
use Rattle.says.specs.Profile as p
use Rattle.says.specs.Profile.{OneBit, Multiple, FirstBank, FirstNode, Checks, Rules, BadLabel, BadAlign, BadOffset, BadSize, BadUnit, BadAddr}
use Rattle.meets_profile.specs.Ticket9 as t
use Rattle.meets_profile.specs.Ticket9.{Sound, Holds, Breaks, Names}
use Rattle.meets_profile.specs.Laws.Ruled.{not-one, whole-when, not-whole}
use Rattle.meets_profile.specs.Laws.Tried.{Clear, Keeps}

-- one try
try-way : {X Y : Type 0} {Met : X → Type 0} {refusal : X → Y} {Then : Y → Type 0} (So : Y → Type 0) (y : Y) → ((x : X) → Met x → So (refusal x))
    → (((x : X) → Met x → ⊥) → Then y → So y) → Tries Met refusal Then y → So y
try-way So y each then (refused x m) = each x m
try-way So y each then (passed none t) = then none t

one-or-not : (n : ℕ) → Not (Not (OneBit n)) → OneBit n
one-or-not n h = either (one_bit n) (λ e. (one-bit-power n).0 e) (λ e. absurd (h (not-one n e)))

whole-or-not : (m n : ℕ) → Not (Not (Multiple m n)) → Multiple m n
whole-or-not m n h = either (multiple n m) (λ e. whole-when m n e) (λ e. absurd (h (not-whole m n e)))

module _ (g : Given) where
  -- What holds of every refusal 1 to 4, and of what comes then where none is met, holds.
  pub checks-way : {Y : Type 0} (refusal : (number place second : ℕ) → Y) {Then : Y → Type 0} (So : Y → Type 0) (y : Y)
      → ((number place second : ℕ) → 1 ≤ number → number ≤ 4 → Not (Sound g) → So (refusal number place second)) → (Clear g → Then y → So y)
      → Checks g refusal Then y → So y
  checks-way refusal So y each then =
      try-way So y (λ x m. each 1 0 0 (omega arith) (omega arith) (λ s. s.counted m)) (λ n1.
      try-way So y (λ b f. each 2 b 0 (omega arith) (omega arith) (λ s. s.banked b f.so.0 f.so.1)) (λ n2.
      try-way So y (λ w f. each 3 w.0 w.1 (omega arith) (omega arith) (λ s. s.apart w.0 w.1 f.so)) (λ n3.
      try-way So y (λ k f. each 4 k 0 (omega arith) (omega arith) (λ s. s.fielded k f.so)) (λ n4.
      try-way So y (λ i f. each 4 i 0 (omega arith) (omega arith) (λ s. s.noded i f.so.0 f.so.1)) (λ n5.
      then (record { counted = n1; banked = n2; apart = n3; fielded = n4; noded = n5 }))))))

  pub sound-clear : Sound g → Clear g
  sound-clear s = record {
    counted = λ x n. s.counted n;
    banked = λ b f. s.banked b f.so.0 f.so.1;
    apart = λ w f. s.apart w.0 w.1 f.so;
    fielded = λ k f. s.fielded k f.so;
    noded = λ i f. s.noded i f.so.0 f.so.1;
  }

  pub clear-sound : Clear g → Sound g
  clear-sound c = record {
    counted = λ n. c.counted tt n;
    banked = λ b h bad. none_at_all (λ b. (b < banks g) × BadBank g b) c.banked b (h, bad);
    apart = no-pair-at-all (Overlap g) (λ i j f. c.apart (i, j) f);
    fielded = none_at_all (BadField g) c.fielded;
    noded = λ i h bad. none_at_all (λ i. (i < nodes g) × BadNode g i) c.noded i (h, bad);
  }

  module _ (page : ℕ) where
    -- ---- no rule is broken: as tries, and as the ticket says it

    module _ (k : Keeps g page) where
      no_label : (b : ℕ) → b < banks g → Not (BadLabel g b)
      no_label b h bad = none_at_all (λ b. (b < banks g) × BadLabel g b) k.labels b (h, bad)

      no-align : (i : ℕ) → i < nodes g → Not (BadAlign g i)
      no-align i h bad = none_at_all (λ i. (i < nodes g) × BadAlign g i) k.aligns i (h, bad)

      no-offset : (b : ℕ) → b < banks g → Not (BadOffset g page b)
      no-offset b h bad = none_at_all (λ b. (b < banks g) × BadOffset g page b) k.offsets b (h, bad)

      no_size : (b : ℕ) → b < banks g → Not (BadSize g page b)
      no_size b h bad = none_at_all (λ b. (b < banks g) × BadSize g page b) k.sizes b (h, bad)

      no-unit : (b : ℕ) → b < banks g → Not (BadUnit g b)
      no-unit b h bad = none_at_all (λ b. (b < banks g) × BadUnit g b) k.units b (h, bad)

      no-addr : (i : ℕ) → i < nodes g → Not (BadAddr g i)
      no-addr i h bad = none_at_all (λ i. (i < nodes g) × BadAddr g i) k.addrs i (h, bad)

      has-size : (b o : ℕ) → b < banks g → Offset g b o → (m : ℕ) × Size g b m × Multiple page m
      has-size b o h at =
          either (eqb (flag g b % 2) 1)
          (λ e.
          let m = get_or g.bank_sizes b 0 in
          let s : Size g b m = (eqb-true (flag g b % 2) 1 e, refl) in
          (m, s, whole-or-not page m (λ off. no_size b h (p.ragged at s off))))
          (λ e. absurd (no_size b h (p.no_size at (λ m s. eqb-false (flag g b % 2) 1 e s.0))))

      has-unit : (b : ℕ) → b < banks g → (unit g b ≡ 8) ⊎ (unit g b ≡ 16)
      has-unit b h =
          either (eqb (unit g b) 8) (λ e. inl (eqb-true (unit g b) 8 e)) (λ e.
          either (eqb (unit g b) 16) (λ f. inr (eqb-true (unit g b) 16 f)) (λ f.
          absurd (no-unit b h (eqb-false (unit g b) 8 e, eqb-false (unit g b) 16 f))))

      pub keeps-holds : Holds g page
      keeps-holds = record {
        page-size = one-or-not page (k.page-size tt);
        labels = λ b a h al some. one-or-not a (λ off. no_label b h (p.label al some off));
        aligns = λ i r n h kd rn num some. one-or-not n (λ off. no-align i h (p.align kd rn num some off));
        offsets = λ b o h at. whole-or-not page o (λ off. no-offset b h (p.off-page at off));
        sizes = has-size;
        units = has-unit;
        addrs = λ i b r n h kd at rn num. whole-or-not (unit g b) n (λ off. no-addr i h (p.addr kd at rn num off));
      }

    -- a broken rule is none that holds
    pub breaks-not : {turn rule at : ℕ} → Breaks g page turn rule at → Holds g page → ⊥
    breaks-not (t.by-page off) k = off k.page-size
    breaks-not (t.by-label {b} h (p.label {a} al some off)) k = off (k.labels b a h al some)
    breaks-not (t.by-align {i} h (p.align {r} {v = n} kd rn num some off)) k = off (k.aligns i r n h kd rn num some)
    breaks-not (t.by-offset {b} h (p.off-page {o} at off)) k = off (k.offsets b o h at)
    breaks-not (t.by_size {b} h (p.no_size {o} at none)) k = let s = k.sizes b o h at in none s.0 s.1
    breaks-not (t.by_size {b} h (p.ragged {o} {m} at s off)) k = off (same (k.sizes b o h at))
      where
        same : ((m : ℕ) × Size g b m × Multiple page m) → Multiple page m
        same w = let e : w.0 ≡ m = omega (arith, w.1.1, s.1) in rw (← e) w.2
    breaks-not (t.by-unit {b} h bad) k = ⊎_elim bad.0 bad.1 (k.units b h)
    breaks-not (t.by-addr {i} h (p.addr {b} {r} {v = n} kd at rn num off)) k = off (k.addrs i b r n h kd at rn num)

    pub holds-keeps : Holds g page → Keeps g page
    holds-keeps k = record {
      page-size = λ x off. breaks-not (t.by-page off) k;
      labels = λ b f. breaks-not (t.by-label f.so.0 f.so.1) k;
      aligns = λ i f. breaks-not (t.by-align f.so.0 f.so.1) k;
      offsets = λ b f. breaks-not (t.by-offset f.so.0 f.so.1) k;
      sizes = λ b f. breaks-not (t.by_size f.so.0 f.so.1) k;
      units = λ b f. breaks-not (t.by-unit f.so.0 f.so.1) k;
      addrs = λ i f. breaks-not (t.by-addr f.so.0 f.so.1) k;
    }

    -- ---- the first rule broken

    -- a break of this turn and place does not come before turn k, place at
    abbrev After : (k at turn place : ℕ) → Type 0
    After k at turn place = (k < turn) ⊎ ((k ≡ turn) × (at ≤ place))

    -- no break comes before turn k, place at
    record Before (k at : ℕ) : Type 0 where
      paged : Not (OneBit page) → After k at 1 0
      labels : (b : ℕ) → (b < banks g) × BadLabel g b → After k at 2 b
      aligns : (i : ℕ) → (i < nodes g) × BadAlign g i → After k at 3 i
      offsets : (b : ℕ) → (b < banks g) × BadOffset g page b → After k at 4 b
      sizes : (b : ℕ) → (b < banks g) × BadSize g page b → After k at 5 b
      units : (b : ℕ) → (b < banks g) × BadUnit g b → After k at 6 b
      addrs : (i : ℕ) → (i < nodes g) × BadAddr g i → After k at 7 i

    before : {k at : ℕ} → Before k at → (turn rule place : ℕ) → Breaks g page turn rule place → After k at turn place
    before b turn rule place (t.by-page off) = b.paged off
    before b turn rule place (t.by-label h bad) = b.labels place (h, bad)
    before b turn rule place (t.by-align h bad) = b.aligns place (h, bad)
    before b turn rule place (t.by-offset h bad) = b.offsets place (h, bad)
    before b turn rule place (t.by_size h bad) = b.sizes place (h, bad)
    before b turn rule place (t.by-unit h bad) = b.units place (h, bad)
    before b turn rule place (t.by-addr h bad) = b.addrs place (h, bad)

    names : {turn rule at : ℕ} → Breaks g page turn rule at → Before turn at → Names g page rule at
    names {turn} b none = record { turn = turn; broken = b; first = before none }

    -- a turn that was tried has no break, and the turn itself none below its first
    gone : {So : ℕ → Type 0} → ((x : ℕ) → First So x → ⊥) → (x : ℕ) → So x → ⊥
    gone {So} none x s = none_at_all So none x s

    own : {So : ℕ → Type 0} (k : ℕ) {at : ℕ} → First So at → (x : ℕ) → So x → After k at k x
    own k f x s = inr (refl, f.none_below x s)

    first-1 : Before 1 0
    first-1 = record {
      paged = λ off. inr (refl, omega arith);
      labels = λ x s. inl (omega arith);
      aligns = λ x s. inl (omega arith);
      offsets = λ x s. inl (omega arith);
      sizes = λ x s. inl (omega arith);
      units = λ x s. inl (omega arith);
      addrs = λ x s. inl (omega arith);
    }

    module _ (n1 : (x : Unit {0}) → Not (OneBit page) → ⊥) where
      first-2 : {b : ℕ} → FirstBank g (BadLabel g) b → Before 2 b
      first-2 f = record {
        paged = λ off. absurd (n1 tt off);
        labels = own 2 f;
        aligns = λ x s. inl (omega arith);
        offsets = λ x s. inl (omega arith);
        sizes = λ x s. inl (omega arith);
        units = λ x s. inl (omega arith);
        addrs = λ x s. inl (omega arith);
      }

      module _ (n2 : (b : ℕ) → FirstBank g (BadLabel g) b → ⊥) where
        first-3 : {i : ℕ} → FirstNode g (BadAlign g) i → Before 3 i
        first-3 f = record {
          paged = λ off. absurd (n1 tt off);
          labels = λ x s. absurd (gone n2 x s);
          aligns = own 3 f;
          offsets = λ x s. inl (omega arith);
          sizes = λ x s. inl (omega arith);
          units = λ x s. inl (omega arith);
          addrs = λ x s. inl (omega arith);
        }

        module _ (n3 : (i : ℕ) → FirstNode g (BadAlign g) i → ⊥) where
          first-4 : {b : ℕ} → FirstBank g (BadOffset g page) b → Before 4 b
          first-4 f = record {
            paged = λ off. absurd (n1 tt off);
            labels = λ x s. absurd (gone n2 x s);
            aligns = λ x s. absurd (gone n3 x s);
            offsets = own 4 f;
            sizes = λ x s. inl (omega arith);
            units = λ x s. inl (omega arith);
            addrs = λ x s. inl (omega arith);
          }

          module _ (n4 : (b : ℕ) → FirstBank g (BadOffset g page) b → ⊥) where
            first-5 : {b : ℕ} → FirstBank g (BadSize g page) b → Before 5 b
            first-5 f = record {
              paged = λ off. absurd (n1 tt off);
              labels = λ x s. absurd (gone n2 x s);
              aligns = λ x s. absurd (gone n3 x s);
              offsets = λ x s. absurd (gone n4 x s);
              sizes = own 5 f;
              units = λ x s. inl (omega arith);
              addrs = λ x s. inl (omega arith);
            }

            module _ (n5 : (b : ℕ) → FirstBank g (BadSize g page) b → ⊥) where
              first-6 : {b : ℕ} → FirstBank g (BadUnit g) b → Before 6 b
              first-6 f = record {
                paged = λ off. absurd (n1 tt off);
                labels = λ x s. absurd (gone n2 x s);
                aligns = λ x s. absurd (gone n3 x s);
                offsets = λ x s. absurd (gone n4 x s);
                sizes = λ x s. absurd (gone n5 x s);
                units = own 6 f;
                addrs = λ x s. inl (omega arith);
              }

              first-7 : ((b : ℕ) → FirstBank g (BadUnit g) b → ⊥) → {i : ℕ} → FirstNode g (BadAddr g) i → Before 7 i
              first-7 n6 f = record {
                paged = λ off. absurd (n1 tt off);
                labels = λ x s. absurd (gone n2 x s);
                aligns = λ x s. absurd (gone n3 x s);
                offsets = λ x s. absurd (gone n4 x s);
                sizes = λ x s. absurd (gone n5 x s);
                units = λ x s. absurd (gone n6 x s);
                addrs = own 7 f;
              }

    -- What holds of every answer that names a rule, and of what comes then where none is broken, holds.
    pub rules-way : {Y : Type 0} (broken : (rule at : ℕ) → Y) {Then : Y → Type 0} (So : Y → Type 0) (y : Y)
        → ((rule at : ℕ) → Names g page rule at → So (broken rule at)) → (Keeps g page → Then y → So y) → Rules g page broken Then y → So y
    rules-way broken So y each then =
        try-way So y (λ x off. each 1 0 (names (t.by-page off) first-1)) (λ n1.
        try-way So y (λ b f. each 2 b (names (t.by-label f.so.0 f.so.1) (first-2 n1 f))) (λ n2.
        try-way So y (λ i f. each 2 i (names (t.by-align f.so.0 f.so.1) (first-3 n1 n2 f))) (λ n3.
        try-way So y (λ b f. each 3 b (names (t.by-offset f.so.0 f.so.1) (first-4 n1 n2 n3 f))) (λ n4.
        try-way So y (λ b f. each 4 b (names (t.by_size f.so.0 f.so.1) (first-5 n1 n2 n3 n4 f))) (λ n5.
        try-way So y (λ b f. each 5 b (names (t.by-unit f.so.0 f.so.1) (first-6 n1 n2 n3 n4 n5 f))) (λ n6.
        try-way So y (λ i f. each 6 i (names (t.by-addr f.so.0 f.so.1) (first-7 n1 n2 n3 n4 n5 n6 f))) (λ n7.
        then (record { page-size = n1; labels = n2; aligns = n3; offsets = n4; sizes = n5; units = n6; addrs = n7 }))))))))
