-- The library's six rules are the sentences' rules: what a test refuses breaks the rule, what it passes does not, and the first that is refused is
-- the first that is named.
use Rattle.std.specs.Prelude.{◌≡◌, Bool, true, false, not, ◌||◌, eqb, leb, Err, None, Some, Option}
use Rattle.std.proofs.Math.Path.{refl, subst}
use Rattle.std.proofs.Common.{sym, ap, ◌∙◌, ⊎_elim, div-add-mod', arith, eqb-true, eq-eqb, ne_eqb, leb-true, leb-false}
use Prim.Native.Nat.{ℕ, zero, suc, ◌/◌, ◌%◌, ◌<◌}
use Rattle.std.proofs.Math.Nat.{mul-mod_left}
use Rattle.std.proofs.lemmas.Bool.{eqb-false, not-false}
use Rattle.prelude.specs.Laws.Bools.{either, clash, unlike, neither}
use Rattle.prelude.specs.declared.Refusal.TheVariants.{OffProfile}
use Rattle.prelude.specs.Verdict.{Verdict, Accepted}
use Rattle.bankdef.specs.Theorems.Refused.{accepted}
use Rattle.bankdef.specs.declared.Bankdef.{Bankdef}
use Rattle.nodes.specs.Lists.{first_of}
use Rattle.resolver.specs.Layout.{Checked}
use Rattle.resolver.specs.Once.{bank_record}
use Rattle.sort.specs.Laws.Sorted.{le-or-lt}
use Rattle.build_profile.specs.OneBit.{one_bit}
use Rattle.build_profile.specs.Theorems.OneBit.{one-bit-power}
use Rattle.build_profile.specs.Laws.RuleLaws.{kept-all, first-of, rule-kept, rule-broken}
use Rattle.build_profile.specs.Rules.{aligned, bank_aligned, multiple, on_page, whole_pages, unit_kept, first_broken, all, ruled, number_in}
use Rattle.build_profile.specs.Rules.{aligns_kept, addrs_kept, rules_of}
use Rattle.build_profile.specs.Standing.{bank_before, bank_of_node}
use Rattle.says.specs.Words.{Tries, refused, passed, First}
use Rattle.says.specs.Build as says
use Rattle.says.specs.Build.{Given, banks, unit, nodes, kind, operand, BadNode, In}
use Rattle.says.specs.Words.{Not}
use Rattle.meets_sentences.specs.Laws.One.{in_one, number-one}
use Rattle.meets_sentences.specs.Typed.{Typed}
use Rattle.meets_build.specs.Laws.Shown.{Shown, Tells, listed, number_is}
use Rattle.meets_build.specs.Laws.Table.{table, shown}
use Rattle.says.specs.Profile as p
use Rattle.says.specs.Profile.{OneBit, Multiple, FirstNode, BadLabel, BadAlign, BadOffset, BadSize, BadUnit, BadAddr, Rules}
use Rattle.meets_profile.specs.Laws.Sound.{no-node-bad}
use Rattle.meets_profile.specs.Laws.Tried.{Keeps}

-- ---- a rule over m banks or nodes, by its test

module _ {Y : Type 0} (told : Verdict → Y) (rule n m : ℕ) (same : n ≡ m) (keeps : ℕ → Bool) (Bad : ℕ → Type 0)
    (bad : (k : ℕ) → k < n → keeps k ≡ false → Bad k) (good : (k : ℕ) → k < n → keeps k ≡ true → Bad k → ⊥) where
  abbrev Lowest : ℕ → Type 0
  Lowest = First (λ k. (k < m) × Bad k)

  none-bad : all keeps n ≡ true → (k : ℕ) → Lowest k → ⊥
  none-bad e k f = let h : k < n = omega (arith, f.so.0) in good k h (kept-all keeps n e k h) f.so.1

  rule-says : (Then : Y → Type 0) (rest : Verdict) → (((k : ℕ) → Lowest k → ⊥) → Then (told rest))
      → Tries Lowest (λ k. told (Err (OffProfile rule k))) Then (told (first_of (ruled rule keeps n) rest))
  rule-says Then rest then =
      either (all keeps n)
      (λ e. rw e (passed (none-bad e) (then (none-bad e))))
      (λ e.
      let f = first-of keeps n e in
      let i = first_broken keeps n in
      rw e (refused i (record {
        so = (omega (arith, f.listed), bad i f.listed f.broken);
        none_below = λ k x.
            either (leb i k) (λ t. leb-true i k t) (λ t. absurd (good k (omega (arith, x.0)) (f.before k (leb-false i k t)) x.1));
      })))

-- ---- tests of numbers

pub not-one : (n : ℕ) → one_bit n ≡ false → OneBit n → ⊥
not-one n e h = clash ((one-bit-power n).1 h) e

aligned-false : (a : ℕ) → aligned a ≡ false → (0 < a) × (OneBit a → ⊥)
aligned-false a e =
    let f = neither (eqb a 0) (one_bit a) e in
    (omega (arith, eqb-false a 0 f.0), not-one a f.1)

aligned-true : (a : ℕ) → aligned a ≡ true → 0 < a → OneBit a
aligned-true a e h =
    let some : eqb a 0 ≡ false = ne_eqb a 0 (λ z. omega arith) in
    (one-bit-power a).0 (let f : false || one_bit a ≡ true = rw some at e in f)

pub whole-when : (m x : ℕ) → multiple x m ≡ true → Multiple m x
whole-when m x e = (x / m, let q = div-add-mod' x m in omega (arith, q, eqb-true (x % m) 0 e))

whole-only : (m x : ℕ) → Multiple m x → multiple x m ≡ true
whole-only m x w = eq-eqb (x % m) 0 (ap (λ (y : ℕ). y % m) w.1 ∙ mul-mod_left w.0 m)

pub not-whole : (m x : ℕ) → multiple x m ≡ false → Multiple m x → ⊥
not-whole m x e w = clash (whole-only m x w) e

-- ---- banks

pub some-apart : {a : ℕ} → None ≡ Some a → ⊥
some-apart e = unlike cc

yes-no : {X : Type 0} → true ≡ false → X
yes-no e = absurd (clash refl e)

module _ (g : Given) (b : ℕ) (def : Bankdef) (t : Tells g b def) where
  label-bad : bank_aligned def.align ≡ false → BadLabel g b
  label-bad e = go def.align refl e
    where
      go : (o : Option ℕ) → def.align ≡ o → bank_aligned o ≡ false → BadLabel g b
      go None q f = yes-no f
      go (Some a) q f = let w = aligned-false a f in p.label (t.aligned a q) w.0 w.1

  label-good : bank_aligned def.align ≡ true → BadLabel g b → ⊥
  label-good e (p.label {a} al some off) = go def.align refl e
    where
      go : (o : Option ℕ) → def.align ≡ o → bank_aligned o ≡ true → ⊥
      go None q f = t.unaligned q al.0
      go (Some x) q f =
          let same : x ≡ a = (t.aligned x q).1 ∙ sym al.1 in
          off (subst OneBit same (aligned-true x f (omega arith)))

  module _ (page : ℕ) where
    offset-bad : on_page page def.offset ≡ false → BadOffset g page b
    offset-bad e = go def.offset refl e
      where
        go : (o : Option ℕ) → def.offset ≡ o → on_page page o ≡ false → BadOffset g page b
        go None q f = yes-no f
        go (Some o) q f = p.off-page (t.placed o q) (not-whole page o f)

    offset-good : on_page page def.offset ≡ true → BadOffset g page b → ⊥
    offset-good e (p.off-page {o} at off) =
        off (whole-when page o (sym (ap (on_page page) (t.has-offset o at)) ∙ e))

    size-bad : whole_pages page def.offset def.size ≡ false → BadSize g page b
    size-bad e = go def.offset def.size refl refl e
      where
        go : (o s : Option ℕ) → def.offset ≡ o → def.size ≡ s → whole_pages page o s ≡ false → BadSize g page b
        go None s q r f = yes-no f
        go (Some o) None q r f = p.no_size (t.placed o q) (λ m z. some-apart (sym r ∙ t.has-size m z))
        go (Some o) (Some m) q r f = p.ragged (t.placed o q) (t.sized m r) (not-whole page m f)

    size-good : whole_pages page def.offset def.size ≡ true → BadSize g page b → ⊥
    size-good e (p.no_size {o} at none) = go def.size refl (sym (ap (λ (x : Option ℕ). whole_pages page x def.size) (t.has-offset o at)) ∙ e)
      where
        go : (s : Option ℕ) → def.size ≡ s → whole_pages page (Some o) s ≡ true → ⊥
        go None r f = yes-no (sym f)
        go (Some m) r f = none m (t.sized m r)
    size-good e (p.ragged {o} {m} at sized off) =
        off (whole-when page m (sym (ap (whole_pages page (Some o)) (t.has-size m sized))
        ∙ sym (ap (λ (x : Option ℕ). whole_pages page x def.size) (t.has-offset o at)) ∙ e))

  unit-bad : unit_kept def.unit ≡ false → BadUnit g b
  unit-bad e =
      let f = neither (eqb def.unit 8) (eqb def.unit 16) e in
      (λ q. eqb-false def.unit 8 f.0 (t.of-unit ∙ q), λ q. eqb-false def.unit 16 f.1 (t.of-unit ∙ q))

  unit-good : unit_kept def.unit ≡ true → BadUnit g b → ⊥
  unit-good e bad =
      either (eqb def.unit 8)
      (λ h. bad.0 (sym t.of-unit ∙ eqb-true def.unit 8 h))
      (λ h. bad.1 (sym t.of-unit ∙ eqb-true def.unit 16 (let f : false || eqb def.unit 16 ≡ true = rw h at e in f)))

-- ---- nodes

module _ (g : Given) where
  -- "The walk begins in bank 0": the bank in force at a node
  in-force : (i : ℕ) → In g i (bank_of_node g.kinds g.operands i)
  unfolding bank_before
  in-force zero =
      either (eqb (kind g 0) 1) (λ e. rw e (says.switched (eqb-true (kind g 0) 1 e))) (λ e. rw e (says.first (eqb-false (kind g 0) 1 e)))
  in-force (suc i) =
      either (eqb (kind g (suc i)) 1)
      (λ e. rw e (says.switched (eqb-true (kind g (suc i)) 1 e)))
      (λ e. rw e (says.same (eqb-false (kind g (suc i)) 1 e) (in-force i)))

  -- a node that is of the kind wanted, and a row whose number fails the test
  record RowBad (i want : ℕ) (test : ℕ → Bool) : Type 0 where
    is-kind : kind g i ≡ want
    row : ℕ
    listed-row : row < g.rows
    fails : test (number_in (listed g) row i) ≡ false

  module _ (i want : ℕ) (test : ℕ → Bool) where
    abbrev keeps_row : ℕ → Bool
    keeps_row r = not (eqb (kind g i) want) || test (number_in (listed g) r i)

    rows-bad : all keeps_row g.rows ≡ false → RowBad i want test
    rows-bad e =
        let f = first-of keeps_row g.rows e in
        let r = first_broken keeps_row g.rows in
        let x = neither (not (eqb (kind g i) want)) (test (number_in (listed g) r i)) f.broken in
        record { is-kind = eqb-true (kind g i) want (not-false (eqb (kind g i) want) x.0); row = r; listed-row = f.listed; fails = x.1 }

    rows-good : all keeps_row g.rows ≡ true → kind g i ≡ want → (r : ℕ) → r < g.rows → test (number_in (listed g) r i) ≡ true
    rows-good e k r h =
        let f = kept-all keeps_row g.rows e r h in
        let w : not true || test (number_in (listed g) r i) ≡ true = rw (eq-eqb (kind g i) want k) at f in w

  module _ (i : ℕ) (h : i < nodes g) where
    align-bad : aligns_kept (listed g) i ≡ false → BadAlign g i
    align-bad e =
        let x = rows-bad i 8 aligned e in
        let w = aligned-false (number_in (listed g) x.row i) x.fails in
        p.align x.is-kind x.listed-row (number_is g (table g) x.row i h) w.0 w.1

    align-good : aligns_kept (listed g) i ≡ true → BadAlign g i → ⊥
    align-good e (p.align {r} {v = n} k rn num some off) =
        let same : number_in (listed g) r i ≡ n = number-one g (number_is g (table g) r i h) num in
        off (subst OneBit same (aligned-true (number_in (listed g) r i) (rows-good i 8 aligned e k r rn) (omega arith)))

  -- a node stands in a bank of the table
  pub in_table : ((i : ℕ) → i < nodes g → BadNode g i → ⊥) → 0 < banks g → {i b : ℕ} → In g i b → i < nodes g → b < banks g
  in_table fine some (says.switched {i} k) h =
      ⊎_elim (λ past. absurd (fine i h (says.no-bank k past))) (λ lt. lt) (le-or-lt (banks g) (operand g i))
  in_table fine some (says.first k) h = some
  in_table fine some (says.same k x) h = in_table fine some x (omega arith)

  module _ (typed : Typed g) (c : Checked (table g) (listed g) g.fill) where
    abbrev is : Shown g (table g)
    is = shown g typed c.table

    some-bank : 0 < banks g
    some-bank = omega (arith, is.count, (accepted (table g) c.table).least)

    module _ (i : ℕ) (h : i < nodes g) where
      abbrev here : ℕ
      here = bank_of_node g.kinds g.operands i

      abbrev unit_here : ℕ
      unit_here = (bank_record (table g) here).unit

      unit-here : unit_here ≡ unit g here
      unit-here = (is.tells here (omega (arith, in_table (no-node-bad g typed c) some-bank (in-force i) h, is.count))).of-unit

      addr-bad : addrs_kept (table g) (listed g) i ≡ false → BadAddr g i
      addr-bad e =
          let x = rows-bad i 9 (λ y. multiple y unit_here) e in
          p.addr x.is-kind (in-force i) x.listed-row (number_is g (table g) x.row i h)
          (λ w. not-whole unit_here (number_in (listed g) x.row i) x.fails
          (subst (λ (u : ℕ). Multiple u (number_in (listed g) x.row i)) (sym unit-here) w))

      addr-good : addrs_kept (table g) (listed g) i ≡ true → BadAddr g i → ⊥
      addr-good e (p.addr {b} {r} {v = n} k at rn num off) =
          let same : number_in (listed g) r i ≡ n = number-one g (number_is g (table g) r i h) num in
          let bank : here ≡ b = in_one g (in-force i) at in
          let w : Multiple unit_here (number_in (listed g) r i) =
          whole-when unit_here (number_in (listed g) r i) (rows-good i 9 (λ y. multiple y unit_here) e k r rn) in
          off (subst (λ (u : ℕ). Multiple u n) (unit-here ∙ ap (unit g) bank) (subst (Multiple unit_here) same w))

    -- ---- all six

    module _ (page : ℕ) {Y : Type 0} (told : Verdict → Y) where
      abbrev broken : ℕ → ℕ → Y
      broken rule at = told (Err (OffProfile rule at))

      page-says : (Then : Y → Type 0) (rest : Verdict) → (((x : Unit {0}) → Not (OneBit page) → ⊥) → Then (told rest))
          → Tries (λ (_ : Unit {0}). Not (OneBit page)) (λ _. broken 1 0) Then (told (first_of (ruled 1 (λ k. one_bit page) 1) rest))
      page-says Then rest then =
          either (one_bit page)
          (λ e.
          let one = (one-bit-power page).0 e in
          let v = rule-kept (λ k. one_bit page) (λ k. OneBit page) (λ k. one-bit-power page) 1 1 (λ k h. one) in
          rw v (passed (λ x off. off one) (then (λ x off. off one))))
          (λ e.
          let v = rule-broken (λ k. one_bit page) (λ k. OneBit page) (λ k. one-bit-power page) 1 1 0
          (record { listed = omega arith; breaks = not-one page e; before = λ k h. absurd (omega arith) }) in
          rw v (refused tt (not-one page e)))

      last-alone : (v : Verdict) → first_of v Accepted ≡ v
      last-alone Accepted = refl
      last-alone (Err why) = refl

      abbrev in-bank : (b : ℕ) → b < (table g).len → Tells g b (bank_record (table g) b)
      in-bank b h = is.tells b h

      -- What the library's rules say is what the sentences' rules say.
      pub rules-say : (Then : Y → Type 0) → (Keeps g page → Then (told Accepted)) → Rules g page broken Then (told (rules_of (table g) (listed g) page))
      unfolding rules_of
      rules-say Then then =
          let t = table g in
          let l = listed g in
          let n = (table g).len in
          let m = is.count in
          page-says _ _ (λ n1.
          rule-says told 2 n (banks g) m (λ k. bank_aligned (bank_record t k).align) (BadLabel g)
          (λ k h. label-bad g k (bank_record t k) (in-bank k h)) (λ k h. label-good g k (bank_record t k) (in-bank k h)) _ _ (λ n2.
          rule-says told 2 (nodes g) (nodes g) refl (aligns_kept l) (BadAlign g) align-bad align-good _ _ (λ n3.
          rule-says told 3 n (banks g) m (λ k. on_page page (bank_record t k).offset) (BadOffset g page)
          (λ k h. offset-bad g k (bank_record t k) (in-bank k h) page) (λ k h. offset-good g k (bank_record t k) (in-bank k h) page) _ _ (λ n4.
          rule-says told 4 n (banks g) m (λ k. whole_pages page (bank_record t k).offset (bank_record t k).size) (BadSize g page)
          (λ k h. size-bad g k (bank_record t k) (in-bank k h) page) (λ k h. size-good g k (bank_record t k) (in-bank k h) page) _ _ (λ n5.
          rule-says told 5 n (banks g) m (λ k. unit_kept (bank_record t k).unit) (BadUnit g)
          (λ k h. unit-bad g k (bank_record t k) (in-bank k h)) (λ k h. unit-good g k (bank_record t k) (in-bank k h)) _ _ (λ n6.
          subst (λ (v : Verdict). Tries (FirstNode g (BadAddr g)) (λ i. broken 6 i) Then (told v)) (last-alone (ruled 6 (addrs_kept t l) (nodes g)))
          (rule-says told 6 (nodes g) (nodes g) refl (addrs_kept t l) (BadAddr g) addr-bad addr-good Then Accepted (λ n7.
          then (record { page-size = n1; labels = n2; aligns = n3; offsets = n4; sizes = n5; units = n6; addrs = n7 })))))))))
