-- Where a file breaks: the fields that the definitions count are those with which a file may begin, and no more.
use Rattle.std.specs.Prelude.{◌≡◌, true, false, ◌&&◌, List, ltb, eqb, Err, Ok}
use Rattle.std.proofs.Math.Path.{refl, sym, ap}
use Rattle.std.proofs.Common.{ap₂, subst, ◌∙◌}
use Prim.Native.Nat.{ℕ, zero, suc, ◌+◌, ◌*◌, ◌-◌, ◌≤◌, ◌<◌}
use Rattle.std.proofs.Math.Decide.{dec_le}
use native.Mathlib.Omega.{arith}
use Rattle.std.proofs.Math.Dec.{leb}
use Rattle.std.proofs.Math.ListN.{length, get_or}
use borrow.Author.Tests.{leb-true, le-leb, eqb-true, eq-eqb, ltb-true, ltb-false}
use Rattle.prelude.specs.Laws.Bools.{both, clash, unlike}
use Rattle.prelude.specs.Pick.{pick}
use Rattle.prelude.specs.declared.Refusal.{Refusal}
use Rattle.prelude.specs.declared.Refusal.TheVariants.{Malformed}
use Rattle.form_fields.specs.declared.Kind.{Kind}
use Rattle.form_fields.specs.declared.Shape.{Shape}
use Rattle.form_fields.specs.Kind.{form2, headed, begins2}
use Rattle.form_fields.specs.Fields.{field_at, sound_at, run}
use Rattle.form_fields.specs.Laws.Fields.{field-ends, field-tag, field-len, sound-field, by-test}
use Rattle.form_fields.specs.Theorems.Fields.{run-stop, run_more}
use Rattle.form_fields.specs.Laws.Rest as rest
use Rattle.form_fields.specs.Shape.{bank_count_in, nodes_start_in, node_count_in, rows_start_in, row_count_in, values_start_in}
use Rattle.form_fields.specs.Shape.{values_size_in, limit_start_in, fields_before_in, form_in}
use Rattle.form_fields.specs.Words.{byte, word16}
use Rattle.says.specs.Words.{First}
use Rattle.says.specs.Files as files
use Rattle.says.specs.Files.{Form, form-1, form-2, longest, Held, Sound, FieldAt, Front, GoodField, Broken}
use Rattle.meets_form.specs.Laws.Written.{kind, longest-same, sound-form}

module _ (file : List ℕ) where
  -- ---- a whole field

  word-is : (at : ℕ) → word16 file (at + 1) ≡ get_or file (at + 1) 0 * 256 + get_or file (at + 2) 0
  unfolding word16
  word-is at = ap (λ (n : ℕ). get_or file (at + 1) 0 * 256 + get_or file n 0) {x = at + 1 + 1} {y = at + 2} (omega arith)

  pub whole_of : (at tag len : ℕ) → field_at file tag len at ≡ true → FieldAt file at tag len
  whole_of at tag len e =
      (field-ends file tag len at e, field-tag file tag len at e, sym (word-is at) ∙ field-len file tag len at e)

  pub field_of : (at tag len : ℕ) → FieldAt file at tag len → field_at file tag len at ≡ true
  unfolding field_at
  field_of at tag len w =
      rw (
        le-leb (at + 3 + len) (length file) w.0,
        eq-eqb (byte file at) tag w.1,
        eq-eqb (word16 file (at + 1)) len (word-is at ∙ w.2),
      )

  -- a bank's
  bank-1-of : (at : ℕ) → sound_at file 1 23 at ≡ true → FieldAt file at 1 23 × (get_or file (at + 25) 0 ≤ 15)
  unfolding sound_at
  bank-1-of at e =
      let p = both (field_at file 1 23 at) (leb (byte file (at + 2 + 23)) 15) e in
      let same : get_or file (at + 25) 0 ≡ get_or file (at + 2 + 23) 0 = ap (λ (n : ℕ). get_or file n 0) (omega arith) in
      (whole_of at 1 23 p.0, omega (arith, same, leb-true (byte file (at + 2 + 23)) 15 p.1))

  bank-2-of : (at : ℕ) → sound_at file 17 24 at ≡ true → FieldAt file at 17 24 × (get_or file (at + 25) 0 ≤ 15) × (get_or file (at + 26) 0 ≤ 1)
  unfolding sound_at
  bank-2-of at e =
      let p = both (field_at file 17 24 at) (leb (byte file (at + 1 + 24)) 15 && leb (byte file (at + 2 + 24)) 1) e in
      let q = both (leb (byte file (at + 1 + 24)) 15) (leb (byte file (at + 2 + 24)) 1) p.1 in
      let flags : get_or file (at + 25) 0 ≡ get_or file (at + 1 + 24) 0 = ap (λ (n : ℕ). get_or file n 0) (omega arith) in
      let bit : get_or file (at + 26) 0 ≡ get_or file (at + 2 + 24) 0 = ap (λ (n : ℕ). get_or file n 0) (omega arith) in (
        whole_of at 17 24 p.0,
        omega (arith, flags, leb-true (byte file (at + 1 + 24)) 15 q.0),
        omega (arith, bit, leb-true (byte file (at + 2 + 24)) 1 q.1),
      )

  bank-1-sound : (at : ℕ) → FieldAt file at 1 23 → get_or file (at + 25) 0 ≤ 15 → sound_at file 1 23 at ≡ true
  unfolding sound_at
  bank-1-sound at w flags =
      let same : get_or file (at + 25) 0 ≡ get_or file (at + 2 + 23) 0 = ap (λ (n : ℕ). get_or file n 0) (omega arith) in
      rw (field_of at 1 23 w, le-leb (byte file (at + 2 + 23)) 15 (omega (arith, same)))

  bank-2-sound : (at : ℕ) → FieldAt file at 17 24 → get_or file (at + 25) 0 ≤ 15 → get_or file (at + 26) 0 ≤ 1 → sound_at file 17 24 at ≡ true
  unfolding sound_at
  bank-2-sound at w flags bit =
      let f : get_or file (at + 25) 0 ≡ get_or file (at + 1 + 24) 0 = ap (λ (n : ℕ). get_or file n 0) (omega arith) in
      let b : get_or file (at + 26) 0 ≡ get_or file (at + 2 + 24) 0 = ap (λ (n : ℕ). get_or file n 0) (omega arith) in
      rw (field_of at 17 24 w, le-leb (byte file (at + 1 + 24)) 15 (omega (arith, f)), le-leb (byte file (at + 2 + 24)) 1 (omega (arith, b)))

  -- of a node or a row nothing more is asked
  node-sound : (at : ℕ) → FieldAt file at 2 5 → sound_at file 2 5 at ≡ true
  unfolding sound_at
  node-sound at w = rw (field_of at 2 5 w)

  row-sound : (at n : ℕ) → FieldAt file at 3 (5 * n) → sound_at file 3 (5 * n) at ≡ true
  unfolding sound_at
  row-sound at n w = rw (field_of at 3 (5 * n) w)

  -- ---- a run, field by field

  module _ (tag len : ℕ) where
    run_at : (i at : ℕ) → i < run file tag len at → sound_at file tag len (at + i * (3 + len)) ≡ true
    run_at zero at less =
        by-test (sound_at file tag len at)
        (λ e. ap (sound_at file tag len) {x = at + 0 * (3 + len)} {y = at} (omega arith) ∙ e)
        (λ e. absurd (omega (arith, run-stop file tag len at e)))
    run_at (suc i) at less =
        by-test (sound_at file tag len at)
        (λ e.
        ap (sound_at file tag len) {x = at + suc i * (3 + len)} {y = at + (3 + len) + i * (3 + len)} (omega arith)
        ∙ run_at i (at + (3 + len)) (omega (arith, run_more file tag len at e)))
        (λ e. absurd (omega (arith, run-stop file tag len at e)))

    ends_at : (n at : ℕ) → run file tag len at ≡ n → sound_at file tag len (at + n * (3 + len)) ≡ false
    ends_at zero at q =
        by-test (sound_at file tag len at)
        (λ e. absurd (omega (arith, run_more file tag len at e)))
        (λ e. ap (sound_at file tag len) {x = at + 0 * (3 + len)} {y = at} (omega arith) ∙ e)
    ends_at (suc n) at q =
        by-test (sound_at file tag len at)
        (λ e.
        ap (sound_at file tag len) {x = at + suc n * (3 + len)} {y = at + (3 + len) + n * (3 + len)} (omega arith)
        ∙ ends_at n (at + (3 + len)) (omega (arith, run_more file tag len at e)))
        (λ e. absurd (omega (arith, run-stop file tag len at e)))

  -- ---- the fields that are counted

  moved : {f : Form} {c c' at at' b b' n n' r r' : ℕ} → c ≡ c' → at ≡ at' → b ≡ b' → n ≡ n' → r ≡ r' → Front file f c at b n r
      → Front file f c' at' b' n' r'
  moved {f} {c} {c'} {at} {at'} {b} {b'} {n} {n'} {r} {r'} p q u v w g =
      subst (λ (z : ℕ). Front file f c' at' b' n' z) w
      (subst (λ (z : ℕ). Front file f c' at' b' z r) v
      (subst (λ (z : ℕ). Front file f c' at' z n r) u
      (subst (λ (z : ℕ). Front file f c' z b n r) q (subst (λ (z : ℕ). Front file f z at b n r) p g))))

  bank-next : (f : Form) {c at b : ℕ} → Front file f c at b 0 0 → sound_at file (kind f).tag (kind f).bank at ≡ true
      → Front file f (suc c) (at + (3 + (kind f).bank)) (suc b) 0 0
  bank-next form-1 {c} {at} {b} g e = let s = bank-1-of at e in files.bank-1 g s.0 s.1
  bank-next form-2 {c} {at} {b} g e = let s = bank-2-of at e in files.bank-2 g s.0 s.1 s.2

  first_field : (f : Form) → headed (kind f) file ≡ true → Front file f (kind f).heads ((kind f).heads * 4) 0 0 0
  unfolding begins2
  first_field form-1 e = files.begins-1
  first_field form-2 e =
      let p = both (field_at file 16 1 0) (eqb (byte file 3) 2) e in
      files.begins-2 (whole_of 0 16 1 p.0) (eqb-true (byte file 3) 2 p.1)

  module _ (f : Form) (headed : headed (kind f) file ≡ true) where
    banks-begin : (j : ℕ) → j ≤ bank_count_in (kind f) file → Front file f ((kind f).heads + j) ((kind f).heads * 4 + j * (3 + (kind f).bank)) j 0 0
    unfolding bank_count_in
    banks-begin zero less = moved (omega arith) (omega arith) refl refl refl (first_field f headed)
    banks-begin (suc j) less =
        let k = kind f in
        moved (omega arith) (omega arith) refl refl refl
        (bank-next f (banks-begin j (omega arith)) (run_at k.tag k.bank j (k.heads * 4) (omega arith)))

    nodes-begin : (j : ℕ) → j ≤ node_count_in (kind f) file
        → Front file f ((kind f).heads + bank_count_in (kind f) file + j) (nodes_start_in (kind f) file + j * 8) (bank_count_in (kind f) file) j 0
    unfolding nodes_start_in node_count_in
    nodes-begin zero less = moved (omega arith) (omega arith) refl refl refl (banks-begin (bank_count_in (kind f) file) (omega arith))
    nodes-begin (suc j) less =
        let at = nodes_start_in (kind f) file in
        moved (omega arith) (omega arith) refl refl refl
        (files.node (nodes-begin j (omega arith)) (whole_of (at + j * 8) 2 5 (sound-field file 2 5 (at + j * 8) (run_at 2 5 j at (omega arith)))))

    rows-begin : (j : ℕ) → j ≤ row_count_in (kind f) file
        → Front file f ((kind f).heads + bank_count_in (kind f) file + node_count_in (kind f) file + j)
        (rows_start_in (kind f) file + j * (3 + 5 * node_count_in (kind f) file)) (bank_count_in (kind f) file) (node_count_in (kind f) file) j
    unfolding rows_start_in row_count_in
    rows-begin zero less = moved (omega arith) (omega arith) refl refl refl (nodes-begin (node_count_in (kind f) file) (omega arith))
    rows-begin (suc j) less =
        let n = node_count_in (kind f) file in
        let at = rows_start_in (kind f) file in
        moved (omega arith) (omega arith) refl refl refl
        (files.row (rows-begin j (omega arith))
        (whole_of (at + j * (3 + 5 * n)) 3 (5 * n) (sound-field file 3 (5 * n) (at + j * (3 + 5 * n)) (run_at 3 (5 * n) j at (omega arith)))))

    -- all of them
    pub all-begin : Front file f (fields_before_in (kind f) file) (values_start_in (kind f) file) (bank_count_in (kind f) file) (node_count_in (kind f) file)
        (row_count_in (kind f) file)
    unfolding fields_before_in values_start_in
    all-begin = rows-begin (row_count_in (kind f) file) (omega arith)

  -- ---- one state behind each number of fields

  -- Which field comes behind a state, and that it is sound.
  pub data How (f : Form) (at n r : ℕ) : Type 0 where
    of-bank : n ≡ 0 → r ≡ 0 → sound_at file (kind f).tag (kind f).bank at ≡ true → How f at n r
    of_node : r ≡ 0 → sound_at file 2 5 at ≡ true → How f at n r
    of_row : sound_at file 3 (5 * n) at ≡ true → How f at n r

  abbrev one-if : ℕ → ℕ → ℕ
  one-if tag t = pick (eqb tag t) 1 0

  -- what a field adds to the counts, by its tag
  record From (f : Form) (c at b n r : ℕ) : Type 0 where
    at₀ : ℕ
    b₀ : ℕ
    n₀ : ℕ
    r₀ : ℕ
    was : Front file f c at₀ b₀ n₀ r₀
    how : How f at₀ n₀ r₀
    end : at ≡ at₀ + 3 + (get_or file (at₀ + 1) 0 * 256 + get_or file (at₀ + 2) 0)
    of-b : b ≡ b₀ + (one-if (get_or file at₀ 0) 1 + one-if (get_or file at₀ 0) 17)
    of-n : n ≡ n₀ + one-if (get_or file at₀ 0) 2
    of-r : r ≡ r₀ + one-if (get_or file at₀ 0) 3

  data Came (f : Form) (c at b n r : ℕ) : Type 0 where
    first : f ≡ form-2 → c ≡ 0 → at ≡ 4 → b ≡ 0 → n ≡ 0 → r ≡ 0 → Came f c at b n r
    later : From f c at b n r → Came f c at b n r

  came : {f : Form} {d at b n r : ℕ} → Front file f d at b n r → (c : ℕ) → d ≡ suc c → Came f c at b n r
  came files.begins-1 c e = absurd (omega (arith, e))
  came (files.begins-2 w x) c e = first refl (omega (arith, e)) refl refl refl refl
  came (files.bank-1 {c = d} {at} {b} g w l) c e =
      later (record {
        at₀ = at;
        b₀ = b;
        n₀ = 0;
        r₀ = 0;
        was = moved (omega (arith, e)) refl refl refl refl g;
        how = of-bank refl refl (bank-1-sound at w l);
        end = omega (arith, w.2);
        of-b = rw w.1 (omega arith);
        of-n = rw w.1 refl;
        of-r = rw w.1 refl;
      })
  came (files.bank-2 {c = d} {at} {b} g w l m) c e =
      later (record {
        at₀ = at;
        b₀ = b;
        n₀ = 0;
        r₀ = 0;
        was = moved (omega (arith, e)) refl refl refl refl g;
        how = of-bank refl refl (bank-2-sound at w l m);
        end = omega (arith, w.2);
        of-b = rw w.1 (omega arith);
        of-n = rw w.1 refl;
        of-r = rw w.1 refl;
      })
  came (files.node {f} {c = d} {at} {b} {n} g w) c e =
      later (record {
        at₀ = at;
        b₀ = b;
        n₀ = n;
        r₀ = 0;
        was = moved (omega (arith, e)) refl refl refl refl g;
        how = of_node refl (node-sound at w);
        end = omega (arith, w.2);
        of-b = rw w.1 (omega arith);
        of-n = rw w.1 (omega arith);
        of-r = rw w.1 refl;
      })
  came (files.row {f} {c = d} {at} {b} {n} {r} g w) c e =
      later (record {
        at₀ = at;
        b₀ = b;
        n₀ = n;
        r₀ = r;
        was = moved (omega (arith, e)) refl refl refl refl g;
        how = of_row (row-sound at n w);
        end = omega (arith, w.2);
        of-b = rw w.1 (omega arith);
        of-n = rw w.1 (omega arith);
        of-r = rw w.1 (omega arith);
      })

  -- a file of form 2 begins with its head
  some : {f : Form} {c at b n r : ℕ} → Front file f c at b n r → f ≡ form-2 → 0 < c
  some files.begins-1 e = unlike cc
  some (files.begins-2 w x) e = omega arith
  some (files.bank-1 g w l) e = omega arith
  some (files.bank-2 g w l m) e = omega arith
  some (files.node g w) e = omega arith
  some (files.row g w) e = omega arith

  none : {f : Form} {c at b n r : ℕ} → Front file f c at b n r → c ≡ 0 → (at ≡ 0) × (b ≡ 0) × (n ≡ 0) × (r ≡ 0)
  none files.begins-1 e = (refl, refl, refl, refl)
  none (files.begins-2 w x) e = absurd (omega (arith, e))
  none (files.bank-1 g w l) e = absurd (omega (arith, e))
  none (files.bank-2 g w l m) e = absurd (omega (arith, e))
  none (files.node g w) e = absurd (omega (arith, e))
  none (files.row g w) e = absurd (omega (arith, e))

  record Same (at b n r at' b' n' r' : ℕ) : Type 0 where
    at_same : at ≡ at'
    b-same : b ≡ b'
    n-same : n ≡ n'
    r-same : r ≡ r'

  abbrev Before : Form → ℕ → Type 0
  Before f c = (at b n r at' b' n' r' : ℕ) → Front file f c at b n r → Front file f c at' b' n' r' → Same at b n r at' b' n' r'

  state-one : (c : ℕ) {f : Form} {at b n r at' b' n' r' : ℕ} → Front file f c at b n r → Front file f c at' b' n' r' → Same at b n r at' b' n' r'
  state-one zero g k =
      let p = none g refl in
      let q = none k refl in
      record { at_same = p.0 ∙ sym q.0; b-same = p.1 ∙ sym q.1; n-same = p.2 ∙ sym q.2; r-same = p.3 ∙ sym q.3 }
  state-one (suc c) {f} {at} {b} {n} {r} {at'} {b'} {n'} {r'} g k = go (λ _ _ _ _ _ _ _ _ x y. state-one c x y) (came g c refl) (came k c refl)
    where
      go : Before f c → Came f c at b n r → Came f c at' b' n' r' → Same at b n r at' b' n' r'
      go before (first e z p q u v) (first e' z' p' q' u' v') =
          record { at_same = p ∙ sym p'; b-same = q ∙ sym q'; n-same = u ∙ sym u'; r-same = v ∙ sym v' }
      go before (first e z p q u v) (later x) = absurd (omega (arith, z, some x.was e))
      go before (later x) (first e z p q u v) = absurd (omega (arith, z, some x.was e))
      go before (later x) (later y) =
          let s = before _ _ _ _ _ _ _ _ x.was y.was in
          let tag : get_or file x.at₀ 0 ≡ get_or file y.at₀ 0 = ap (λ (m : ℕ). get_or file m 0) s.at_same in
          record {
            at_same = x.end ∙ ap (λ (m : ℕ). m + 3 + (get_or file (m + 1) 0 * 256 + get_or file (m + 2) 0)) s.at_same ∙ sym y.end;
            b-same = x.of-b ∙ ap₂ (λ (m t : ℕ). m + (one-if t 1 + one-if t 17)) s.b-same tag ∙ sym y.of-b;
            n-same = x.of-n ∙ ap₂ (λ (m t : ℕ). m + one-if t 2) s.n-same tag ∙ sym y.of-n;
            r-same = x.of-r ∙ ap₂ (λ (m t : ℕ). m + one-if t 3) s.r-same tag ∙ sym y.of-r;
          }

  -- Before every field with which a file goes on stands one.
  pub good-below : {f : Form} (i : ℕ) → GoodField f file (suc i) → GoodField f file i
  good-below {f} i g = by g (suc i) refl
    where
      front_of : (j at b n r : ℕ) → Front file f j at b n r → j ≡ suc i → GoodField f file i
      front_of j at b n r g e = files.front (moved e refl refl refl refl g)

      by : {j : ℕ} → GoodField f file j → (m : ℕ) → j ≡ suc i → GoodField f file i
      by (files.front {i = j} {at} {b} {n} {r} g) m e = back (came g (suc i) (ap suc e))
        where
          back : Came f (suc i) at b n r → GoodField f file i
          back (first p z q u v w) = absurd (omega (arith, z))
          back (later x) = files.front x.was
      by (files.values {i = j} {at} {b} {n} {r} g w) m e = front_of j at b n r g e
      by (files.limit {i = j} g v w) m e = files.values {i = i} (moved (omega (arith, e)) refl refl refl refl g) v

  good-down : {f : Form} (k i : ℕ) → GoodField f file (i + k) → GoodField f file i
  good-down {f} zero i g = subst (GoodField f file) (omega arith) g
  good-down {f} (suc k) i g = good-down k i (good-below (i + k) (subst (GoodField f file) (omega arith) g))

  good-before : {f : Form} (i j : ℕ) → i ≤ j → GoodField f file j → GoodField f file i
  good-before {f} i j h g = go (split i j h)
    where
      split : (i j : ℕ) → i ≤ j → (k : ℕ) × (j ≡ i + k)
      split zero j h = (j, omega arith)
      split (suc i) zero h = absurd (omega arith)
      split (suc i) (suc j) h = let p = split i j (omega arith) in (p.0, ap suc p.1 ∙ omega arith)

      go : (k : ℕ) × (j ≡ i + k) → GoodField f file i
      go p = good-down p.0 i (subst (GoodField f file) p.1 g)

  -- ---- behind the counted fields

  -- a field of the front has none of the tags behind it
  front-tag : (f : Form) (at n r : ℕ) → How f at n r → get_or file at 0 ≡ 4 → ⊥
  front-tag form-1 at n r (of-bank u v e) t = omega (arith, t, field-tag file 1 23 at (sound-field file 1 23 at e))
  front-tag form-2 at n r (of-bank u v e) t = omega (arith, t, field-tag file 17 24 at (sound-field file 17 24 at e))
  front-tag f at n r (of_node v e) t = omega (arith, t, field-tag file 2 5 at (sound-field file 2 5 at e))
  front-tag f at n r (of_row e) t = omega (arith, t, field-tag file 3 (5 * n) at (sound-field file 3 (5 * n) at e))

  module _ (f : Form) {c at b n r : ℕ} (g : Front file f c at b n r) where
    -- how a file goes on behind g
    on-from : {at' b' n' r' : ℕ} → Front file f (suc c) at' b' n' r' → How f at n r
    on-from {at'} {b'} {n'} {r'} k = go (came k c refl)
      where
        go : Came f c at' b' n' r' → How f at n r
        go (first e z p q u v) = absurd (omega (arith, z, some g e))
        go (later x) =
            let s = state-one c x.was g in
            subst (λ (m : ℕ). How f m n r) s.at_same
            (subst (λ (m : ℕ). How f x.at₀ m r) s.n-same (subst (How f x.at₀ x.n₀) s.r-same x.how))

    -- behind it stand the values: then no field of the front does
    module _ {v : ℕ} (values : FieldAt file at 4 v) where
      not_on : {at' b' n' r' : ℕ} → Front file f (suc c) at' b' n' r' → ⊥
      not_on k = front-tag f at n r (on-from k) values.1

      not-past : (i at' b' n' r' : ℕ) → c < i → Front file f i at' b' n' r' → ⊥
      not-past i at' b' n' r' less k = go i at' b' n' r' less k (i - suc c) (omega arith)
        where
          go : (i at' b' n' r' : ℕ) → c < i → Front file f i at' b' n' r' → (m : ℕ) → i ≡ suc c + m → ⊥
          go i at' b' n' r' less k zero e = not_on (moved (e ∙ omega arith) refl refl refl refl k)
          go i at' b' n' r' less k (suc m) e = back (λ i at' b' n' r' less k e. go i at' b' n' r' less k m e) (came k (suc c + m) (e ∙ omega arith))
            where
              back : ((i at' b' n' r' : ℕ) → c < i → Front file f i at' b' n' r' → i ≡ suc c + m → ⊥) → Came f (suc c + m) at' b' n' r' → ⊥
              back before (first x z p q u v) = omega (arith, z)
              back before (later x) = before (suc c + m) x.at₀ x.b₀ x.n₀ x.r₀ (omega arith) x.was refl

  module _ (f : Form) {c at b n r : ℕ} (g : Front file f c at b n r) where
    whole_here : {at' v : ℕ} → at' ≡ at → FieldAt file at' 4 v → FieldAt file at 4 v
    whole_here {at'} {v} e w = subst (λ (m : ℕ). FieldAt file m 4 v) e w

    -- The three ways to break behind the front: no values, no limit, something more.
    pub no-values : (How f at n r → ⊥) → ((v : ℕ) → FieldAt file at 4 v → ⊥) → GoodField f file c → ⊥
    no-values no_front never h = go h refl
      where
        go : {j : ℕ} → GoodField f file j → j ≡ c → ⊥
        go (files.front k) e = no_front (on-from f g (moved (ap suc e) refl refl refl refl k))
        go (files.values {v = v} k w) e = never v (whole_here (state-one c (moved e refl refl refl refl k) g).at_same w)
        go (files.limit k w x) e = not_on f k w (moved (sym e) refl refl refl refl g)

    pub no-limit : {v : ℕ} → FieldAt file at 4 v → (FieldAt file (at + 3 + v) 5 1 → ⊥) → GoodField f file (suc c) → ⊥
    no-limit {v} values never h = go h refl
      where
        go : {j : ℕ} → GoodField f file j → j ≡ suc c → ⊥
        go (files.front {i = j} {at = at'} {b = b'} {n = n'} {r = r'} k) e = not-past f g values (suc j) at' b' n' r' (omega (arith, e)) k
        go (files.values k w) e = not_on f g values (moved e refl refl refl refl k)
        go (files.limit {v = v'} k w x) e =
            let same = (state-one c (moved (omega (arith, e)) refl refl refl refl k) g).at_same in
            let size : v' ≡ v = sym (whole_here same w).2 ∙ values.2 in
            never (subst (λ (m : ℕ). FieldAt file m 5 1) (ap₂ (λ (p q : ℕ). p + 3 + q) same size) x)

    pub no_extra : {v : ℕ} → FieldAt file at 4 v → GoodField f file (suc (suc c)) → ⊥
    no_extra {v} values h = go h refl
      where
        go : {j : ℕ} → GoodField f file j → j ≡ suc (suc c) → ⊥
        go (files.front {i = j} {at = at'} {b = b'} {n = n'} {r = r'} k) e = not-past f g values (suc j) at' b' n' r' (omega (arith, e)) k
        go (files.values {i = j} {at = at'} {b = b'} {n = n'} {r = r'} k w) e = not-past f g values j at' b' n' r' (omega (arith, e)) k
        go (files.limit k w x) e = not_on f g values (moved (omega (arith, e)) refl refl refl refl k)

-- ---- a broken file

-- a file of form 2 has its head before everything else
headless : (file : List ℕ) (j at b n r : ℕ) → Front file form-2 j at b n r → headed form2 file ≡ true
unfolding begins2
headless file j at b n r (files.begins-2 w x) = rw (field_of file 0 16 1 w, eq-eqb (byte file 3) 2 x)
headless file j at b n r (files.bank-2 {c = d} {at = p} {b = q} g w x y) = headless file d p q 0 0 g
headless file j at b n r (files.node {c = d} {at = p} {b = q} {n = m} g w) = headless file d p q m 0 g
headless file j at b n r (files.row {c = d} {at = p} {b = q} {n = m} {r = l} g w) = headless file d p q m l g

no-head : (f : Form) (file : List ℕ) → headed (kind f) file ≡ false → (j : ℕ) → GoodField f file j → j ≡ 0 → ⊥
no-head form-1 file e j h z = clash refl e
no-head form-2 file e j (files.front {i = i} {at} {b} {n} {r} g) z = clash (headless file (suc i) at b n r g) e
no-head form-2 file e j (files.values {i = i} {at} {b} {n} {r} g w) z = clash (headless file i at b n r g) e
no-head form-2 file e j (files.limit g w x) z = omega (arith, z)

module _ (f : Form) (file : List ℕ) where
  abbrev k : Kind
  k = kind f

  first-of : (i : ℕ) → ((j : ℕ) → j < i → GoodField f file j) → (GoodField f file i → ⊥) → First (λ j. GoodField f file j → ⊥) i
  first-of i good bad =
      record {
        so = bad;
        none_below = λ j h. elim (dec_le i j) [ yes le ↦ le | no gt ↦ absurd (h (good j (omega arith))) ];
      }

  -- no bank, node or row stands behind those that are counted
  no_front : How file f (values_start_in k file) (node_count_in k file) (row_count_in k file) → ⊥
  unfolding values_start_in rows_start_in nodes_start_in bank_count_in node_count_in row_count_in
  no_front (of-bank n r e) =
      let rows : values_start_in k file ≡ rows_start_in k file = ap (λ (m : ℕ). rows_start_in k file + m * (3 + 5 * node_count_in k file)) r ∙ omega arith in
      let nodes : rows_start_in k file ≡ nodes_start_in k file = omega (arith, n) in
      clash e (ap (sound_at file k.tag k.bank) (rows ∙ nodes) ∙ ends_at file k.tag k.bank (bank_count_in k file) (k.heads * 4) refl)
  no_front (of_node r e) =
      let rows : values_start_in k file ≡ rows_start_in k file = ap (λ (m : ℕ). rows_start_in k file + m * (3 + 5 * node_count_in k file)) r ∙ omega arith in
      clash e (ap (sound_at file 2 5) rows ∙ ends_at file 2 5 (node_count_in k file) (nodes_start_in k file) refl)
  no_front (of_row e) = clash e (ends_at file 3 (5 * node_count_in k file) (row_count_in k file) (rows_start_in k file) refl)

  size_is : (v : ℕ) → FieldAt file (values_start_in k file) 4 v → v ≡ values_size_in k file
  unfolding values_size_in
  size_is v w = sym w.2 ∙ sym (word-is file (values_start_in k file))

  -- What the definitions call broken the sentences do, at the same field.
  pub record BrokenAt (why : Refusal) : Type 0 where
    pub index : ℕ
    pub refusal : why ≡ Malformed index
    pub says : Broken f file index

  module _ (why : Refusal) (e : form_in k file ≡ Err why) where
    same : {r : Refusal} → form_in k file ≡ Err r → why ≡ r
    same {r} b = cc

    not_sound : (h : Held) → Sound f file h → ⊥
    not_sound h s = never (sound-form s)
      where
        never : {t : Shape} → form_in k file ≡ Ok t → ⊥
        never b = unlike cc

    broken-at : (i : ℕ) → form_in k file ≡ Err (Malformed i) → length file ≤ longest f → ((j : ℕ) → j < i → GoodField f file j) → (GoodField f file i → ⊥)
        → BrokenAt why
    broken-at i b short good bad = record { index = i; refusal = same b; says = files.at_field short not_sound (first-of i good bad) }

    pub form-broken : BrokenAt why
    unfolding limit_start_in
    form-broken =
        by-test (ltb k.longest (length file))
        (λ t.
        let long = ltb-true k.longest (length file) t in
        record { index = 0; refusal = same (rest.form-long k file long); says = files.long (omega (arith, long, longest-same f)) })
        (λ t.
        let short = ltb-false k.longest (length file) t in
        let short' : length file ≤ longest f = omega (arith, short, longest-same f) in
        by-test (headed k file)
        (λ h.
        let c = fields_before_in k file in
        let g = all-begin file f h in
        let below : (j : ℕ) → j < c → GoodField f file j = λ j less. good-before file j (c - 1) (omega arith)
        (files.front (moved file {c' = suc (c - 1)} (omega arith) refl refl refl refl g)) in
        by-test (field_at file 4 (values_size_in k file) (values_start_in k file))
        (λ v.
        let w = whole_of file (values_start_in k file) 4 (values_size_in k file) v in
        let more : (j : ℕ) → j < c + 1 → GoodField f file j = λ j less. good-before file j c (omega arith) (files.values g w) in
        by-test (field_at file 5 1 (limit_start_in k file))
        (λ l.
        let x = whole_of file (limit_start_in k file) 5 1 l in
        by-test (ltb (limit_start_in k file + 4) (length file))
        (λ m.
        broken-at (c + 2) (rest.form-extra k file short h v l (ltb-true (limit_start_in k file + 4) (length file) m)) short'
        (λ j less. good-before file j (suc c) (omega arith) (files.limit g w x))
        (λ b. no_extra file f g w (subst (GoodField f file) (omega arith) b)))
        (λ m. absurd (let b = rest.form-sound k file short h v l (ltb-false (limit_start_in k file + 4) (length file) m) in
        unlike cc)))
        (λ l.
        broken-at (c + 1) (rest.form-limit k file short h v l) short' more
        (λ b. no-limit file f g w (λ x. clash (field_of file (limit_start_in k file) 5 1 x) l) (subst (GoodField f file) (omega arith) b))))
        (λ v.
        broken-at c (rest.form-values k file short h v) short' below
        (no-values file f g no_front
        (λ s x. clash (ap (λ (n : ℕ). field_at file 4 n (values_start_in k file)) (sym (size_is s x)) ∙ field_of file (values_start_in k file) 4 s x) v))))
        (λ h. broken-at 0 (rest.form-head k file short h) short' (λ j less. absurd (omega arith)) (λ b. no-head f file h 0 b refl)))
