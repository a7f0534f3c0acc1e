-- The refusals of a layout, 1 to 8, whole: where the library's layout is refused, the sentences of `dk_build` say that refusal, its place and the passes
-- run; where it is accepted, they leave what the build comes to, over the row of the last pass.
use Rattle.std.specs.Prelude.{◌≡◌, Bool, ◌&&◌, ℕ, ◌*◌, ◌-◌, ◌≤◌, ◌<◌, eqb, leb, length, get_or, Err, Ok, Result}
use Rattle.std.proofs.Math.Path.{refl, sym}
use Rattle.std.proofs.Common.{ap, subst, ◌∙◌, arith, eqb-true, leb-true, leb-false}
use Rattle.std.proofs.Math.Bool.{true, false}
use Rattle.std.proofs.lemmas.Bool.{eqb-false}
use Rattle.prelude.specs.Laws.Bools.{either, clash, both, unlike}
use Rattle.prelude.specs.Pick.{pick}
use Rattle.prelude.specs.Refusals.{number_of, place_of}
use Rattle.prelude.specs.declared.Place.{Place}
use Rattle.prelude.specs.declared.Place.TheVariants.{One, Two}
use Rattle.prelude.specs.declared.Refusal.{Refusal}
use Rattle.prelude.specs.declared.Refusal.TheVariants.{Malformed}
use Rattle.prelude.specs.Verdict.{Verdict, Accepted}
use Rattle.bankdef.specs.Check.{banks_of, count_sound, check_of}
use Rattle.bankdef.specs.Check as check
use Rattle.bankdef.specs.Numbers.{fault_at}
use Rattle.bankdef.specs.Theorems.Numbers.{fault-exactly}
use Rattle.bankdef.specs.Refused as by
use Rattle.bankdef.specs.Refused.{Decided, NoFault}
use Rattle.bankdef.specs.Theorems.Refused.{decided}
use Rattle.bankdef.specs.declared.Bankdefs.{Bankdefs}
use Rattle.nodes.specs.FaultExactly as faults
use Rattle.nodes.specs.Theorems.FaultExactly as faults-theorems
use Rattle.nodes.specs.FaultExactly.{FaultAt}
use Rattle.nodes.specs.Lists.{Lists, lists_of, nodes_to, node_fault, node_count_sound, row_count_sound, known_fill}
use Rattle.nodes.specs.Sound.{Lowest, SoundLists}
use Rattle.nodes.specs.Theorems.Sound.{lowest-node, accepted-node, accepted-lists}
use Rattle.resolver.specs.Layout.{Checked, unless, layout_of}
use Rattle.resolver.specs.ListsExactly as at
use Rattle.resolver.specs.ListsExactly.{MalformedAt}
use Rattle.resolver.specs.Theorems.ListsExactly.{malformed-exactly}
use Rattle.resolver.specs.Passes.{resolution_of}
use Rattle.resolver.specs.declared.Resolution.{Resolution}
use Rattle.c_tables.specs.Tables.{choices_by}
use Rattle.says.specs.Words.{Tries, refused, passed, First, FirstPair}
use Rattle.says.specs.Build as says
use Rattle.says.specs.Build.{Given, Lent, Outcome, banks, nodes, kind, operand, state, Number, NoBanks, BadBank, Overlap, BadField, BadNode}
use Rattle.says.specs.Build.{Laid, Built}
use Rattle.says.specs.Build.{BuildSays, refusal}
use Rattle.meets_sentences.specs.Laws.One.{number-one}
use Rattle.meets_build.specs.Laws.Shown.{Shown, listed, node_no, number_is, state-is}
use Rattle.meets_sentences.specs.Typed.{Typed}
use Rattle.meets_build.specs.Laws.Table.{table, record_of, no-banks-when, no-banks-only, as_many, long, record_of_lem, bad-of, faulty-of}
use Rattle.meets_build.specs.Laws.Table.{overlap-of, overlap-at, shown}
use Rattle.meets_build.specs.Laws.Stops.{row_for, reads-row}
use Rattle.meets_build.specs.Laws.Run.{RefusedSo, SettledSo, passes-meet, halts-laid}

-- a place's numbers
abbrev first_of : Place → ℕ
first_of (One p) = p
first_of (Two p q) = p

abbrev second_of : Place → ℕ
second_of (One p) = 0
second_of (Two p q) = q

turned_same : {a b : Refusal} → ◌≡◌ {A = (Verdict)} (Err a) (Err b) → a ≡ b
turned_same e = cc

-- ---- 4

module _ (g : Given) where
  abbrev l : Lists
  l = listed g

  nodes-ok : node_count_sound l ≡ true → (nodes g ≤ 4096) × (length g.operands ≡ nodes g)
  nodes-ok e =
      let x = both (leb (nodes g) 4096) (eqb (length g.operands) (nodes g)) e in
      (leb-true (nodes g) 4096 x.0, eqb-true (length g.operands) (nodes g) x.1)

  bad-nodes : node_count_sound l ≡ false → BadField g 0
  bad-nodes e =
      either (leb (nodes g) 4096)
      (λ t. says.operands-differ (eqb-false (length g.operands) (nodes g) (let f : eqb (length g.operands) (nodes g) ≡ false = rw t at e in f)))
      (λ t. says.nodes-many (leb-false (nodes g) 4096 t))

  abbrev cells : ℕ
  cells = g.rows * nodes g

  abbrev numbered : Bool
  numbered = eqb (length g.numbers) cells

  abbrev stated : Bool
  stated = eqb (length g.states) cells

  record RowsOk : Type 0 where
    some : 1 ≤ g.rows
    few : g.rows ≤ 16
    of-numbers : length g.numbers ≡ cells
    of-states : length g.states ≡ cells

  rows_ok : row_count_sound l ≡ true → RowsOk
  rows_ok e =
      let x = both (leb 1 g.rows) (leb g.rows 16 && (numbered && stated)) e in
      let y = both (leb g.rows 16) (numbered && stated) x.1 in
      let z = both numbered stated y.1 in
      record {
        some = leb-true 1 g.rows x.0;
        few = leb-true g.rows 16 y.0;
        of-numbers = eqb-true (length g.numbers) cells z.0;
        of-states = eqb-true (length g.states) cells z.1;
      }

  bad-rows : row_count_sound l ≡ false → BadField g 1
  bad-rows e =
      either (leb 1 g.rows) (λ s.
      either (leb g.rows 16) (λ t.
      either numbered (λ u.
      says.states-differ (eqb-false (length g.states) cells (let f : stated ≡ false = rw (s, t, u) at e in f)))
      (λ u. says.numbers-differ (eqb-false (length g.numbers) cells u)))
      (λ t. says.rows-many (leb-false g.rows 16 t)))
      (λ s. says.no_rows (leb-false 1 g.rows s))

  past-0 : node_count_sound l ≡ true → (f : ℕ) → BadField g f → 1 ≤ f
  past-0 e f (says.nodes-many h) = absurd (omega (arith, (nodes-ok e).0))
  past-0 e f (says.operands-differ h) = absurd (h (nodes-ok e).1)
  past-0 e f (says.no_rows h) = omega arith
  past-0 e f (says.rows-many h) = omega arith
  past-0 e f (says.numbers-differ h) = omega arith
  past-0 e f (says.states-differ h) = omega arith
  past-0 e f (says.limit-past h) = omega arith
  past-0 e f (says.fill-unknown h) = omega arith

  past-2 : g.limit ≤ 255 → node_count_sound l ≡ true → row_count_sound l ≡ true → (f : ℕ) → BadField g f → 3 ≤ f
  past-2 m e r f (says.nodes-many h) = absurd (omega (arith, (nodes-ok e).0))
  past-2 m e r f (says.operands-differ h) = absurd (h (nodes-ok e).1)
  past-2 m e r f (says.no_rows h) = absurd (omega (arith, (rows_ok r).some))
  past-2 m e r f (says.rows-many h) = absurd (omega (arith, (rows_ok r).few))
  past-2 m e r f (says.numbers-differ h) = absurd (h (rows_ok r).of-numbers)
  past-2 m e r f (says.states-differ h) = absurd (h (rows_ok r).of-states)
  past-2 m e r f (says.limit-past h) = absurd (omega arith)
  past-2 m e r f (says.fill-unknown h) = omega arith

  no_field : g.limit ≤ 255 → node_count_sound l ≡ true → row_count_sound l ≡ true → g.fill ≤ 1 → (f : ℕ) → BadField g f → ⊥
  no_field m e r k f (says.fill-unknown h) = omega arith
  no_field m e r k f (says.nodes-many h) = omega (arith, (nodes-ok e).0)
  no_field m e r k f (says.operands-differ h) = h (nodes-ok e).1
  no_field m e r k f (says.no_rows h) = omega (arith, (rows_ok r).some)
  no_field m e r k f (says.rows-many h) = omega (arith, (rows_ok r).few)
  no_field m e r k f (says.numbers-differ h) = h (rows_ok r).of-numbers
  no_field m e r k f (says.states-differ h) = h (rows_ok r).of-states
  no_field m e r k f (says.limit-past h) = omega arith

  module _ (many : (table g).len ≡ banks g) (i : ℕ) (h : i < nodes g) where
    bad-node : FaultAt (table g).len l i → BadNode g i
    bad-node (faults.other_kind k) = says.kind-past k
    bad-node (faults.other_bank k o) = says.no-bank k (omega arith)
    bad-node (faults.other_state r rn k s) = says.state-past rn k (let e = state-is g (table g) r i h in omega arith)
    bad-node (faults.past_values r rn k m s) = says.value-past rn (k, m) (number_is g (table g) r i h) s

    fault-node : BadNode g i → FaultAt (table g).len l i
    fault-node (says.kind-past k) = faults.other_kind k
    fault-node (says.no-bank k o) = faults.other_bank k (omega arith)
    fault-node (says.state-past {r = r} rn k s) = faults.other_state r rn k (let e = state-is g (table g) r i h in omega arith)
    fault-node (says.value-past {r = r} rn w n s) =
        faults.past_values r rn w.0 w.1 (let e = number-one g n (number_is g (table g) r i h) in omega arith)

  malformed-only : (n : ℕ) (why : Refusal) → lists_of n l g.fill ≡ Err why → (i : ℕ) × (why ≡ Malformed i)
  unfolding lists_of
  malformed-only n why e = go (node_count_sound l) (row_count_sound l) (known_fill g.fill) e
    where
      go : (a b c : Bool)
          → pick a (pick b (pick c (nodes_to n l (nodes g)) (Err (Malformed 3))) (Err (Malformed 1))) (Err (Malformed 0)) ≡ Err why
          → (i : ℕ) × (why ≡ Malformed i)
      go false b c e = (0, sym (turned_same e))
      go true false c e = (1, sym (turned_same e))
      go true true false e = (3, sym (turned_same e))
      go true true true e = let w = lowest-node n l (nodes g) why e in (w.0, w.2)

-- ---- the order

module _ (g : Given) (typed : Typed g) (old : Lent) where
  -- a refusal by its number and place, after n passes
  abbrev pub answered : Refusal → ℕ → Outcome
  answered why n = refusal g old (number_of why) (first_of (place_of why)) (second_of (place_of why)) n

  abbrev Listed : (Outcome → Type 0) → Outcome → Type 0
  Listed Then =
      Tries (First (BadField g)) (λ f. refusal g old 4 f 0 0)
      (Tries (First (λ i. (i < nodes g) × BadNode g i)) (λ i. refusal g old 4 i 0 0) Then)

  abbrev Banked : (Outcome → Type 0) → Outcome → Type 0
  Banked Then =
      Tries (λ (_ : Unit {0}). NoBanks g) (λ _. refusal g old 1 0 0 0)
      (Tries (First (λ b. (b < banks g) × BadBank g b)) (λ b. refusal g old 2 b 0 0)
      (Tries (λ (w : ℕ × ℕ). FirstPair (Overlap g) w.0 w.1) (λ w. refusal g old 3 w.0 w.1 0) Then))

  module _ (many : (table g).len ≡ banks g) (Then : Outcome → Type 0) where
    no-node : ((i : ℕ) → i < nodes g → node_fault (table g).len (listed g) i ≡ false) → (i : ℕ) → First (λ i. (i < nodes g) × BadNode g i) i → ⊥
    no-node none i f =
        let s = f.so in
        clash ((faults-theorems.fault-exactly (table g).len (listed g) i).1 (fault-node g many i s.0 s.1)) (none i s.0)

    malformed-says : (i : ℕ) → MalformedAt (table g).len (listed g) g.fill i → Listed Then (refusal g old 4 i 0 0)
    malformed-says i (at.node_count a) = refused 0 (record { so = bad-nodes g a; none_below = λ k x. omega arith })
    malformed-says i (at.row_count a b) = refused 1 (record { so = bad-rows g b; none_below = λ k x. past-0 g a k x })
    malformed-says i (at.choice a b h) = refused 3 (record { so = says.fill-unknown h; none_below = λ k x. past-2 g typed.limit a b k x })
    malformed-says i (at.node a b h j w) =
        passed (λ f x. no_field g typed.limit a b h f x.so) (refused j (record {
          so = (w.listed, bad-node g many j w.listed ((faults-theorems.fault-exactly (table g).len (listed g) j).0 w.fault));
          none_below = λ k x.
              either (leb j k) (λ t. leb-true j k t)
              (λ t.
              let fault = (faults-theorems.fault-exactly (table g).len (listed g) k).1 (fault-node g many k x.0 x.1) in
              absurd (clash fault (w.none k (leb-false j k t))));
        }))

    lists-refused : (why : Refusal) → lists_of (table g).len (listed g) g.fill ≡ Err why → Listed Then (answered why 0)
    lists-refused why e =
        let w = malformed-only g (table g).len why e in
        rw w.1 (malformed-says w.0 ((malformed-exactly (table g).len (listed g) g.fill w.0).0 (e ∙ ap Err w.1)))

    no-field-sound : SoundLists (table g).len (listed g) g.fill → (f : ℕ) → BadField g f → ⊥
    no-field-sound s f (says.nodes-many h) = omega (arith, s.few)
    no-field-sound s f (says.operands-differ h) = h s.operands
    no-field-sound s f (says.no_rows h) = omega (arith, s.rows.some)
    no-field-sound s f (says.rows-many h) = omega (arith, s.rows.few)
    no-field-sound s f (says.numbers-differ h) = h s.rows.numbered
    no-field-sound s f (says.states-differ h) = h s.rows.stated
    no-field-sound s f (says.limit-past h) = omega (arith, typed.limit)
    no-field-sound s f (says.fill-unknown h) = omega (arith, s.choice)

    lists-accepted : lists_of (table g).len (listed g) g.fill ≡ Accepted → (y : Outcome) → Then y → Listed Then y
    lists-accepted e y t =
        let s = accepted-lists (table g).len (listed g) g.fill e in
        passed (λ f x. no-field-sound s f x.so) (passed (no-node (λ i h. accepted-node (table g).len (listed g) (nodes g) s.nodes i h)) t)

  -- ---- 1, 2 and 3

  module _ (Then : Outcome → Type 0) where
    -- what is said of a verdict on the table
    abbrev Banks : Verdict → Type 0
    Banks Accepted = (y : Outcome) → Then y → Banked Then y
    Banks (Err why) = Banked Then (answered why 0)

    module _ (sound : count_sound (table g).len ≡ true) where
      abbrev t : Bankdefs
      t = table g

      bad-at : (b : ℕ) → b < length (banks_of t) → fault_at b (get_or (banks_of t) b check.no_bank) ≡ true → (b < banks g) × BadBank g b
      bad-at b h e =
          let inside : b < banks g = omega (arith, long g sound) in
          let is = record_of_lem g sound b (omega (arith, as_many g sound)) in
          (inside, bad-of g b ((fault-exactly b (record_of g b)).0 (ap (fault_at b) (sym is) ∙ e)))

      fault-at : (b : ℕ) → (b < banks g) × BadBank g b → (b < length (banks_of t)) × (fault_at b (get_or (banks_of t) b check.no_bank) ≡ true)
      fault-at b x =
          let h = x.0 in
          let is = record_of_lem g sound b (omega (arith, as_many g sound)) in
          (omega (arith, long g sound), ap (fault_at b) is ∙ (fault-exactly b (record_of g b)).1 (faulty-of g b typed x.1))

      no-bad : NoFault (banks_of t) → (b : ℕ) → First (λ b. (b < banks g) × BadBank g b) b → ⊥
      no-bad none b f = let x = fault-at b f.so in none b x.0 x.1

      counted : (u : Unit {0}) → NoBanks g → ⊥
      counted u x = no-banks-only g sound x

    decided-says : {v : Verdict} → Decided (table g) v → Banks v
    decided-says (by.count e) = refused tt (no-banks-when g e)
    decided-says (by.number {i} e f) =
        passed (counted e) (refused i (record {
          so = bad-at e i f.there f.fault;
          none_below = λ k x. let y = fault-at e k x in f.no-earlier k y.0 y.1;
        }))
    decided-says (by.pair {i} {j} e n f) =
        passed (counted e) (passed (no-bad e n) (refused (i, j) (record {
          so = overlap-of g e i j f.at;
          none_before = λ c d x. f.no-earlier c d (overlap-at g e c d x);
        })))
    decided-says (by.sound e n f) = λ y x.
        passed (counted e) (passed (no-bad e n) (passed (λ w k. f w.0 w.1 (overlap-at g e w.0 w.1 k.so)) x))

    table-says : (v : Verdict) → check_of (table g) ≡ v → Banks v
    table-says v e = subst Banks e (decided-says (decided (table g)))

  -- ---- what is promised

  abbrev pub layout : Resolution
  layout = layout_of (table g) (listed g) (choices_by g.limit g.fill g.closed)

  -- What is said of what a layout comes to: a refusal is the outcome; otherwise every outcome of the build, over the row of the last pass, is one.
  abbrev pub LayoutSays : Resolution → Type 0
  LayoutSays r =
      ((why : Refusal) → r.settled ≡ Err why → BuildSays g old (answered why r.passes))
      × ((k : ℕ) → r.settled ≡ Ok k → (row : ℕ) → says.Reads g r.passes row → (y : Outcome) → Built g old row k r.passes y → BuildSays g old y)

  settled_same : {a b : Refusal} → ◌≡◌ {A = Result ℕ Refusal} (Err a) (Err b) → a ≡ b
  settled_same e = cc

  at-apart : {a : ℕ} {b : Refusal} → Err b ≡ Ok a → ⊥
  at-apart e = unlike cc

  refused_says : (why : Refusal) → BuildSays g old (answered why 0) → LayoutSays (record { settled = Err why; passes = 0 })
  refused_says why b = (λ other e. subst (λ (w : Refusal). BuildSays g old (answered w 0)) (settled_same e) b, λ k e. absurd (at-apart e))

  one-second : (why : Refusal) (i : ℕ) → place_of why ≡ One i → (first_of (place_of why) ≡ i) × (second_of (place_of why) ≡ 0)
  one-second why i e = (ap first_of e, ap second_of e)

  passed-says : check_of (table g) ≡ Accepted → lists_of (table g).len (listed g) g.fill ≡ Accepted
      → LayoutSays (resolution_of (table g) (listed g) g.limit)
  passed-says e f =
      let c : Checked (table g) (listed g) g.fill = record { table = e; lists = f } in
      let is = shown g typed e in
      let many = is.count in
      let w = passes-meet g (table g) is c old in
      let through : (y : Outcome) → Laid g old y → BuildSays g old y = λ y x.
      table-says (Listed (Laid g old)) Accepted e y (lists-accepted many (Laid g old) f y x) in (
        λ why s.
            let x = halts-laid g (table g) is c old why _ (w.0 why s) in
            let p = one-second why x.0 x.1 in
            through _ (rw (p.0, p.1) x.2),
        λ k s row reads y b.
            let x = w.1 k s in
            through y (says.built x.last x.runs x.not-unresolved reads b),
      )

  lists-say : check_of (table g) ≡ Accepted → (v : Verdict) → lists_of (table g).len (listed g) g.fill ≡ v
      → LayoutSays (unless v (resolution_of (table g) (listed g) g.limit))
  lists-say e Accepted f = passed-says e f
  lists-say e (Err why) f =
      refused_says why (table-says (Listed (Laid g old)) Accepted e (answered why 0) (lists-refused (shown g typed e).count (Laid g old) why f))

  table-say : (v : Verdict) → check_of (table g) ≡ v
      → LayoutSays (unless v (unless (lists_of (table g).len (listed g) g.fill) (resolution_of (table g) (listed g) g.limit)))
  table-say Accepted e = lists-say e (lists_of (table g).len (listed g) g.fill) refl
  table-say (Err why) e = refused_says why (table-says (Listed (Laid g old)) (Err why) e)

  -- A layout that is refused, 1 to 8, is refused so by the sentences; of one that is accepted they say what they say of its build.
  pub layout-meets : LayoutSays layout
  unfolding layout_of
  layout-meets = table-say (check_of (table g)) refl
