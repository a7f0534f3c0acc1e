-- What the definition of a store call answers and leaves says the sentences: way by way, as the definition goes them.
use Rattle.std.specs.Prelude.{◌≡◌, refl, true, false, List, ℕ, ◌≤◌, ◌<◌, ltb, length, Err}
use Rattle.std.proofs.Common.{sym, ap, ◌∙◌, subst, ⊎_elim, arith, ltb-true}
use Rattle.std.proofs.Math.Logic.{inl, inr}
use Rattle.prelude.specs.Laws.Bools.{either, clash}
use Rattle.prelude.specs.Told.{Told, Nothing}
use Rattle.prelude.specs.declared.Refusal.{Refusal}
use Rattle.prelude.specs.Verdict.{Verdict}
use Rattle.sort.specs.Laws.Sorted.{le-or-lt}
use Rattle.overlap_checker.specs.declared.Entry.{Entry}
use Rattle.overlap_checker.specs.Interval.{interval, past_limits, clashes}
use Rattle.overlap_checker.specs.Entries.{entry_at}
use Rattle.overlap_checker.specs.Stored.{first_fault}
use Rattle.overlap_checker.specs.Naming.{IsNamed, IsNamedMark, Named}
use Rattle.overlap_checker.specs.Offers.{place_for}
use Rattle.overlap_checker.specs.Marks.{count_below, first_mark_fault}
use Rattle.overlap_checker.specs.State.{State, named_in, answer, figures, after}
use Rattle.overlap_checker.specs.Lent.{Lent, held, held_marks, state_in, Sound, laid_into, leaving, put_in, call_answer, call_figures}
use Rattle.overlap_checker.specs.Theorems.Ascending.{within-limits, ascending}
use Rattle.overlap_checker.specs.Laws.Ascending.{fault-le}
use Rattle.overlap_checker.specs.Ascending.{Ascending}
use Rattle.overlap_checker.specs.Theorems.Bits.{clash-exactly, clash-empty-exactly}
use Rattle.overlap_checker.specs.Laws.Bits.{any_of}
use Rattle.overlap_checker.specs.Laws.Rising.{count-le, counted-below, counted-above}
use Rattle.overlap_checker.specs.Laws.Neighbours.{place-le, starts-below, starts-above}
use Rattle.overlap_checker.specs.Laws.MarkLaws.{cross-of, resting-proper}
use Rattle.overlap_checker.specs.Theorems.Answers.{Hit, Clear, Lacks, Room, clear_apart, three_ways}
use Rattle.overlap_checker.specs.Laws.Answers.{room-below, no_room, mark-room, no-mark-room}
use Rattle.overlap_checker.specs.Theorems.Answers.{tries-overlaps, tries-full, tries-passes, answer-overlaps, answer-full, answer-passes}
use Rattle.overlap_checker.specs.Laws.Checks.{Fine, fine-sound, six-ways, checks-count, checks-mark-count, checks-fault, checks-mark-fault, checks-limits}
use Rattle.overlap_checker.specs.Laws.Checks.{checks-passes}
use Rattle.overlap_checker.specs.Laws.Faults.{ascending-proper}
use Rattle.overlap_checker.proofs.GoingLaws.{held-ascends, marks-rest, marks-rise}
use Rattle.overlap_checker.specs.Theorems.WhoIsNamed.{named-as}
use Rattle.overlap_checker.proofs.Kept.{offered-put, offered-marked}
use Rattle.c_answers.specs.Stores.{in_figures}
use Rattle.says.specs.Words.{refused, passed, First}
use Rattle.says.specs.Store as w
use Rattle.says.specs.Words.{Not}
use Rattle.says.specs.Store.{Store, Arrays, Outcome, InOrder, start, size, mark, TooMany, BadEntry, BadMark, PastLimits, Clash}
use Rattle.says.specs.Store.{Overlaps, Names, Full, Answers, OfferSays}
use Rattle.meets_store.specs.Laws.Puts.{put_meets}
use Rattle.meets_store.specs.Laws.Held.{as_lent, count-is, entry-is, entry_in, entry_of, mark-count-is, mark-is, mark-in, mark_of}
use Rattle.meets_store.specs.Laws.Faults.{proper-none, proper-marks-none, entry-stored, mark-stored, first_entry, first-mark}

-- an answer's figures beside a store, as an outcome
abbrev pub outcome_of : Told Nothing → Lent → Outcome
outcome_of t b = record { answer = in_figures t b.count b.mark_count; positions = b.positions; sizes = b.sizes; marks = b.marks }

module _ (s : Store) (e : Entry) (arrays : Arrays s) where
  abbrev a : Lent
  a = as_lent s

  -- ---- a sound store and an offer within the limits
  module _ (fine : Fine a) where
    sound : Sound a
    sound = fine-sound a arrays.positions arrays.sizes arrays.marks fine

    abbrev l : List Entry
    l = held a

    abbrev ms : List ℕ
    ms = held_marks a

    abbrev has : (i : ℕ) → i < s.count → entry_at l i ≡ interval (start s i) (size s i)
    has = entry-is s arrays fine.few

    up : Ascending 0 l
    up = held-ascends a sound

    clash-of : (i : ℕ) → i < s.count → clashes e (interval (start s i) (size s i)) ≡ true → Clash s e i
    clash-of i m h =
        ⊎_elim
        (λ le. let none : e.size ≡ 0 = omega arith in w.inside m none ((clash-empty-exactly e (interval (start s i) (size s i)) none).0 h))
        (λ some. let (bit, p, q) = (clash-exactly e (interval (start s i) (size s i)) some).0 h in w.shared {bit = bit} m p q)
        (le-or-lt e.size 0)

    of-clash : {i : ℕ} → Clash s e i → (i < s.count) × (clashes e (interval (start s i) (size s i)) ≡ true)
    of-clash {i} (w.shared {bit} m p q) =
        (m, (clash-exactly e (interval (start s i) (size s i)) (omega (arith, p.0, p.1))).1 (bit, p, q))
    of-clash {i} (w.inside m none p) = (m, (clash-empty-exactly e (interval (start s i) (size s i)) none).1 p)

    -- ---- who is named
    names-entry : (f : Entry) → IsNamed l e f → Names s e f.position f.size
    names-entry f n =
        let (i, m, is) = entry_of s arrays fine.few f n.member in
        let c : Clash s e i = clash-of i m (rw is n.clash) in
        subst (λ (g : Entry). Names s e g.position g.size) is
        (⊎_elim
        (λ h. w.at-or-above {i = i} (subst (λ (g : Entry). e.position ≤ g.position) (sym is) h.starts)
        (λ j k p. subst (λ (g : Entry). g.position ≤ start s j) (sym is)
        (h.lowest (interval (start s j) (size s j)) (entry_in s arrays fine.few j k) p))
        c)
        (λ h. w.one_below {i = i} (subst (λ (g : Entry). g.position < e.position) (sym is) h.starts)
        (λ j k p. subst (λ (g : Entry). start s j ≤ g.position) (sym is)
        (h.highest (interval (start s j) (size s j)) (entry_in s arrays fine.few j k) p))
        c
        (λ j p d. let (k, hit) = of-clash d in
        clash hit (h.otherwise (interval (start s j) (size s j)) (entry_in s arrays fine.few j k) p)))
        n.rule)

    names-mark : (f : Entry) → IsNamedMark l ms e f → Names s e f.position f.size
    names-mark f n =
        let (i, m, is) = mark_of s arrays fine.few fine.few_marks f.position n.member in
        rw (n.empty, ← is)
        (w.lowest-mark {i = i} (m, rw is n.inside)
        (λ j c. rw is (n.lowest (mark s j) (mark-in s arrays fine.few fine.few_marks j c.0) c.1))
        (λ j d. let (k, hit) = of-clash d in clash hit (n.clear (interval (start s j) (size s j)) (entry_in s arrays fine.few j k))))

    overlaps-named : (f : Entry) → Named (state_in a) e f → Overlaps s e
    overlaps-named f n =
        ⊎_elim
        (λ n. let (i, m, is) = entry_of s arrays fine.few f n.member in w.interval {i = i} (clash-of i m (rw is n.clash)))
        (λ n. let (i, m, is) = mark_of s arrays fine.few fine.few_marks f.position n.member in
        w.block-over {i = i} (m, rw is n.inside))
        n

    -- ---- nothing is met
    clear_none : Clear (state_in a) e → Not (Overlaps s e)
    clear_none clear (w.interval {i} c) =
        let (m, hit) = of-clash c in
        clash (any_of e l (interval (start s i) (size s i)) (entry_in s arrays fine.few i m) hit) (clear_apart (state_in a) e clear).0
    clear_none clear (w.block-over {i} c) =
        clash (cross-of e ms (mark s i) (mark-in s arrays fine.few fine.few_marks i c.0) c.1) (clear_apart (state_in a) e clear).1

    -- ---- room
    lacks-full : Lacks (state_in a) e → Full s e
    lacks-full h =
        ⊎_elim
        (λ le. let none : e.size ≡ 0 = omega arith in
        ⊎_elim (λ much. inr (none, omega (arith, fine.few_marks, mark-count-is s arrays fine.few fine.few_marks)))
        (λ room. absurd (clash h (mark-room (length l) (length ms) e.size none room))) (le-or-lt 512 (length ms)))
        (λ some. ⊎_elim (λ much. inl (some, omega (arith, fine.few, count-is s arrays fine.few)))
        (λ room. absurd (clash h (room-below (length l) (length ms) e.size some room))) (le-or-lt 512 (length l)))
        (le-or-lt e.size 0)

    room-not-full : Room (state_in a) e → Not (Full s e)
    room-not-full h =
        ⊎_elim (λ f. clash (no_room (length l) (length ms) e.size f.0 (omega (arith, f.1, count-is s arrays fine.few))) h)
        (λ f. clash
        (no-mark-room (length l) (length ms) e.size f.0 (omega (arith, f.1, mark-count-is s arrays fine.few fine.few_marks))) h)

    -- ---- where it goes
    interval-place : InOrder s.count e.position s.positions (place_for e.position l)
    interval-place =
        let count = count-is s arrays fine.few in
        record {
          among = omega (arith, place-le e.position l);
          below = λ i h. rw (has i (omega (arith, place-le e.position l))) at (starts-below e.position 0 l up i h);
          above = λ i h m. rw (has i m) at (starts-above e.position 0 l up i h (omega arith));
        }

    mark-place : InOrder s.mark_count e.position s.marks (count_below e.position ms)
    mark-place =
        let count = mark-count-is s arrays fine.few fine.few_marks in
        let rise = marks-rise a sound in
        let at = mark-is s arrays fine.few fine.few_marks in
        record {
          among = omega (arith, count-le e.position ms);
          below = λ i h. rw (at i (omega (arith, count-le e.position ms))) at (counted-below e.position 0 ms rise i h);
          above = λ i h m. rw (at i m) at (counted-above e.position 0 ms rise i h (omega arith));
        }

    -- ---- the answer of an offer that neither 15 nor 4 stops, and what it leaves
    module _ (b : Lent) (left : b ≡ leaving (answer (state_in a) e 0) (laid_into a (after (state_in a) e)) a) where
      abbrev st : State
      st = state_in a

      kept : (why : Refusal) → answer st e 0 ≡ Err why → b ≡ a
      kept why r = left ∙ ap (λ (v : Verdict). leaving v (laid_into a (after st e)) a) r

      over : Hit st e → Answers s e (outcome_of (figures st e 0) b)
      over h =
          let n = named-as st e up (marks-rise a sound) h in
          let names = ⊎_elim (names-entry (named_in st e)) (names-mark (named_in st e)) n in
          rw (tries-overlaps st e _ _ _ h, kept _ (answer-overlaps st e 0 h)) (w.overlaps (overlaps-named (named_in st e) n) names)

      none : Clear st e → Lacks st e → Answers s e (outcome_of (figures st e 0) b)
      none c h = rw (tries-full st e _ _ _ c h, kept _ (answer-full st e 0 c h)) (w.full (clear_none c) (lacks-full h))

      room-intervals : Room st e → 0 < e.size → s.count < 512
      room-intervals h n =
          ⊎_elim (λ much. absurd (clash (no_room (length l) (length ms) e.size n much) h))
          (λ lt. omega (arith, count-is s arrays fine.few)) (le-or-lt 512 (length l))

      room-marks : Room st e → e.size ≡ 0 → s.mark_count < 512
      room-marks h z =
          ⊎_elim (λ much. absurd (clash (no-mark-room (length l) (length ms) e.size z much) h))
          (λ lt. omega (arith, mark-count-is s arrays fine.few fine.few_marks)) (le-or-lt 512 (length ms))

      puts : Clear st e → Room st e → 0 < e.size → Answers s e (outcome_of (figures st e 0) b)
      puts c h n =
          let k = place_for e.position l in
          let made = offered-put a e 0 (answer st e 0) refl sound (answer-passes st e 0 c h) n k refl
          (put_in s.positions s.count k e.position) (put_in s.sizes s.count k e.size) refl refl in
          let room = room-intervals h n in
          let is = left ∙ sym made.left in
          let place = interval-place in
          rw (tries-passes st e _ _ _ c h, is)
          (w.stored {place = k} (clear_none c) (room-not-full h) n place
          (put_meets s.positions s.count k e.position place.among (omega (arith, arrays.positions)))
          (put_meets s.sizes s.count k e.size place.among (omega (arith, arrays.sizes))))

      marks : Clear st e → Room st e → e.size ≡ 0 → Answers s e (outcome_of (figures st e 0) b)
      marks c h z =
          let k = count_below e.position ms in
          let made = offered-marked a e 0 (answer st e 0) refl sound (answer-passes st e 0 c h) z k refl
          (put_in s.marks s.mark_count k e.position) refl in
          let room = room-marks h z in
          let is = left ∙ sym made.left in
          let place = mark-place in
          rw (tries-passes st e _ _ _ c h, is)
          (w.marked {place = k} (clear_none c) (room-not-full h) z place
          (put_meets s.marks s.mark_count k e.position place.among (omega (arith, arrays.marks))))

      answers : Answers s e (outcome_of (figures st e 0) b)
      answers =
          three_ways st e over none
          (λ c h. ⊎_elim (λ le. marks c h (omega arith)) (puts c h) (le-or-lt e.size 0))

  -- ---- the call
  pub no-bad-entry : s.count ≤ 512 → length (held a) ≤ first_fault 0 (held a) → (i : ℕ) → First (BadEntry s) i → ⊥
  no-bad-entry few none i f =
      let count = count-is s arrays few in
      proper-none s (held a) (ascending-proper (held a) (ascending 0 (held a) (omega (arith, fault-le 0 (held a), none))))
      (λ j m. entry-is s arrays few j (omega arith)) (let h = entry-stored s f.so in omega arith) f.so

  pub no-bad-mark : Fine a → (i : ℕ) → First (BadMark s) i → ⊥
  no-bad-mark fine i f =
      let count = mark-count-is s arrays fine.few fine.few_marks in
      proper-marks-none s arrays fine.few (held_marks a) (resting-proper (held a) (held_marks a) (marks-rest a (sound fine)))
      (λ j m. mark-is s arrays fine.few fine.few_marks j (omega arith)) (let h = mark-stored s f.so in omega arith) f.so

  pub not-many : s.count ≤ 512 → s.mark_count ≤ 512 → (x : Unit {0}) → TooMany s → ⊥
  not-many few few_marks x = ⊎_elim (λ h. omega arith) (λ h. omega arith)

  past : past_limits e ≡ true → PastLimits s e
  unfolding past_limits
  past h =
      either (ltb 8589934590 e.position) (λ t. inl (ltb-true 8589934590 e.position t))
      (λ f. inr (ltb-true 4294967295 e.size (rw f at h)))

  within : past_limits e ≡ false → (x : Unit {0}) → PastLimits s e → ⊥
  within h x = let (p, z) = within-limits e h in ⊎_elim (λ f. omega (arith, p)) (λ f. omega (arith, z))

  module _ (b : Lent) (left : b ≡ leaving (call_answer a e) (laid_into a (after (state_in a) e)) a) where
    kept_by : (why : Refusal) → call_answer a e ≡ Err why → b ≡ a
    kept_by why r = left ∙ ap (λ (v : Verdict). leaving v (laid_into a (after (state_in a) e)) a) r

    pub call-says : OfferSays s e (outcome_of (call_figures a e) b)
    call-says =
        six-ways a e
        (λ many. rw (checks-count a e _ _ _ many, kept_by _ (checks-count a e _ _ _ many)) (refused tt (inl many)))
        (λ few many. rw (checks-mark-count a e _ _ _ many, kept_by _ (checks-mark-count a e _ _ _ many)) (refused tt (inr many)))
        (λ few few_marks fault. rw (checks-fault a e _ _ _ few few_marks fault, kept_by _ (checks-fault a e _ _ _ few few_marks fault))
        (passed (not-many few few_marks) (refused (first_fault 0 (held a)) (first_entry s arrays few fault))))
        (λ few few_marks none fault. rw (
          checks-mark-fault a e _ _ _ few few_marks none fault,
          kept_by _ (checks-mark-fault a e _ _ _ few few_marks none fault),
        )
        (passed (not-many few few_marks) (passed (no-bad-entry few none)
        (refused (first_mark_fault (held a) 0 (held_marks a)) (first-mark s arrays few few_marks fault)))))
        (λ fine h. rw (checks-limits a e _ _ _ fine h, kept_by _ (checks-limits a e _ _ _ fine h))
        (passed (not-many fine.few fine.few_marks) (passed (no-bad-entry fine.few fine.none) (passed (no-bad-mark fine)
        (refused tt (past h))))))
        (λ fine h. rw (checks-passes a e _ _ _ fine h)
        (passed (not-many fine.few fine.few_marks) (passed (no-bad-entry fine.few fine.none) (passed (no-bad-mark fine)
        (passed (within h)
        (answers fine b (left ∙ ap (λ (v : Verdict). leaving v (laid_into a (after (state_in a) e)) a) (checks-passes a e _ _ _ fine h))))))))
