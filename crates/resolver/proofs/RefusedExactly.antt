-- Refusals 4, 5, 7 and 8 of a layout and its K, each exactly when document 01 gives it, told by number and place. "Then each pass in node order
-- meets 5, 6 and 7, and 8 at its end": a layout that passes its checks is refused at the first node that a pass meets one at, in the first pass
-- that does, and for 8 only where the last pass has gone past every node.
use Rattle.std.specs.Prelude.{ℕ, ◌+◌, ◌-◌, ◌<◌, ◌≤◌, ◌≡◌, Bool, true, false, ◌⊎◌, ◌↔◌, eqb, length, Result, Err, Ok}
use Rattle.std.proofs.Math.Path.{refl, ap}
use Rattle.std.proofs.Common.{sym, ◌∙◌, subst, inl, inr, ⊎_elim, arith, eqb-true, lt-ltb}
use Rattle.std.proofs.lemmas.Bool.{eqb-false}
use Rattle.prelude.specs.Laws.Bools.{unlike}
use Rattle.prelude.specs.Pick.{pick}
use Rattle.prelude.specs.Refusals.{number_of, place_of}
use Rattle.prelude.specs.Told.{Told, gives, refuses}
use Rattle.prelude.specs.Theorems.Told.{six-never}
use Rattle.prelude.specs.declared.Place.{Place}
use Rattle.prelude.specs.declared.Place.TheVariants.{One}
use Rattle.prelude.specs.declared.Refusal.{Refusal}
use Rattle.prelude.specs.declared.Refusal.TheVariants.{Malformed, PositionPast, LabelOffBoundary, Unresolved}
use Rattle.prelude.specs.Verdict.{Accepted, Verdict}
use Rattle.bankdef.specs.Check.{check_of}
use Rattle.bankdef.specs.Theorems.Refused.{decided}
use Rattle.bankdef.specs.declared.Bankdefs.{Bankdefs}
use Rattle.resolver.specs.Ends.{Runs, RunsLast, SettlesBelow}
use Rattle.resolver.proofs.Ends.{Ending, early}
use Rattle.resolver.proofs.Ends.{last, ends, last-decides, refused-before, settled-below, settled-limit}
use Rattle.resolver.proofs.Answer.{accepted-layout}
use Rattle.resolver.specs.Figures.{PastFirst, OffInLast, LastUnresolved, SettlesAt, Figures}
use Rattle.resolver.specs.Layout.{unless, layout_of, Checked}
use Rattle.resolver.specs.Theorems.NeverFour.{never-four}
use Rattle.resolver.specs.Run.{Settles}
use Rattle.resolver.proofs.Run.{at_zero}
use Rattle.resolver.specs.Theorems.PositionPast.{five-met-exactly}
use Rattle.nodes.specs.Lists.{Lists, lists_of}
use Rattle.resolver.specs.NodeOrder.{seen_at, OffBoundary, GoesPast}
use Rattle.resolver.specs.Theorems.NodeOrder.{MeetsFirst, first-met, met-first, ran-to-end}
use Rattle.resolver.specs.Passes.{program, row_of_pass, pass_at, unresolved, last_of, settled_by, resolution_of}
use Rattle.resolver.specs.Laws.StepRefusals.{step-refusals}
use Rattle.resolver.specs.Told.{told_settled}
use Rattle.resolver.specs.Laws.Told.{by-figures}
use Rattle.resolver.specs.declared.Choices.{Choices}
use Rattle.resolver.specs.declared.Resolution.{Resolution}
use Rattle.resolver.specs.Laws.RefusedExactly.{StopsFirst, below-five, lists-four, one_same, refusable-number, refusable-place}
use Rattle.resolver.specs.Laws.RefusedExactly.{settled_same, table-number}

refused-last : (k : ℕ) (x : Result ℕ Refusal) {why : Refusal} → last_of k x ≡ Err why → (x ≡ Err why) ⊎ ((why ≡ Unresolved) × (x ≡ Ok 2))
refused-last k (Ok s) {why} e = go (eqb s 2) refl e
  where
    go : (t : Bool) → eqb s 2 ≡ t → pick t (Err Unresolved) (Ok k) ≡ Err why → (Ok s ≡ Err why) ⊎ ((why ≡ Unresolved) × (◌≡◌ {A = Result ℕ Refusal} (Ok s) (Ok 2)))
    go true f g = inr (sym (settled_same g), ap Ok (eqb-true s 2 f))
    go false f g = absurd (let z : ◌≡◌ {A = ℕ} 0 1 = cc in let b : ⊥ = omega arith in b)
refused-last k (Err w) e = inl (ap Err (settled_same e))

module _ (banks : Bankdefs) (l : Lists) (choices : Choices) where
  -- after the checks the passes decide
  pub checked-passes : Checked banks l choices.fill → layout_of banks l choices ≡ resolution_of banks l choices.limit
  unfolding layout_of
  checked-passes c = rw (c.table, c.lists)

  -- what is refused with 5 or more has passed the checks
  past-checks : (why : Refusal) → 5 ≤ number_of why → (layout_of banks l choices).settled ≡ Err why → Checked banks l choices.fill
  unfolding layout_of
  past-checks why high e = table (check_of banks) refl e
    where
      lists-too : check_of banks ≡ Accepted → (w : Verdict) → lists_of banks.len l choices.fill ≡ w
          → (unless w (resolution_of banks l choices.limit)).settled ≡ Err why
          → Checked banks l choices.fill
      lists-too c Accepted f e = record { table = c; lists = f }
      lists-too c (Err other) f e =
          absurd (below-five why ((lists-four banks.len l choices.fill).four why (f ∙ ap Err (settled_same e))) high)

      table : (v : Verdict) → check_of banks ≡ v
          → (unless v (unless (lists_of banks.len l choices.fill) (resolution_of banks l choices.limit))).settled ≡ Err why
          → Checked banks l choices.fill
      table Accepted f e = lists-too f (lists_of banks.len l choices.fill) refl e
      table (Err other) f e =
          absurd (let low = table-number banks (check_of banks) (decided banks) why (f ∙ ap Err (settled_same e)) in let b : ⊥ = omega arith in b)

  -- a refusal that a pass meets at a node, or 8 at the last pass's end
  pub data Refusing (why : Refusal) : Type 0 where
    meeting : (n : ℕ) (is_last : Bool) (i : ℕ) → Runs (pass_at banks l) choices.limit n is_last
        → MeetsFirst (program banks l) (row_of_pass l n) is_last (length l.kinds) i why → Refusing why
    ending : (n : ℕ) → RunsLast (pass_at banks l) choices.limit n → why ≡ Unresolved → pass_at banks l n true ≡ Ok 2 → Refusing why

  met-in : (n : ℕ) (is_last : Bool) {why : Refusal} → Runs (pass_at banks l) choices.limit n is_last → pass_at banks l n is_last ≡ Err why → Refusing why
  met-in n is_last {why} r e =
      let f = first-met (program banks l) (row_of_pass l n) (row_of_pass l (n - 1)) (eqb n 1) is_last why e in
      meeting n is_last f.0 r f.1

  refusing : (why : Refusal) → (resolution_of banks l choices.limit).settled ≡ Err why → Refusing why
  refusing why e = from (ends (pass_at banks l) choices.limit)
    where
      from : Ending (pass_at banks l) choices.limit (settled_by (pass_at banks l) choices.limit) → Refusing why
      from (early n other r f g) =
          let w : other ≡ why = settled_same (sym (ap (λ (x : Resolution). x.settled) g) ∙ e) in
          met-in n false r (f ∙ ap Err w)
      from (last n k r g) =
          ⊎_elim (λ (h : pass_at banks l n true ≡ Err why). met-in n true r h)
          (λ (h : (why ≡ Unresolved) × (pass_at banks l n true ≡ Ok 2)). ending n r h.0 h.1)
          (refused-last k (pass_at banks l n true) (sym (ap (λ (x : Resolution). x.settled) g) ∙ e))

  -- a pass that runs and is refused ends the layout
  pass-refused : (n : ℕ) (is_last : Bool) (why : Refusal) → Runs (pass_at banks l) choices.limit n is_last → pass_at banks l n is_last ≡ Err why
      → resolution_of banks l choices.limit ≡ record { settled = Err why; passes = n }
  pass-refused n true why r e = (last-decides (pass_at banks l) choices.limit n r).1 ∙ rw e
  pass-refused n false why r e = refused-before (pass_at banks l) choices.limit n r e

  -- The first node that a pass which runs is refused at decides the layout's answer, and the passes run are counted up to that pass.
  pub meeting-decides : Checked banks l choices.fill → (n : ℕ) (is_last : Bool) (i : ℕ) (why : Refusal) → Runs (pass_at banks l) choices.limit n is_last →
      MeetsFirst (program banks l) (row_of_pass l n) is_last (length l.kinds) i why → layout_of banks l choices ≡ record { settled = Err why; passes = n }
  meeting-decides c n is_last i why r f =
      checked-passes c
      ∙ pass-refused n is_last why r (met-first (program banks l) (row_of_pass l n) (row_of_pass l (n - 1)) (eqb n 1) is_last i why f)

  -- An unresolved end of the last pass decides it too.
  pub ending-decides : (u : LastUnresolved banks l choices) → layout_of banks l choices ≡ record { settled = Err Unresolved; passes = u.pass }
  ending-decides u = checked-passes u.checked ∙ (last-decides (pass_at banks l) choices.limit u.pass u.runs).1 ∙ rw u.ends

  -- what is refused with 5 or more, told
  told : (why : Refusal) → 5 ≤ number_of why → told_settled (layout_of banks l choices).settled ≡ refuses (number_of why) (place_of why)
      → Checked banks l choices.fill × Refusing why
  told why high e =
      let f = by-figures (layout_of banks l choices).settled why e in
      let c = past-checks why high f in
      (c, refusing why (ap (λ (x : Resolution). x.settled) (sym (checked-passes c)) ∙ f))

  settled-as : (why : Refusal) {n : ℕ} → layout_of banks l choices ≡ record { settled = Err why; passes = n }
      → told_settled (layout_of banks l choices).settled ≡ refuses (number_of why) (place_of why)
  settled-as why e = rw e

  -- ---- 5

  stopped-first : (i : ℕ) (why : Refusal) → number_of why ≤ 6 → place_of why ≡ One i → Checked banks l choices.fill → Refusing why
      → StopsFirst banks l choices i why
  stopped-first i why low place c (meeting n is_last j r f) =
      ⊎_elim
      (λ (e : seen_at (program banks l) (row_of_pass l n) j ≡ Err why).
      let q : i ≡ j = one_same (sym place ∙ refusable-place j why (step-refusals _ _ _ why e)) in
      rw q (record { checked = c; pass = n; is_last = is_last; runs = r; listed = f.listed; here = e; before = f.before }))
      (λ o. absurd (let n : number_of why ≡ 7 = rw o.2 in let b : ⊥ = omega arith in b))
      f.here
  stopped-first i why low place c (ending n r e f) = absurd (let n : number_of why ≡ 8 = rw e in let b : ⊥ = omega arith in b)

  stops-decides : (i : ℕ) (why : Refusal) (s : StopsFirst banks l choices i why) → layout_of banks l choices ≡ record { settled = Err why; passes = s.pass }
  stops-decides i why s =
      meeting-decides s.checked s.pass s.is_last i why s.runs (record { listed = s.listed; here = inl s.here; before = s.before })

  past_first : (i : ℕ) → StopsFirst banks l choices i (PositionPast i) → PastFirst banks l choices i
  past_first i s = record {
    checked = s.checked;
    pass = s.pass;
    is_last = s.is_last;
    runs = s.runs;
    listed = s.listed;
    here = (five-met-exactly banks l s.checked s.pass i s.is_last s.listed s.before).0 s.here;
    before = s.before;
  }

  abbrev first_past : (i : ℕ) → PastFirst banks l choices i → StopsFirst banks l choices i (PositionPast i)
  first_past i s = record {
    checked = s.checked;
    pass = s.pass;
    is_last = s.is_last;
    runs = s.runs;
    listed = s.listed;
    here = (five-met-exactly banks l s.checked s.pass i s.is_last s.listed s.before).1 s.here;
    before = s.before;
  }

  -- 5 exactly when a pass that runs meets, before anything else, a node where a position would pass the limit.
  pub five-exactly : (i : ℕ) → (told_settled (layout_of banks l choices).settled ≡ refuses 5 (One i)) ↔ PastFirst banks l choices i
  five-exactly i = (
    λ e.
        let h = told (PositionPast i) (omega arith) e in
        past_first i (stopped-first i (PositionPast i) (omega arith) refl h.0 h.1),
    λ s. settled-as (PositionPast i) (stops-decides i (PositionPast i) (first_past i s)),
  )

  -- "6 is no longer given" (document 02, Ticket 3)
  pub six-not-given : (place : Place) → told_settled (layout_of banks l choices).settled ≡ refuses 6 place → ⊥
  six-not-given place e = never (layout_of banks l choices).settled e
    where
      number_is : {n p : ℕ} {x y : Place} → ◌≡◌ {A = Told ℕ} (refuses n x) (refuses p y) → n ≡ p
      number_is e = cc

      never : (x : Result ℕ Refusal) → told_settled x ≡ refuses 6 place → ⊥
      never (Ok k) e = unlike cc
      never (Err why) e = six-never why (number_is e)

  -- ---- 7

  off-first : (i : ℕ) → Checked banks l choices.fill → Refusing (LabelOffBoundary i) → OffInLast banks l choices i
  off-first i c (meeting n is_last j r f) =
      ⊎_elim
      (λ (e : seen_at (program banks l) (row_of_pass l n) j ≡ Err (LabelOffBoundary i)).
      absurd (let n = refusable-number j (LabelOffBoundary i) (step-refusals _ _ _ (LabelOffBoundary i) e) in let b : ⊥ = omega arith in b))
      (λ (o : (is_last ≡ true) × OffBoundary (program banks l) (row_of_pass l n) j × (LabelOffBoundary i ≡ LabelOffBoundary j)).
      let q : i ≡ j = one_same (ap place_of o.2) in
      rw q
      (record {
        checked = c;
        pass = n;
        runs = subst (Runs (pass_at banks l) choices.limit n) o.0 r;
        listed = f.listed;
        here = o.1;
        before = λ k h. subst (λ (b : Bool). GoesPast (program banks l) (row_of_pass l n) b k) o.0 (f.before k h);
      }))
      f.here
  off-first i c (ending n r e f) = absurd (let n : 7 ≡ 8 = ap number_of e in let b : ⊥ = omega arith in b)

  off-decides : (i : ℕ) (o : OffInLast banks l choices i) → layout_of banks l choices ≡ record { settled = Err (LabelOffBoundary i); passes = o.pass }
  off-decides i o =
      meeting-decides o.checked o.pass true i (LabelOffBoundary i) o.runs
      (record { listed = o.listed; here = inr (refl, o.here, refl); before = o.before })

  -- 7 exactly when the last pass meets, before anything else, a label off an address boundary.
  pub seven-exactly : (i : ℕ) → (told_settled (layout_of banks l choices).settled ≡ refuses 7 (One i)) ↔ OffInLast banks l choices i
  seven-exactly i = (
    λ e. let h = told (LabelOffBoundary i) (omega arith) e in off-first i h.0 h.1,
    λ o. settled-as (LabelOffBoundary i) (off-decides i o),
  )

  -- ---- 8

  ended-open : Checked banks l choices.fill → Refusing Unresolved → LastUnresolved banks l choices
  ended-open c (meeting n is_last j r f) =
      ⊎_elim
      (λ (e : seen_at (program banks l) (row_of_pass l n) j ≡ Err Unresolved).
      absurd (let n = refusable-number j Unresolved (step-refusals _ _ _ Unresolved e) in let b : ⊥ = omega arith in b))
      (λ o. absurd (let n : 8 ≡ 7 = ap number_of o.2 in let b : ⊥ = omega arith in b))
      f.here
  ended-open c (ending n r e f) = record { checked = c; pass = n; runs = r; ends = f }

  -- 8 exactly when the last pass runs to its end and ends unresolved.
  pub eight-exactly : (told_settled (layout_of banks l choices).settled ≡ refuses 8 (One 0)) ↔ LastUnresolved banks l choices
  eight-exactly = (
    λ e. let h = told Unresolved (omega arith) e in ended-open h.0 h.1,
    λ u. settled-as Unresolved (ending-decides u),
  )

  -- "and 8 at its end": such a pass has gone past every node, so that 5 and 7 come before 8.
  pub eight-at-end : (u : LastUnresolved banks l choices) (i : ℕ) → i < length l.kinds → GoesPast (program banks l) (row_of_pass l u.pass) true i
  eight-at-end u = ran-to-end (program banks l) (row_of_pass l u.pass) (row_of_pass l (u.pass - 1)) (eqb u.pass 1) true 2 u.ends

  -- ---- the checks before any pass, and 4

  run_of : {x : Result ℕ Refusal} {n : ℕ} → layout_of banks l choices ≡ record { settled = x; passes = n } → (layout_of banks l choices).passes ≡ n
  run_of e = ap (λ (r : Resolution). r.passes) e

  -- "1, 2 by ascending bank, 3": what the table is refused for comes before all else,
  pub table-first : (why : Refusal) → check_of banks ≡ Err why → layout_of banks l choices ≡ record { settled = Err why; passes = 0 }
  unfolding layout_of
  table-first why e = rw e

  -- "then 4": what the lists are refused for.
  pub lists-next : (why : Refusal) → check_of banks ≡ Accepted → lists_of banks.len l choices.fill ≡ Err why
      → layout_of banks l choices ≡ record { settled = Err why; passes = 0 }
  unfolding layout_of
  lists-next why e f = rw (e, f)

  not-four-in-pass : Checked banks l choices.fill → banks.len ≤ length banks.defs → (why : Refusal) → number_of why ≡ 4 → Refusing why → ⊥
  not-four-in-pass c whole why four (meeting n is_last j r f) =
      ⊎_elim
      (λ (e : seen_at (program banks l) (row_of_pass l n) j ≡ Err why). never-four banks l c whole n j is_last f.listed f.before why e four)
      (λ o. let n : number_of why ≡ 7 = rw o.2 in let b : ⊥ = omega arith in b)
      f.here
  not-four-in-pass c whole why four (ending n r e f) = let n : number_of why ≡ 8 = rw e in let b : ⊥ = omega arith in b

  -- 4 exactly when the table passes its check and the lists do not.
  pub four-exactly : banks.len ≤ length banks.defs → (place : ℕ) →
      (told_settled (layout_of banks l choices).settled ≡ refuses 4 (One place)) ↔
      ((check_of banks ≡ Accepted) × (lists_of banks.len l choices.fill ≡ Err (Malformed place)))
  four-exactly whole place = (
    λ e. table (check_of banks) refl (by-figures (layout_of banks l choices).settled (Malformed place) e),
    λ h. settled-as (Malformed place) (lists-next (Malformed place) h.0 h.1),
  )
    where
      lists-too : check_of banks ≡ Accepted → (w : Verdict) → lists_of banks.len l choices.fill ≡ w
          → (layout_of banks l choices).settled ≡ Err (Malformed place)
          → (check_of banks ≡ Accepted) × (lists_of banks.len l choices.fill ≡ Err (Malformed place))
      lists-too c Accepted f e =
          let k : Checked banks l choices.fill = record { table = c; lists = f } in
          let g : (resolution_of banks l choices.limit).settled ≡ Err (Malformed place) =
          ap (λ (x : Resolution). x.settled) (sym (checked-passes k)) ∙ e in
          absurd (not-four-in-pass k whole (Malformed place) refl (refusing (Malformed place) g))
      lists-too c (Err why) f e =
          let g = sym (ap (λ (x : Resolution). x.settled) (lists-next why c f)) ∙ e in
          (c, f ∙ ap Err (settled_same g))

      table : (v : Verdict) → check_of banks ≡ v → (layout_of banks l choices).settled ≡ Err (Malformed place)
          → (check_of banks ≡ Accepted) × (lists_of banks.len l choices.fill ≡ Err (Malformed place))
      table Accepted f e = lists-too f (lists_of banks.len l choices.fill) refl e
      table (Err why) f e =
          let g = sym (ap (λ (x : Resolution). x.settled) (table-first why f)) ∙ e in
          let low = table-number banks (check_of banks) (decided banks) why f in
          let four : number_of why ≡ 4 = ap number_of (settled_same g) in
          absurd (let b : ⊥ = omega arith in b)

  -- ---- K

  gives-settled : (x : Result ℕ Refusal) (k : ℕ) → told_settled x ≡ gives k → x ≡ Ok k
  gives-settled (Ok j) k e = ap Ok (gives_same e)
    where
      gives_same : {a b : ℕ} → gives a ≡ gives b → a ≡ b
      gives_same e = cc
  gives-settled (Err why) k e = absurd (let z : ◌≡◌ {A = ℕ} 0 1 = cc in let b : ⊥ = omega arith in b)

  settles-so : (k : ℕ) (x : Result ℕ Refusal) → Settles x → last_of k x ≡ Ok k
  settles-so k x s = rw (s.1, s.2)

  -- the layout that settles at k
  settles-at : (k n : ℕ) → SettlesAt banks l choices k n → layout_of banks l choices ≡ record { settled = Ok k; passes = n }
  settles-at k n s = checked-passes s.checked ∙ by-limit (eqb choices.limit 0) refl (eqb k choices.limit) refl
    where
      within : k ≤ choices.limit
      within = s.is.within

      so : (p j : ℕ) → resolution_of banks l choices.limit ≡ record { settled = last_of j (pass_at banks l p true); passes = p } → p ≡ n → j ≡ k
          → resolution_of banks l choices.limit ≡ record { settled = Ok k; passes = n }
      so p j e q w = e ∙ rw (q, w, settles-so k (pass_at banks l n true) s.last)

      by-limit : (a : Bool) → eqb choices.limit 0 ≡ a → (b : Bool) → eqb k choices.limit ≡ b
          → resolution_of banks l choices.limit ≡ record { settled = Ok k; passes = n }
      by-limit true z b f =
          let zero : choices.limit ≡ 0 = eqb-true choices.limit 0 z in
          let none : k ≡ 0 = s.is.none zero in
          let c : n ≡ 1 = s.count ∙ rw (none, zero) in
          so 1 0 (at_zero (pass_at banks l) choices.limit zero) (sym c) (sym none)
      by-limit false z true f =
          let other = eqb-false choices.limit 0 z in
          let same : k ≡ choices.limit = eqb-true k choices.limit f in
          let some : 0 < choices.limit = omega arith in
          let c : n ≡ k = s.count ∙ rw (f, lt-ltb 0 choices.limit some) in
          let open-before : (p : ℕ) → 1 ≤ p → p < choices.limit → unresolved (pass_at banks l p false) ≡ true = rw same at s.is.before in
          so choices.limit choices.limit (settled-limit (pass_at banks l) choices.limit choices.limit (omega arith) open-before)
          (omega arith) (sym same)
      by-limit false z false f =
          let other = eqb-false choices.limit 0 z in
          let apart = eqb-false k choices.limit f in
          let some : 0 < choices.limit = omega arith in
          let less : k < choices.limit = omega arith in
          let c : n ≡ k + 1 = s.count ∙ rw f in
          let settled : Settles (pass_at banks l k false) = rw f at (s.is.settled some) in
          let r : SettlesBelow (pass_at banks l) choices.limit k = record {
            runs = record
                { counted = s.is.counted some; below = less; unsettled = s.is.before };
            settles = settled;
          } in
          so (k + 1) k (settled-below (pass_at banks l) choices.limit k r) (sym c) refl

  -- An accepted layout has passed its checks.
  pub checked-of : (k : ℕ) → (layout_of banks l choices).settled ≡ Ok k → Checked banks l choices.fill
  checked-of k e = from (check_of banks) refl (lists_of banks.len l choices.fill) refl
    where
      never : {why : Refusal} {n : ℕ} → layout_of banks l choices ≡ record { settled = Err why; passes = n } → ⊥
      never f =
          let g = sym (ap (λ (x : Resolution). x.settled) f) ∙ e in
          let z : ◌≡◌ {A = ℕ} 0 1 = cc in
          omega arith

      from : (v : Verdict) → check_of banks ≡ v → (w : Verdict) → lists_of banks.len l choices.fill ≡ w → Checked banks l choices.fill
      from Accepted f Accepted g = record { table = f; lists = g }
      from Accepted f (Err why) g = absurd (never (lists-next why f g))
      from (Err why) f w g = absurd (never (table-first why f))

  -- K and the passes run, exactly.
  pub K-exactly : (k n : ℕ) → ((told_settled (layout_of banks l choices).settled ≡ gives k) × ((layout_of banks l choices).passes ≡ n)) ↔
      SettlesAt banks l choices k n
  K-exactly k n = (
    λ e.
        let f = gives-settled (layout_of banks l choices).settled k e.0 in
        let t = accepted-layout banks l choices k f in
        record {
          checked = checked-of k f;
          is = t.0;
          count = sym e.1 ∙ t.1;
          last = subst (λ (x : ℕ). Settles (pass_at banks l x true)) e.1 t.2;
        },
    λ s. let e = settles-at k n s in (rw e, ap (λ (r : Resolution). r.passes) e),
  )

  -- The layout's answer in figures, as its contract has it.
  pub layout-figures : Figures banks l choices (layout_of banks l choices)
  layout-figures = record {
    table = λ why e. (settled-as why (table-first why e), run_of (table-first why e));
    lists = λ why e f. (settled-as why (lists-next why e f), run_of (lists-next why e f));
    four = four-exactly;
    five = five-exactly;
    six = six-not-given;
    seven = seven-exactly;
    eight = eight-exactly;
    run-five = λ i s. run_of (stops-decides i (PositionPast i) (first_past i s));
    run-seven = λ i s. run_of (off-decides i s);
    run-eight = λ s. run_of (ending-decides s);
    accepted = K-exactly;
  }
