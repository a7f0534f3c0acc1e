-- Laws that Theorems/Places rests on.
use Prim.Native.Nat.{ℕ, zero, suc, ◌+◌, ◌-◌, ◌*◌, ◌≤◌}
use Rattle.std.specs.Prelude.{◌≡◌, refl, Bool, true, false, not, ◌&&◌, List, [], ◌∷◌, ltb, eqb, length, get_or, Err, Result, Ok, Option, None, Some}
use Rattle.std.proofs.Common.{sym, subst, inl, inr, leb-true, ltb-true, length-take}
use native.Mathlib.Omega.{arith}
use Rattle.prelude.specs.Laws.Bools.{both}
use Rattle.prelude.specs.Limits.{max_offer, max_position}
use Rattle.prelude.specs.Pick.{pick}
use Rattle.prelude.specs.declared.Refusal.{Refusal}
use Rattle.prelude.specs.declared.Refusal.TheVariants.{Malformed, Unresolved, DefaultBank, PastBank, NoOutput, Overlap, StoreFull, TooShort, OffProfile}
use Rattle.prelude.specs.Verdict.{Accepted, Verdict}
use Rattle.bankdef.specs.Check.{check_of}
use Rattle.bankdef.specs.Refused.{Decided, count, number, pair, sound}
use Rattle.bankdef.specs.Theorems.Refused.{decided}
use Rattle.bankdef.specs.declared.Bankdefs.{Bankdefs}
use Rattle.nodes.specs.Kinds.{size_of}
use Rattle.nodes.specs.declared.Node.{Node}
use Rattle.iter.specs.declared.Pos.{Pos}
use Rattle.resolver.proofs.Ends.{Ending, early, last, ends}
use Rattle.resolver.specs.Layout.{unless, layout_of}
use Rattle.nodes.specs.Lists.{Lists, Row, lists_of, nodes_to, node_fault, known_fill, node_count_sound, row_count_sound, first_of}
use Rattle.resolver.specs.Theorems.NodeOrder.{StopsAt, first-met}
use Rattle.resolver.specs.NodeOrder.{seen_at, def_at}
use Rattle.resolver.specs.Once.{Program, node, walk_to, bank_record}
use Rattle.resolver.specs.Passes.{program, row_of_pass, pass_at, last_of, resolution_of, first}
use Rattle.resolver.specs.Laws.StepRefusals.{Refusable, step-refusals}
use Rattle.resolver.specs.declared.Choices.{Choices}
use Rattle.resolver.specs.declared.Resolution.{Resolution}
use Rattle.overlap_checker.specs.Ascending.{Ascending}
use Rattle.overlap_checker.specs.Entries.{entry_at, entry_before}
use Rattle.overlap_checker.specs.Folds.{state_after}
use Rattle.overlap_checker.proofs.GoingLaws.{Fits, fits-empty, fits_after}
use Rattle.overlap_checker.specs.Interval.{interval, end, strictly_inside, clashes, Within}
use Rattle.overlap_checker.specs.Marks.{lowest_inside}
use Rattle.overlap_checker.specs.Offers.{place_for, clashes_any, named, lacks_room}
use Rattle.overlap_checker.specs.State as store
use Rattle.overlap_checker.specs.State.{meets, tries, named_in}
use Rattle.overlap_checker.specs.declared.Entry.{Entry}
use Rattle.build_profile.specs.OneBit.{one_bit}
use Rattle.build_profile.specs.Profile.{verdict_of}
use Rattle.build_profile.specs.Rules.{bank_aligned, on_page, whole_pages, unit_kept, first_broken, all, ruled, aligns_kept, addrs_kept, rules_of}
use Rattle.blocks.specs.Spans.{offset_within}
use Rattle.build_visits.specs.Items.{is_written}
use Rattle.output.specs.Output.{Room, placed_build}
use Rattle.output.specs.declared.Built.{Built}
use Rattle.output.specs.Built.{done_with}
use Rattle.build_plan.specs.Placing.{is_placed, is_offered, bits_at, uses_default, ends_past, lacks_output, checked, answered, placing}
use Rattle.build_plan.specs.Placing.{verdict_seen, verdict_on, offer_of}
use Rattle.build_plan.specs.Placing.{Placed, holds, stops, placed_if, placed_next, placed_from, placed_all}
use Rattle.build_plan.specs.Laws.PlacingLaws.{placed-last}
use Rattle.build_visits.specs.Visits.{visit_at, visits_to}
use Rattle.build_visits.specs.declared.Visit.{Visit}
use Rattle.print_report.specs.Blocks.{farthest}
use Rattle.print_report.specs.Laws.Fitting.{small, span_fits}
use Rattle.print_report.specs.Steps.{OffsetsFit}
use Rattle.print_report.specs.Places.{Near, build_sum, sum_of}

none-near : Near Accepted
none-near = record { near = omega arith }

choice-near : (t : Bool) (v w : Verdict) → Near v → Near w → Near (pick t v w)
choice-near true v w a b = a
choice-near false v w a b = b

first-near : (v w : Verdict) → Near v → Near w → Near (first_of v w)
first-near Accepted w a b = b
first-near (Err why) w a b = a

-- ---- the table and the lists

table-decided : {t : Bankdefs} {v : Verdict} → t.len ≤ max_position → Decided t v → Near v
table-decided h (count e) = record { near = omega arith }
table-decided {t} h (number e f) = record { near = omega (arith, f.there, length-take t.len t.defs) }
table-decided {t} h (pair e f g) = record { near = omega (arith, g.at.there, g.at.rising, length-take t.len t.defs) }
table-decided h (sound e f g) = none-near

table-near : (t : Bankdefs) → t.len ≤ max_position → Near (check_of t)
table-near t h = table-decided h (decided t)

malformed-near : (i : ℕ) → i ≤ max_position → Near (Err (Malformed i))
malformed-near i h = record { near = omega arith }

nodes-near : (banks : ℕ) (l : Lists) (n : ℕ) → n ≤ max_position → Near (nodes_to banks l n)
unfolding nodes_to
nodes-near banks l zero h = none-near
nodes-near banks l (suc n) h =
    first-near (nodes_to banks l n) (pick (node_fault banks l n) (Err (Malformed n)) Accepted) (nodes-near banks l n (omega arith))
    (choice-near (node_fault banks l n) (Err (Malformed n)) Accepted (malformed-near n (omega arith)) none-near)

lists-near : (banks : ℕ) (l : Lists) (fill : ℕ) → length l.kinds ≤ max_position → Near (lists_of banks l fill)
unfolding lists_of
lists-near banks l fill h =
    let nodes = nodes_to banks l (length l.kinds) in
    let known = pick (known_fill fill) nodes (Err (Malformed 3)) in
    let rows = pick (row_count_sound l) known (Err (Malformed 1)) in
    choice-near (node_count_sound l) rows (Err (Malformed 0))
    (choice-near (row_count_sound l) known (Err (Malformed 1))
    (choice-near (known_fill fill) nodes (Err (Malformed 3)) (nodes-near banks l (length l.kinds) h) (malformed-near 3 (omega arith)))
    (malformed-near 1 (omega arith)))
    (malformed-near 0 (omega arith))

-- ---- the profile

first-within : (test : ℕ → Bool) (from n : ℕ) → first test from n ≤ from + n
unfolding first
first-within test from zero = omega arith
first-within test from (suc n) = go (test from) (first-within test (suc from) n)
  where
    go : (t : Bool) → first test (suc from) n ≤ suc from + n → pick t from (first test (suc from) n) ≤ from + suc n
    go true h = omega arith
    go false h = omega arith

ruled-near : (rule : ℕ) (keeps : ℕ → Bool) (n : ℕ) → rule ≤ 6 → n ≤ max_position → Near (ruled rule keeps n)
ruled-near rule keeps n r h =
    choice-near (all keeps n) Accepted (Err (OffProfile rule (first_broken keeps n))) none-near
    (record { near = omega (arith, first-within (λ k. not (keeps k)) 0 n) })

module _ (banks : Bankdefs) (l : Lists) (few-banks : banks.len ≤ max_position) (few-nodes : length l.kinds ≤ max_position) where
  rules-near : (page : ℕ) → Near (rules_of banks l page)
  unfolding rules_of
  rules-near page =
      first-near _ _ (ruled-near 1 (λ k. one_bit page) 1 (omega arith) (omega arith))
      (first-near _ _ (ruled-near 2 (λ k. bank_aligned (bank_record banks k).align) banks.len (omega arith) few-banks)
      (first-near _ _ (ruled-near 2 (aligns_kept l) (length l.kinds) (omega arith) few-nodes)
      (first-near _ _ (ruled-near 3 (λ k. on_page page (bank_record banks k).offset) banks.len (omega arith) few-banks)
      (first-near _ _ (ruled-near 4 (λ k. whole_pages page (bank_record banks k).offset (bank_record banks k).size) banks.len (omega arith) few-banks)
      (first-near _ _ (ruled-near 5 (λ k. unit_kept (bank_record banks k).unit) banks.len (omega arith) few-banks)
      (ruled-near 6 (addrs_kept banks l) (length l.kinds) (omega arith) few-nodes))))))

  pub said-near : (fill page : ℕ) → Near (verdict_of banks l fill page)
  unfolding verdict_of
  said-near fill page =
      first-near _ _ (table-near banks few-banks) (first-near _ _ (lists-near banks.len l fill few-nodes) (rules-near page))

-- ---- the passes

stopped-near : {i : ℕ} {why : Refusal} → i ≤ max_position → Refusable i why → sum_of why ≤ farthest
stopped-near h (inl e) = rw e (omega arith)
stopped-near h (inr e) = rw e (omega arith)

abbrev pub settled_sum : Result ℕ Refusal → ℕ
settled_sum (Ok k) = 0
settled_sum (Err why) = sum_of why

module _ (banks : Bankdefs) (l : Lists) (few-banks : banks.len ≤ max_position) (few-nodes : length l.kinds ≤ max_position) where
  met-near : (row : Row) (is_last : Bool) (i : ℕ) (why : Refusal) → i ≤ max_position → StopsAt (program banks l) row is_last i why → sum_of why ≤ farthest
  met-near row is_last i why h (inl e) =
      stopped-near h (step-refusals (def_at (program banks l) row i) (node (program banks l) row i) (walk_to (program banks l) row i) why e)
  met-near row is_last i why h (inr e) = rw e.2 (omega arith)

  pass-near : (n : ℕ) (is_last : Bool) (why : Refusal) → pass_at banks l n is_last ≡ Err why → sum_of why ≤ farthest
  pass-near n is_last why e =
      let m = first-met (program banks l) (row_of_pass l n) (row_of_pass l (n - 1)) (eqb n 1) is_last why e in
      met-near (row_of_pass l n) is_last m.0 why (omega (arith, m.1.listed)) m.1.here

  last-near : (k n : ℕ) (x : Result ℕ Refusal) → pass_at banks l n true ≡ x → settled_sum (last_of k x) ≤ farthest
  last-near k n (Ok s) e = either (eqb s 2)
    where
      either : (t : Bool) → settled_sum (pick t (Err Unresolved) (Ok k)) ≤ farthest
      either true = omega arith
      either false = omega arith
  last-near k n (Err why) e = pass-near n true why e

  resolution-near : (m : ℕ) → settled_sum (resolution_of banks l m).settled ≤ farthest
  resolution-near m = from (ends (pass_at banks l) m)
    where
      from : {r : Resolution} → Ending (pass_at banks l) m r → settled_sum r.settled ≤ farthest
      from (early n why runs e q) = subst (λ (x : Resolution). settled_sum x.settled ≤ farthest) (sym q) (pass-near n false why e)
      from (last n k runs q) = subst (λ (x : Resolution). settled_sum x.settled ≤ farthest) (sym q) (last-near k n (pass_at banks l n true) refl)

  unless-near : (v : Verdict) (r : Resolution) → Near v → settled_sum r.settled ≤ farthest → settled_sum (unless v r).settled ≤ farthest
  unless-near Accepted r a b = b
  unless-near (Err why) r a b = a.near

  pub layout-near : (choices : Choices) → settled_sum (layout_of banks l choices).settled ≤ farthest
  unfolding layout_of
  layout-near choices =
      unless-near (check_of banks) (unless (lists_of banks.len l choices.fill) (resolution_of banks l choices.limit)) (table-near banks few-banks)
      (unless-near (lists_of banks.len l choices.fill) (resolution_of banks l choices.limit) (lists-near banks.len l choices.fill few-nodes)
      (resolution-near choices.limit))

-- ---- the nodes of the row: 12 names what is stored, and all that is stored is within an offer's limits

entry-near : (floor : ℕ) (l : List Entry) → Ascending floor l → (i : ℕ) → end (entry_at l i) ≤ farthest
entry-near floor [] a i = omega arith
entry-near floor (f ∷ l) a zero = omega (arith, a.0.within.0, a.0.within.1)
entry-near floor (f ∷ l) a (suc i) = entry-near (end f) l a.1 i

before-near : (l : List Entry) → Ascending 0 l → (i : ℕ) → end (entry_before l i) ≤ farthest
before-near l a zero = omega arith
before-near l a (suc i) = entry-near 0 l a i

-- a mark that is named is inside the offer
lowest-near : (e : Entry) (ms : List ℕ) → lowest_inside e ms ≤ end e
unfolding lowest_inside strictly_inside
lowest-near e [] = omega arith
lowest-near e (m ∷ ms) = go (strictly_inside m e) refl (lowest-near e ms)
  where
    go : (t : Bool) → (ltb e.position m && ltb m (end e)) ≡ t → lowest_inside e ms ≤ end e → pick t m (lowest_inside e ms) ≤ end e
    go true q h = omega (arith, ltb-true m (end e) (both (ltb e.position m) (ltb m (end e)) q).1)
    go false q h = h

choice-entry : (t : Bool) (x y : Entry) → end x ≤ farthest → end y ≤ farthest → end (pick t x y) ≤ farthest
choice-entry true x y a b = a
choice-entry false x y a b = b

named-near : (s : store.State) (e : Entry) → Fits s → Within e → end (named_in s e) ≤ farthest
unfolding named_in named
named-near s e f w =
    let l = s.intervals in
    let i = place_for e.position l in
    choice-entry (clashes_any e l) (pick (clashes e (entry_at l i)) (entry_at l i) (entry_before l i)) (interval (lowest_inside e s.marks) 0)
    (choice-entry (clashes e (entry_at l i)) (entry_at l i) (entry_before l i) (entry-near 0 l f.up i) (before-near l f.up i))
    (omega (arith, lowest-near e s.marks, w.0, w.1))

answered-near : (s : store.State) (n : ℕ) (t : Bool) (out : Option ℕ) (node : Node) → Fits s → n ≤ max_position → offset_within out ≡ true
    → node.number ≤ max_position → Near (answered s n (pick t (bits_at out node) []))
unfolding tries
answered-near s n false out node f h w g = none-near
answered-near s n true None node f h w g = none-near
answered-near s n true (Some o) node f h w g =
    let e = interval o node.number in
    let lacks = lacks_room (length s.intervals) (length s.marks) e.size in
    choice-near (meets s e) (Err (Overlap (named_in s e).position (named_in s e).size)) (pick lacks (Err (StoreFull n)) Accepted)
    (record { near = named-near s e f (leb-true o max_offer w, g) })
    (choice-near lacks (Err (StoreFull n)) Accepted (record { near = omega arith }) none-near)

stored-fits : (s : store.State) (t : Bool) (out : Option ℕ) (node : Node) → Fits s → offset_within out ≡ true → node.number ≤ max_position
    → Fits (state_after s (pick t (bits_at out node) []))
unfolding state_after
stored-fits s false out node f w g = f
stored-fits s true None node f w g = f
stored-fits s true (Some o) node f w g = fits_after s (interval o node.number) (leb-true o max_offer w, g) f

module _ (closed : Bool) (s : store.State) (v : Visit) (f : Fits s) (h : v.node.index ≤ max_position) (w : offset_within v.out ≡ true)
    (g : v.node.number ≤ max_position) where
  checked-near : (at : Pos) → Near (checked closed v.bank v.def v.node at v.out)
  unfolding checked
  checked-near at =
      let nowhere = is_written v.node && lacks_output v.out in
      let past = ends_past v.def.size (at.position + size_of v.node) in
      let eleven = pick nowhere (Err (NoOutput v.node.index)) Accepted in
      let ten = pick past (Err (PastBank v.node.index)) eleven in
      choice-near (uses_default closed v.bank) (Err (DefaultBank v.node.index)) ten (record { near = omega arith })
      (choice-near past (Err (PastBank v.node.index)) eleven (record { near = omega arith })
      (choice-near nowhere (Err (NoOutput v.node.index)) Accepted (record { near = omega arith }) none-near))

  placing-near : (at : Pos) → Near (placing closed v.bank v.def s v.node at v.out)
  placing-near at =
      choice-near (is_placed v.node) (first_of (checked closed v.bank v.def v.node at v.out) (answered s v.node.index (offer_of v))) Accepted
      (first-near (checked closed v.bank v.def v.node at v.out) (answered s v.node.index (offer_of v)) (checked-near at)
      (answered-near s v.node.index (is_offered v.node) v.out v.node f h w g))
      none-near

-- what is stored fits, or what is refused is near
abbrev pub PlacedNear : Placed → Type 0
PlacedNear (holds s) = Fits s
PlacedNear (stops why) = sum_of why ≤ farthest

module _ (p : Program) (row : Row) (closed : Bool) (banks : OffsetsFit p.banks) (initial : (i : ℕ) → get_or p.first i 0 ≤ max_position)
    (numbers : (i : ℕ) → get_or row.numbers i 0 ≤ max_position) where
  out_within : (i : ℕ) → offset_within (visit_at p row i).out ≡ true
  out_within i = (span_fits p row banks initial numbers i).0

  visit-near : (s : store.State) (i : ℕ) → Fits s → i ≤ max_position → Near (verdict_on closed s (visit_at p row i))
  visit-near s i f h = go (seen_at p row i) refl
    where
      go : (seen : Result Pos Refusal) → seen_at p row i ≡ seen
          → Near (verdict_seen closed (visit_at p row i).bank (visit_at p row i).def s (visit_at p row i).node (visit_at p row i).out seen)
      go (Ok at) e = placing-near closed s (visit_at p row i) f h (out_within i) (small p row banks initial numbers i) at
      go (Err why) e = record { near = stopped-near h (step-refusals (def_at p row i) (node p row i) (walk_to p row i) why e) }

  next-near : (i : ℕ) → i ≤ max_position → (q : Placed) → PlacedNear q → PlacedNear (placed_next closed (visit_at p row i) q)
  next-near i h (stops why) n = n
  next-near i h (holds s) f =
      go (verdict_on closed s (visit_at p row i)) (state_after s (offer_of (visit_at p row i))) (visit-near s i f h)
      (stored-fits s (is_offered (node p row i)) (visit_at p row i).out (node p row i) f (out_within i) (small p row banks initial numbers i))
    where
      go : (v : Verdict) (t : store.State) → Near v → Fits t → PlacedNear (placed_if v t)
      go Accepted t a b = b
      go (Err why) t a b = a.near

  pub placed-near : (n : ℕ) → n ≤ max_position → PlacedNear (placed_all closed (visits_to p row n))
  unfolding visits_to placed_from
  placed-near zero h = fits-empty
  placed-near (suc n) h =
      rw (placed-last closed (holds store.empty_state) (visits_to p row n) (visit_at p row n))
      (next-near n (omega arith) (placed_all closed (visits_to p row n)) (placed-near n (omega arith)))

choice-build : (t : Bool) (x y : Result Built Refusal) → build_sum x ≤ farthest → build_sum y ≤ farthest → build_sum (pick t x y) ≤ farthest
choice-build true x y a b = a
choice-build false x y a b = b

pub room-near : (room : Room) (k bits spans : ℕ) (q : Placed) → PlacedNear q → build_sum (placed_build room k bits spans q) ≤ farthest
room-near room k bits spans (stops why) h = h
room-near room k bits spans (holds s) h =
    let fits = pick (ltb room.spans spans) (Err (TooShort 1)) (done_with k bits spans) in
    choice-build (ltb (8 * room.image) bits) (Err (TooShort 0)) fits (omega arith)
    (choice-build (ltb room.spans spans) (Err (TooShort 1)) (done_with k bits spans) (omega arith) (omega arith))
