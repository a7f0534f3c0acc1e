-- Laws that Theorems/Nineteen rests on.
use Prim.Native.Nat.{ℕ, zero, suc, ◌+◌, ◌-◌, ◌*◌, ◌<◌}
use Rattle.std.specs.Prelude.{◌≡◌, refl, Bool, true, false, ◌&&◌, List, [], ◌∷◌, eqb, ltb, length, Err, Result, Ok}
use Rattle.std.proofs.Common.{sym, subst, inl, inr}
use native.Mathlib.Omega.{arith}
use Rattle.prelude.specs.Pick.{pick}
use Rattle.prelude.specs.Refusals.{number_of}
use Rattle.prelude.specs.Told.{Told, gives, refuses, told_number}
use Rattle.prelude.specs.declared.Place.TheVariants.{One}
use Rattle.prelude.specs.declared.Refusal.{Refusal}
use Rattle.prelude.specs.declared.Refusal.TheVariants.{Unresolved, DefaultBank, PastBank, NoOutput, Overlap, StoreFull}
use Rattle.prelude.specs.Verdict.{Verdict, Accepted}
use Rattle.bankdef.specs.Check.{check_of}
use Rattle.bankdef.specs.Theorems.Refused.{decided}
use Rattle.bankdef.specs.declared.Bankdefs.{Bankdefs}
use Rattle.iter.specs.declared.Pos.{Pos}
use Rattle.resolver.proofs.Ends.{Ending, early, last, ends}
use Rattle.resolver.specs.Layout.{unless, layout_of}
use Rattle.nodes.specs.Kinds.{size_of}
use Rattle.nodes.specs.Lists.{Lists, Row, lists_of, first_of}
use Rattle.resolver.specs.Theorems.NodeOrder.{StopsAt, first-met}
use Rattle.resolver.specs.NodeOrder.{seen_at, def_at}
use Rattle.resolver.specs.Once.{Program, node, walk_to}
use Rattle.resolver.specs.Passes.{program, row_of_pass, pass_at, last_of, resolution_of}
use Rattle.resolver.specs.Laws.StepRefusals.{Refusable, step-refusals}
use Rattle.resolver.specs.declared.Choices.{Choices}
use Rattle.resolver.specs.declared.Resolution.{Resolution}
use Rattle.overlap_checker.specs.State as store
use Rattle.overlap_checker.specs.Folds.{state_after}
use Rattle.overlap_checker.specs.Offers.{lacks_room}
use Rattle.overlap_checker.specs.State.{meets, tries, named_in}
use Rattle.overlap_checker.specs.declared.Entry.{Entry}
use Rattle.build_visits.specs.Items.{is_written, items_of, length_of}
use Rattle.output.specs.Output.{Input, Room, visits_of, closed_of, fill_of, passes_of}
use Rattle.output.specs.Output.{Figures, room_told, placed_told, settled_told}
use Rattle.build_plan.specs.Placing.{is_placed, uses_default, ends_past, lacks_output, checked, answered, placing, verdict_seen, verdict_on, offer_of}
use Rattle.build_plan.specs.Placing.{Placed, holds, stops, placed_if, placed_next, placed_from, placed_all}
use Rattle.build_plan.specs.Laws.PlacingLaws.{placed-last}
use Rattle.build_visits.specs.Spans.{spans_of}
use Rattle.build_visits.specs.Visits.{visit_at, visits_to}
use Rattle.build_visits.specs.declared.Visit.{Visit}
use Rattle.build_profile.specs.Laws.Exactly.{number_is, table-low, lists-low}

-- ---- numbers of the ordinary build: below 17

either-low : (t : Bool) (v w : Verdict) → number_is v < 17 → number_is w < 17 → number_is (pick t v w) < 17
either-low true v w a b = a
either-low false v w a b = b

first-low : (v w : Verdict) → number_is v < 17 → number_is w < 17 → number_is (first_of v w) < 17
first-low Accepted w a b = b
first-low (Err why) w a b = a

-- what stops a walk
stopped-low : {i : ℕ} {why : Refusal} → Refusable i why → number_of why < 17
stopped-low (inl e) = rw e (omega arith)
stopped-low (inr e) = rw e (omega arith)

-- ---- the passes

abbrev pub settled_number : Result ℕ Refusal → ℕ
settled_number (Ok k) = 0
settled_number (Err why) = number_of why

module _ (banks : Bankdefs) (l : Lists) where
  met-low : (row : Row) (is_last : Bool) (i : ℕ) (why : Refusal) → StopsAt (program banks l) row is_last i why → number_of why < 17
  met-low row is_last i why (inl e) =
      stopped-low (step-refusals (def_at (program banks l) row i) (node (program banks l) row i) (walk_to (program banks l) row i) why e)
  met-low row is_last i why (inr e) = rw e.2 (omega arith)

  pass-low : (n : ℕ) (is_last : Bool) (why : Refusal) → pass_at banks l n is_last ≡ Err why → number_of why < 17
  pass-low n is_last why e =
      let m = first-met (program banks l) (row_of_pass l n) (row_of_pass l (n - 1)) (eqb n 1) is_last why e in
      met-low (row_of_pass l n) is_last m.0 why m.1.here

  last-low : (k n : ℕ) (x : Result ℕ Refusal) → pass_at banks l n true ≡ x → settled_number (last_of k x) < 17
  last-low k n (Ok s) e = either (eqb s 2)
    where
      either : (t : Bool) → settled_number (pick t (Err Unresolved) (Ok k)) < 17
      either true = omega arith
      either false = omega arith
  last-low k n (Err why) e = pass-low n true why e

  resolution-low : (m : ℕ) → settled_number (resolution_of banks l m).settled < 17
  resolution-low m = from (ends (pass_at banks l) m)
    where
      from : {r : Resolution} → Ending (pass_at banks l) m r → settled_number r.settled < 17
      from (early n why runs e q) = subst (λ (x : Resolution). settled_number x.settled < 17) (sym q) (pass-low n false why e)
      from (last n k runs q) = subst (λ (x : Resolution). settled_number x.settled < 17) (sym q) (last-low k n (pass_at banks l n true) refl)

  unless-low : (v : Verdict) (r : Resolution) → number_is v < 17 → settled_number r.settled < 17 → settled_number (unless v r).settled < 17
  unless-low Accepted r a b = b
  unless-low (Err why) r a b = a

  pub layout-low : (choices : Choices) → settled_number (layout_of banks l choices).settled < 17
  unfolding layout_of
  layout-low choices =
      unless-low (check_of banks) (unless (lists_of banks.len l choices.fill) (resolution_of banks l choices.limit))
      (omega (arith, table-low (decided banks)))
      (unless-low (lists_of banks.len l choices.fill) (resolution_of banks l choices.limit) (omega (arith, lists-low banks.len l choices.fill))
      (resolution-low choices.limit))

-- ---- the nodes of the row

offer-low : (s : store.State) (n : ℕ) (offers : List Entry) → number_is (answered s n offers) < 17
unfolding tries
offer-low s n [] = omega arith
offer-low s n (e ∷ none) =
    let lacks = lacks_room (length s.intervals) (length s.marks) e.size in
    either-low (meets s e) (Err (Overlap (named_in s e).position (named_in s e).size)) (pick lacks (Err (StoreFull n)) Accepted) (omega arith)
    (either-low lacks (Err (StoreFull n)) Accepted (omega arith) (omega arith))

module _ (closed : Bool) (s : store.State) (v : Visit) where
  checked-low : (at : Pos) → number_is (checked closed v.bank v.def v.node at v.out) < 17
  unfolding checked
  checked-low at =
      let nowhere = is_written v.node && lacks_output v.out in
      let ends = ends_past v.def.size (at.position + size_of v.node) in
      let eleven = pick nowhere (Err (NoOutput v.node.index)) Accepted in
      let ten = pick ends (Err (PastBank v.node.index)) eleven in
      either-low (uses_default closed v.bank) (Err (DefaultBank v.node.index)) ten (omega arith)
      (either-low ends (Err (PastBank v.node.index)) eleven (omega arith)
      (either-low nowhere (Err (NoOutput v.node.index)) Accepted (omega arith) (omega arith)))

  placing-low : (at : Pos) → number_is (placing closed v.bank v.def s v.node at v.out) < 17
  placing-low at =
      either-low (is_placed v.node) (first_of (checked closed v.bank v.def v.node at v.out) (answered s v.node.index (offer_of v))) Accepted
      (first-low (checked closed v.bank v.def v.node at v.out) (answered s v.node.index (offer_of v)) (checked-low at)
      (offer-low s v.node.index (offer_of v)))
      (omega arith)

abbrev placed_number : Placed → ℕ
placed_number (holds s) = 0
placed_number (stops why) = number_of why

module _ (p : Program) (row : Row) (closed : Bool) where
  visit-low : (s : store.State) (i : ℕ) → number_is (verdict_on closed s (visit_at p row i)) < 17
  visit-low s i = go (seen_at p row i) refl
    where
      go : (seen : Result Pos Refusal) → seen_at p row i ≡ seen
          → number_is (verdict_seen closed (visit_at p row i).bank (visit_at p row i).def s (visit_at p row i).node (visit_at p row i).out seen) < 17
      go (Ok at) e = placing-low closed s (visit_at p row i) at
      go (Err why) e = stopped-low (step-refusals (def_at p row i) (node p row i) (walk_to p row i) why e)

  next_low : (i : ℕ) (q : Placed) → placed_number q < 17 → placed_number (placed_next closed (visit_at p row i) q) < 17
  next_low i (stops why) h = h
  next_low i (holds s) h = go (verdict_on closed s (visit_at p row i)) (state_after s (offer_of (visit_at p row i))) (visit-low s i)
    where
      go : (v : Verdict) (t : store.State) → number_is v < 17 → placed_number (placed_if v t) < 17
      go Accepted t a = omega arith
      go (Err why) t a = a

  placed-low : (n : ℕ) → placed_number (placed_all closed (visits_to p row n)) < 17
  unfolding visits_to placed_from
  placed-low zero = omega arith
  placed-low (suc n) =
      rw (placed-last closed (holds store.empty_state) (visits_to p row n) (visit_at p row n))
      (next_low n (placed_all closed (visits_to p row n)) (placed-low n))

-- ---- the build

told-low : (t : Bool) (x y : Told Figures) → told_number x < 17 → told_number y < 17 → told_number (pick t x y) < 17
told-low true x y a b = a
told-low false x y a b = b

room-low : (room : Room) (k bits spans : ℕ) → told_number (room_told room k bits spans) < 17
room-low room k bits spans =
    let done : Told Figures = gives (record { k = k; length = bits; spans = spans }) in
    let short : Told Figures = pick (ltb room.spans spans) (refuses 14 (One 1)) done in
    told-low (ltb (8 * room.image) bits) (refuses 14 (One 0)) short (omega arith)
    (told-low (ltb room.spans spans) (refuses 14 (One 1)) done (omega arith) (omega arith))

row_low : (room : Room) (k bits spans : ℕ) (q : Placed) → placed_number q < 17 → told_number (placed_told room k bits spans q) < 17
row_low room k bits spans (stops why) h = h
row_low room k bits spans (holds s) h = room-low room k bits spans

pub build-low : (b : Input) (room : Room) (s : Result ℕ Refusal) → settled_number s < 17 → told_number (settled_told b room s) < 17
build-low b room (Err why) h = h
build-low b room (Ok k) h =
    row_low room k (length_of (fill_of b) (items_of (visits_of b (passes_of b)))) (length (spans_of (visits_of b (passes_of b))))
    (placed_all (closed_of b) (visits_of b (passes_of b)))
    (placed-low (program b.banks b.lists) (row_of_pass b.lists (passes_of b)) (closed_of b) (length b.lists.kinds))
