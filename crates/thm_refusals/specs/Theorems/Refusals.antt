-- No refusal without an example. For each number from 1 to 17 the least that gets it, stated over the sentences of the call; that the call gets nothing else
-- there is its `decides`. 6 is no longer given (document 02, Ticket 3). 19 has its examples in meets_profile (Theorems/Cases).
use Rattle.std.specs.Prelude.{◌≡◌, refl, true, List, [], ◌∷◌, ℕ, zero, suc, ◌+◌, ◌<◌, pos, length, get_or, replicate}
use Rattle.std.proofs.Common.{inl, inr, ⊎_elim, arith}
use Rattle.std.proofs.lemmas.List.{get_or-replicate}
use Rattle.bankdef.specs.Check.{first_pair}
use Rattle.bankdef.specs.Fill.{fill_from}
use Rattle.bankdef.specs.Search.{first_where}
use Rattle.iter.specs.Address.{address_of}
use Rattle.iter.specs.Distance.{distance_of}
use Rattle.iter.specs.Step.{start_of, seen_of, moved_on, advanced_of, seen_skips, advance_skips, step_of}
use Rattle.nodes.specs.Lists.{any_row_fault, nodes_to, lists_of}
use Rattle.resolver.specs.Layout.{layout_of}
use Rattle.resolver.specs.Once.{walk_to, pass_to}
use Rattle.resolver.specs.Passes.{first, settled_by}
use Rattle.overlap_checker.specs.Folds.{state_after}
use Rattle.overlap_checker.specs.Interval.{shares_bit, strictly_inside, clashes}
use Rattle.overlap_checker.specs.Marks.{count_below, crosses_any, lowest_inside}
use Rattle.overlap_checker.specs.Offers.{place_for, clashes_any, named, lacks_room}
use Rattle.overlap_checker.specs.State.{meets, tries, named_in, keeping, after}
use Rattle.overlap_checker.specs.declared.Entry.{Entry}
use Rattle.build_visits.specs.Visits.{visits_to, each}
use Rattle.build_visits.specs.Items.{length_of}
use Rattle.build_plan.specs.Placing.{checked, placed_from}
use Rattle.form_fields.specs.Columns.{column}
use Rattle.output.specs.Output.{build_of}
use Rattle.c_tables.specs.Tables.{bank_in, count_of}
use Rattle.says.specs.Words.{refused, passed}
use Rattle.says.specs.Build.{Given, Lent, Outcome, refusal, BuildSays}
use Rattle.says.specs.Store as store
use Rattle.says.specs.Store.{Store, OfferSays}
use Rattle.says.specs.Part as part
use Rattle.says.specs.Part.{PartSays}
use Rattle.says.specs.Overlay as overlay
use Rattle.says.specs.Overlay.{RangeSays}
use Rattle.meets_sentences.specs.Typed.{Typed}
use Rattle.meets_build.specs.Theorems.Promised.{outcome_of, build-exactly}
use Rattle.meets_profile.specs.Theorems.Cases.{within, small}

-- ---- layouts. Bank 0 has a unit of 8 and nothing else; bank 1 has 32 bits, a unit of 8 and these flags: 1 for its size, 2 for its offset, which is 0. One
-- row, and eight value bytes.
abbrev layout : (flags : ℕ) (kinds operands numbers states : List ℕ) → Given
layout flags kinds operands numbers states = record {
  units = 8 ∷ 8 ∷ [];
  starts = pos 0 ∷ pos 0 ∷ [];
  bank_sizes = 0 ∷ 32 ∷ [];
  bank_offsets = 0 ∷ 0 ∷ [];
  aligns = 0 ∷ 0 ∷ [];
  flags = 0 ∷ flags ∷ [];
  fill_bits = 0 ∷ 0 ∷ [];
  kinds = kinds;
  operands = operands;
  numbers = numbers;
  states = states;
  rows = 1;
  values = replicate 8 255;
  limit = 1;
  fill = 0;
  closed = 0;
}

-- a switch to bank 1, and one or three nodes there: kind and number, each in state 0
abbrev one : (flags kind number : ℕ) → Given
one flags kind number = layout flags (1 ∷ kind ∷ []) (1 ∷ 0 ∷ []) (0 ∷ number ∷ []) (0 ∷ 0 ∷ [])

abbrev two : (kind number kind' number' : ℕ) → Given
two kind number kind' number' = layout 3 (1 ∷ kind ∷ kind' ∷ []) (1 ∷ 0 ∷ 0 ∷ []) (0 ∷ number ∷ number' ∷ []) (0 ∷ 0 ∷ 0 ∷ [])

-- no bank; one bank, of this unit, without nodes; and banks 1 and 2, both without size at offset 0
abbrev bare : (units offsets flags zeros : List ℕ) → Given
bare units offsets flags zeros = record {
  units = units;
  starts = replicate (length units) (pos 0);
  bank_sizes = zeros;
  bank_offsets = offsets;
  aligns = zeros;
  flags = flags;
  fill_bits = zeros;
  kinds = [];
  operands = [];
  numbers = [];
  states = [];
  rows = 1;
  values = [];
  limit = 1;
  fill = 0;
  closed = 0;
}

-- lent for it: an image of so many bytes, and as many spans
abbrev room : ℕ → Lent
room n = record { image = replicate n 0; addresses = replicate n (pos 0); offsets = replicate n 0; sizes = replicate n 0 }

-- this layout is refused so, at this place, after so many passes
abbrev Refused : (g : Given) (bytes number place second passes : ℕ) → Type 0
Refused g bytes number place second passes = BuildSays g (room bytes) (refusal g (room bytes) number place second passes)

pub record LayoutRefusals : Type 0 where
  -- 1: no bank at all
  pub no-bank : Refused (bare [] [] [] []) 8 1 0 0 0
  -- 2: bank 0 with an address unit of no bits
  pub unit-of-0 : Refused (bare (0 ∷ []) (0 ∷ []) (0 ∷ []) (0 ∷ [])) 8 2 0 0 0
  -- 3: banks 1 and 2 have an offset of 0 and no size
  pub banks-1-and-2 : Refused (bare (8 ∷ 8 ∷ 8 ∷ []) (0 ∷ 0 ∷ 0 ∷ []) (0 ∷ 2 ∷ 2 ∷ []) (0 ∷ 0 ∷ 0 ∷ [])) 8 3 1 2 0
  -- 4: node 1 is of kind 11
  pub kind-11 : Refused (one 3 11 0) 8 4 1 0 0
  -- 5: an `addr` to the last position, and a reserve of one bit behind it
  pub one-bit-past : Refused (two 9 4294967295 7 1) 8 5 2 0 1
  -- 7: a label four bits behind an address boundary
  pub label-off : Refused (two 7 4 2 0) 8 7 2 0 1
  -- 8: an instruction is unresolved in the one pass that runs
  pub left-unresolved : Refused (layout 3 (1 ∷ 4 ∷ []) (1 ∷ 0 ∷ []) (0 ∷ 8 ∷ []) (0 ∷ 2 ∷ [])) 8 8 0 0 1
  -- 9: a reserve before the switch, in bank 0
  pub in-bank-0 : Refused (layout 3 (7 ∷ []) (0 ∷ []) (8 ∷ []) (0 ∷ [])) 8 9 0 0 1
  -- 10: 33 bits in a bank of 32
  pub one-bit-too-many : Refused (one 3 7 33) 8 10 1 0 1
  -- 11: an item in a bank without offset
  pub no_output : Refused (one 1 4 8) 8 11 1 0 1
  -- 12: eight bits, back to bit 4, and eight more: they meet the first eight
  pub again-at-4 : Refused (layout 3 (1 ∷ 4 ∷ 9 ∷ 4 ∷ []) (1 ∷ 0 ∷ 0 ∷ 0 ∷ []) (0 ∷ 8 ∷ 4 ∷ 8 ∷ []) (0 ∷ 0 ∷ 0 ∷ 0 ∷ [])) 8 12 0 8 1
  -- 14: eight bits, and no byte lent for the image
  pub no-image : Refused (one 3 4 8) 0 14 0 0 1

typed : (flags : ℕ) (kinds operands numbers states : List ℕ) → within 4294967295 numbers ≡ true → Typed (layout flags kinds operands numbers states)
typed flags kinds operands numbers states n = record {
  units = small 65535 (8 ∷ 8 ∷ []) refl;
  sizes = small 4294967295 (0 ∷ 32 ∷ []) refl;
  offsets = small 4294967295 (0 ∷ 0 ∷ []) refl;
  aligns = small 4294967295 (0 ∷ 0 ∷ []) refl;
  numbers = small 4294967295 numbers n;
  limit = omega arith;
}

bare-typed : (units offsets flags zeros : List ℕ) → within 65535 units ≡ true → within 4294967295 offsets ≡ true → within 4294967295 zeros ≡ true
    → Typed (bare units offsets flags zeros)
bare-typed units offsets flags zeros u o z = record {
  units = small 65535 units u;
  sizes = small 4294967295 zeros z;
  offsets = small 4294967295 offsets o;
  aligns = small 4294967295 zeros z;
  numbers = small 4294967295 [] refl;
  limit = omega arith;
}

-- what the definitions come to is what the sentences say
got : (g : Given) (t : Typed g) (old : Lent) (o : Outcome) → o ≡ outcome_of g t old → BuildSays g old o
got g t old o e = (build-exactly g t old o).1 e

pub layout-refusals : LayoutRefusals
unfolding build_of layout_of lists_of nodes_to any_row_fault first_where first_pair fill_from settled_by first pass_to walk_to start_of step_of seen_of moved_on advanced_of
    seen_skips advance_skips distance_of address_of visits_to each checked placed_from state_after after keeping tries meets named_in count_below crosses_any lowest_inside
    place_for clashes_any named lacks_room clashes shares_bit strictly_inside length_of bank_in count_of column
layout-refusals =
    record {
      no-bank = got _ (bare-typed [] [] [] [] refl refl refl) (room 8) _ refl;
      unit-of-0 = got _ (bare-typed (0 ∷ []) (0 ∷ []) (0 ∷ []) (0 ∷ []) refl refl refl) (room 8) _ refl;
      banks-1-and-2 = got _ (bare-typed (8 ∷ 8 ∷ 8 ∷ []) (0 ∷ 0 ∷ 0 ∷ []) (0 ∷ 2 ∷ 2 ∷ []) (0 ∷ 0 ∷ 0 ∷ []) refl refl refl) (room 8) _ refl;
      kind-11 = got _ (typed 3 (1 ∷ 11 ∷ []) (1 ∷ 0 ∷ []) (0 ∷ 0 ∷ []) (0 ∷ 0 ∷ []) refl) (room 8) _ refl;
      one-bit-past = got _ (typed 3 (1 ∷ 9 ∷ 7 ∷ []) (1 ∷ 0 ∷ 0 ∷ []) (0 ∷ 4294967295 ∷ 1 ∷ []) (0 ∷ 0 ∷ 0 ∷ []) refl) (room 8) _ refl;
      label-off = got _ (typed 3 (1 ∷ 7 ∷ 2 ∷ []) (1 ∷ 0 ∷ 0 ∷ []) (0 ∷ 4 ∷ 0 ∷ []) (0 ∷ 0 ∷ 0 ∷ []) refl) (room 8) _ refl;
      left-unresolved = got _ (typed 3 (1 ∷ 4 ∷ []) (1 ∷ 0 ∷ []) (0 ∷ 8 ∷ []) (0 ∷ 2 ∷ []) refl) (room 8) _ refl;
      in-bank-0 = got _ (typed 3 (7 ∷ []) (0 ∷ []) (8 ∷ []) (0 ∷ []) refl) (room 8) _ refl;
      one-bit-too-many = got _ (typed 3 (1 ∷ 7 ∷ []) (1 ∷ 0 ∷ []) (0 ∷ 33 ∷ []) (0 ∷ 0 ∷ []) refl) (room 8) _ refl;
      no_output = got _ (typed 1 (1 ∷ 4 ∷ []) (1 ∷ 0 ∷ []) (0 ∷ 8 ∷ []) (0 ∷ 0 ∷ []) refl) (room 8) _ refl;
      again-at-4 = got _ (typed 3 (1 ∷ 4 ∷ 9 ∷ 4 ∷ []) (1 ∷ 0 ∷ 0 ∷ 0 ∷ []) (0 ∷ 8 ∷ 4 ∷ 8 ∷ []) (0 ∷ 0 ∷ 0 ∷ 0 ∷ []) refl) (room 8) _ refl;
      no-image = got _ (typed 3 (1 ∷ 4 ∷ []) (1 ∷ 0 ∷ []) (0 ∷ 8 ∷ []) (0 ∷ 0 ∷ []) refl) (room 0) _ refl;
    }

-- ---- a store

abbrev offer : ℕ → ℕ → Entry
offer position size = record { position = position; size = size }

-- no interval, and so many marks, all at 0
abbrev marked : (intervals marks : ℕ) → Store
marked intervals marks =
    record { positions = replicate 512 0; sizes = replicate 512 0; count = intervals; marks = replicate 512 0; mark_count = marks }

-- 15: a store that counts 513 intervals
pub too-many-kept : OfferSays (marked 513 0) (offer 0 8) (store.refusal (marked 513 0) (offer 0 8) 15 512 0)
too-many-kept = refused tt (inl (omega arith))

-- 13: a store of 512 marks, and one mark more
pub one-mark-more : OfferSays (marked 0 512) (offer 0 0) (store.refusal (marked 0 512) (offer 0 0) 13 0 0)
one-mark-more =
    passed (λ x. ⊎_elim (λ m. omega arith) (λ m. omega arith))
    (passed (λ i f. no-entry f.so)
    (passed (λ i f. no-bad-mark f.so)
    (passed (λ x. ⊎_elim (λ m. omega arith) (λ m. omega arith))
    (store.full no-overlap (inr (refl, refl))))))
  where
    zero-at : (i : ℕ) → i < 512 → ◌≡◌ {A = ℕ} (get_or (replicate 512 0) i 0) 0
    zero-at i h = get_or-replicate 512 i 0 0 h

    no-entry : {i : ℕ} → store.BadEntry (marked 0 512) i → ⊥
    no-entry (store.position_past m f) = omega arith
    no-entry (store.size-past m f) = omega arith
    no-entry (store.empty m f) = omega arith
    no-entry (store.not-ascending m k f) = omega arith
    no-entry (store.shares-bit m k f g) = omega arith

    no-bad-mark : {i : ℕ} → store.BadMark (marked 0 512) i → ⊥
    no-bad-mark {i} (store.mark-past m f) = omega (arith, zero-at i m)
    no-bad-mark {i} (store.out_of_order {j} m k f) = omega (arith, zero-at j (omega arith))
    no-bad-mark (store.inside-interval m k f) = omega arith

    no-overlap : store.Overlaps (marked 0 512) (offer 0 0) → ⊥
    no-overlap (store.interval (store.shared m p q)) = omega arith
    no-overlap (store.interval (store.inside m z p)) = omega arith
    no-overlap (store.block-over c) = omega (arith, c.1.0, c.1.1)

-- ---- a part of an image, and an overlay

-- 16: no bit at all
pub no_bits : PartSays (0 ∷ []) 0 0 (record { refusal = 16; start = 0; length = 0 })
no_bits = refused tt (part.empty refl)

-- 17: two bytes, of which the overlay's one block covers the first
pub half-covered : RangeSays (1 ∷ 1 ∷ []) (0 ∷ 0 ∷ []) (0 ∷ []) (8 ∷ []) 0 2 (record { refusal = 17; image = 0; start = 0; length = 0 })
half-covered =
    passed (λ x. good) (passed (λ x. inside) (refused tt (
      (0, (omega arith, omega arith), (0, (omega arith, omega arith, omega arith))),
      (8, (omega arith, omega arith), λ c. bare-bit c.0 c.1.0 c.1.2),
    )))
  where
    size_of : (i : ℕ) → i < 1 → ◌≡◌ {A = ℕ} (get_or (8 ∷ []) i 0) 8
    size_of zero h = refl
    size_of (suc i) h = absurd (omega arith)

    start-of : (i : ℕ) → i < 1 → ◌≡◌ {A = ℕ} (get_or (0 ∷ []) i 0) 0
    start-of zero h = refl
    start-of (suc i) h = absurd (omega arith)

    bare-bit : (i : ℕ) → i < 1 → 8 < get_or (0 ∷ []) i 0 + get_or (8 ∷ []) i 0 → ⊥
    bare-bit i h l = omega (arith, size_of i h, start-of i h)

    good : overlay.BadBlocks (1 ∷ 1 ∷ []) (0 ∷ 0 ∷ []) (0 ∷ []) (8 ∷ []) → ⊥
    good (overlay.unpaired n) = n refl
    good (overlay.empty {i} h e) = omega (arith, size_of i h)
    good (overlay.falling h l e) = omega arith
    good (overlay.sharing h a b) = omega (arith, b.0)

    inside : overlay.BadRange (1 ∷ 1 ∷ []) (0 ∷ 0 ∷ []) (0 ∷ []) (8 ∷ []) 0 2 → ⊥
    inside (overlay.empty e) = omega arith
    inside (overlay.past-overlay h) = omega arith
    inside (overlay.past-released h) = omega arith
