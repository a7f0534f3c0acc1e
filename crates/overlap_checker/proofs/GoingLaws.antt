-- Laws that Theorems/Going rests on.
use Rattle.std.specs.Prelude.{◌≡◌, refl, false, List, [], ◌∷◌, ℕ, ◌+◌, ◌≤◌, length, take}
use Rattle.std.proofs.Common.{sym, ap, ◌∙◌, ⊎_elim, arith, length-append, length-take, length-drop}
use mathlib.Core.List.Memᴰ
use Rattle.prelude.specs.Laws.Bools.{neither}
use Rattle.prelude.specs.Limits.{max_stored}
use Rattle.overlap_checker.specs.declared.Entry.{Entry}
use Rattle.overlap_checker.specs.Interval.{interval, end, Within}
use Rattle.overlap_checker.specs.Offers.{place_for, clashes_any}
use Rattle.overlap_checker.specs.Marks.{count_below}
use Rattle.overlap_checker.specs.Rising.{Rising}
use Rattle.overlap_checker.specs.Laws.Rising.{place-counts, starts-rising}
use Rattle.overlap_checker.specs.Laws.MarkLaws.{Resting, resting, resting-rising, orderly, resting-inserted}
use Rattle.overlap_checker.proofs.MarkLaws.{resting-marked}
use Rattle.overlap_checker.proofs.MarkLaws.{length_marked}
use Rattle.overlap_checker.specs.State.{State, empty_state, inserted, after}
use Rattle.overlap_checker.specs.Lent.{Spans, Lent, spans_of, zipped, held_in, held, held_marks, state_in, Intact, Sound, laid_into, starts, lengths}
use Rattle.overlap_checker.specs.Folds.{state_after, AllWithin}
use Rattle.overlap_checker.specs.Laws.Ascending.{lt-or-le}
use Rattle.overlap_checker.specs.Ascending.{Sits, Ascending}
use Rattle.overlap_checker.specs.Theorems.Ascending.{ascending, faultless}
use Rattle.overlap_checker.specs.Laws.Neighbours.{place-le, none_below, one_below, ends_low, ends-high}
use Rattle.overlap_checker.specs.Theorems.Answers.{clear_apart, after-either}
use Rattle.overlap_checker.specs.Laws.Laid.{starts-length, lengths-length, laid-length, laid-front, held-laid, laid-state}
use Rattle.overlap_checker.specs.Laws.Laid as laws

-- ---- an interval put in

-- Ascending entries with an interval put in at its place, that clashes with none, are ascending.
pub ascending-inserted : (floor : ℕ) (l : List Entry) (e : Entry) → Ascending floor l → clashes_any e l ≡ false → Sits floor e
    → Ascending floor (inserted l e)
unfolding place_for clashes_any
ascending-inserted floor [] e a none s = (s, tt)
ascending-inserted floor (f ∷ l) e a none s =
    let (here, rest) = neither _ _ none in
    ⊎_elim
    (λ low. rw (one_below e.position f l a low)
    (a.0, ascending-inserted (end f) l e a.1 rest (record { above = ends_low e f here low; nonempty = s.nonempty; within = s.within })))
    (λ high. rw (none_below e.position f l a high)
    (s, (record { above = ends-high e f here a.0.nonempty high; nonempty = a.0.nonempty; within = a.0.within }, a.1)))
    (lt-or-le f.position e.position)

pub length_inserted : (l : List Entry) (e : Entry) → length (inserted l e) ≡ length l + 1
length_inserted l e =
    let low = place-le e.position l in
    simp (length-append, length-take, length-drop) (omega arith)

-- ---- the pure state

-- at most 512 intervals and as many marks, none at fault
pub record Fits (s : State) : Type 0 where
  pub few : length s.intervals ≤ max_stored
  pub up : Ascending 0 s.intervals
  pub few_marks : length s.marks ≤ max_stored
  pub rests : Resting s.intervals 0 s.marks

pub fits-empty : Fits empty_state
fits-empty = record { few = omega arith; up = tt; few_marks = omega arith; rests = tt }

-- an offer of size 0 clashes as its position alone
of_none : (s : State) (e : Entry) → e.size ≡ 0 → clashes_any e s.intervals ≡ false → clashes_any (interval e.position 0) s.intervals ≡ false
of_none s e z h = ap (λ (n : ℕ). clashes_any (interval e.position n) s.intervals) (sym z) ∙ h

pub fits_after : (s : State) (e : Entry) → Within e → Fits s → Fits (after s e)
fits_after s e within f =
    after-either s e Fits f
    (λ clear n room. let apart = clear_apart s e clear in
    record {
      few = omega (arith, length_inserted s.intervals e);
      up = ascending-inserted 0 s.intervals e f.up apart.0 (record { above = omega arith; nonempty = n; within = within });
      few_marks = f.few_marks;
      rests = resting-inserted s.intervals e 0 s.marks f.rests apart.1;
    })
    (λ clear z room.
    record {
      few = f.few;
      up = f.up;
      few_marks = omega (arith, length_marked s.marks e.position);
      rests =
          resting-marked s.intervals e.position 0 s.marks f.rests
          (record { above = omega arith; within = within.0; outside = of_none s e z (clear_apart s e clear).0 });
    })

pub fits-folded : (s : State) (es : List Entry) → AllWithin es → Fits s → Fits (state_after s es)
unfolding state_after
fits-folded s [] w f = f
fits-folded s (e ∷ es) w f =
    fits-folded (after s e) es (λ g m. w g (Memᴰ.tail m)) (fits_after s e (w e (Memᴰ.head refl)) f)

-- the counts never fall
pub record Grown (s t : State) : Type 0 where
  pub intervals : length s.intervals ≤ length t.intervals
  pub marks : length s.marks ≤ length t.marks

pub after-grows : (s : State) (e : Entry) → Grown s (after s e)
after-grows s e =
    after-either s e (Grown s) (record { intervals = omega arith; marks = omega arith })
    (λ clear n room. record { intervals = omega (arith, length_inserted s.intervals e); marks = omega arith })
    (λ clear z room. record { intervals = omega arith; marks = omega (arith, length_marked s.marks e.position) })

pub folded_grows : (s : State) (es : List Entry) → Grown s (state_after s es)
unfolding state_after
folded_grows s [] = record { intervals = omega arith; marks = omega arith }
folded_grows s (e ∷ es) =
    let rest = folded_grows (after s e) es in
    let one = after-grows s e in
    record { intervals = omega (arith, one.intervals, rest.intervals); marks = omega (arith, one.marks, rest.marks) }

-- ---- the arrays

-- two arrays with intervals of which none is at fault
module _ (a : Spans) (s : Intact a) where
  pub length-in : length (held_in a) ≡ a.count
  length-in = laws.held-length a s.few s.wide s.long

  pub ascends-in : Ascending 0 (held_in a)
  ascends-in = ascending 0 (held_in a) s.faultless

  -- the starts are in order, and the place of an offer is how many of them are below it
  pub starts-rise : Rising 0 (take a.count a.positions)
  starts-rise = rw (laws.starts-held a s.few s.wide s.long) at (starts-rising 0 (held_in a) ascends-in)

  pub place-is-count : (p : ℕ) → place_for p (held_in a) ≡ count_below p (take a.count a.positions)
  place-is-count p = place-counts p (held_in a) ∙ ap (count_below p) (laws.starts-held a s.few s.wide s.long)

module _ (a : Lent) (s : Sound a) where
  pub intact : Intact (spans_of a)
  intact = record { few = s.few; wide = s.wide; long = s.long; faultless = s.faultless }

  pub held-length : length (held a) ≡ a.count
  held-length = length-in (spans_of a) intact

  pub held-ascends : Ascending 0 (held a)
  held-ascends = ascending 0 (held a) s.faultless

  pub marks-length : length (held_marks a) ≡ a.mark_count
  marks-length = laws.marks-length a s.few s.wide s.long s.few_marks s.broad

  pub marks-rest : Resting (held a) 0 (held_marks a)
  marks-rest = resting (held a) 0 (held_marks a) s.orderly

  pub marks-rise : Rising 0 (held_marks a)
  marks-rise = resting-rising (held a) 0 (held_marks a) marks-rest

  pub fits_in : Fits (state_in a)
  fits_in =
      record {
        few = omega (arith, held-length, s.few);
        up = held-ascends;
        few_marks = omega (arith, marks-length, s.few_marks);
        rests = marks-rest;
      }

  pub laid-again : laid_into a (state_in a) ≡ a
  laid-again = laid-state a s.few s.wide s.long s.few_marks s.broad

-- a state that fits, laid into arrays of 512, is sound
pub sound-laid : (a : Lent) (s : State) → length a.positions ≡ max_stored → length a.sizes ≡ max_stored → length a.marks ≡ max_stored → Fits s
    → Sound (laid_into a s)
sound-laid a s wide long broad f =
    let l = s.intervals in
    let is = held-laid (spans_of a) l in
    record {
      few = f.few;
      wide = laid-length (starts l) a.positions (omega (arith, starts-length l, f.few)) ∙ wide;
      long = laid-length (lengths l) a.sizes (omega (arith, lengths-length l, f.few)) ∙ long;
      faultless = rw is (faultless 0 l f.up);
      few_marks = f.few_marks;
      broad = laid-length s.marks a.marks (omega (arith, f.few_marks)) ∙ broad;
      orderly = rw (is, laid-front s.marks a.marks) (orderly l 0 s.marks f.rests);
    }

-- ---- to begin with

-- Any store whose counts are 0 is empty, whatever its arrays hold, and it is sound.
pub state-none : (a : Lent) → a.count ≡ 0 → a.mark_count ≡ 0 → state_in a ≡ empty_state
unfolding zipped
state-none a none bare = rw (none, bare)
