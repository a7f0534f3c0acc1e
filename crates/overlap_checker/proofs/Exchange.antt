-- Two offers that are accepted one after the other are accepted the other way round as well, and leave the same state. By the four cases of
-- their sizes: what the second has against the first, the first has against the second.
use Rattle.std.specs.Prelude.{◌≡◌, refl, Bool, true, false, ◌||◌, List, [], ◌∷◌, ℕ, zero, suc, ◌<◌, length}
use Rattle.std.proofs.Common.{sym, ap, ◌∙◌, ⊎_elim, true≢false, arith}
use Rattle.prelude.specs.Laws.Bools.{neither}
use Rattle.prelude.specs.Limits.{max_stored}
use Rattle.prelude.specs.Verdict.{Accepted}
use Rattle.overlap_checker.specs.declared.Entry.{Entry}
use Rattle.overlap_checker.specs.Interval.{Within, strictly_inside, clashes}
use Rattle.overlap_checker.specs.Offers.{place_for, clashes_any}
use Rattle.overlap_checker.specs.Marks.{count_below, crosses_any}
use Rattle.overlap_checker.specs.State.{State, holding, answer, put_at, inserted, marked, after}
use Rattle.overlap_checker.specs.Laws.Ascending.{told, lt-or-le, or-none}
use Rattle.overlap_checker.specs.Ascending.{Ascending}
use Rattle.overlap_checker.specs.Theorems.Bits.{inside-exactly, clash-exactly, clash-empty-exactly}
use Rattle.overlap_checker.specs.Laws.MarkLaws.{crosses-none, resting-rising}
use Rattle.overlap_checker.proofs.MarkLaws.{length_marked}
use Rattle.overlap_checker.specs.Theorems.Answers.{apart-clear, answer-passes, accepted-free, accepted-uncrossed, accepted-room}
use Rattle.overlap_checker.specs.Laws.Answers.{room-below, mark-room}
use Rattle.overlap_checker.specs.Theorems.Answers.{accepted-mark-room, accepted-keeps, keeping-bits, keeping-mark}
use Rattle.overlap_checker.proofs.GoingLaws.{Fits, fits_after, length_inserted}
use Rattle.overlap_checker.proofs.Insertion.{inserted-either, marked-either}

-- ---- tests of a list with one more in it

or_turn : (x y z : Bool) → (x || (y || z)) ≡ (y || (x || z))
or_turn true true z = refl
or_turn true false z = refl
or_turn false true z = refl
or_turn false false z = refl

clash-put : (x e : Entry) (k : ℕ) (l : List Entry) → clashes_any x (put_at k e l) ≡ (clashes x e || clashes_any x l)
unfolding clashes_any
clash-put x e zero l = refl
clash-put x e (suc k) [] = refl
clash-put x e (suc k) (f ∷ l) =
    ap (λ (t : Bool). clashes x f || t) (clash-put x e k l) ∙ or_turn (clashes x f) (clashes x e) (clashes_any x l)

cross-put : (x : Entry) (m k : ℕ) (ms : List ℕ) → crosses_any x (put_at k m ms) ≡ (strictly_inside m x || crosses_any x ms)
unfolding crosses_any
cross-put x m zero ms = refl
cross-put x m (suc k) [] = refl
cross-put x m (suc k) (n ∷ ms) =
    ap (λ (t : Bool). strictly_inside n x || t) (cross-put x m k ms) ∙ or_turn (strictly_inside n x) (strictly_inside m x) (crosses_any x ms)

-- ---- what two offers have against each other

fails : {x y : Bool} → (x ≡ true → y ≡ true) → y ≡ false → x ≡ false
fails {x} f none = ⊎_elim (λ hit. absurd (true≢false (sym (f hit) ∙ none))) (λ out. out) (told x)

-- sharing a bit
clash-turned : (a b : Entry) → 0 < a.size → 0 < b.size → clashes b a ≡ false → clashes a b ≡ false
clash-turned a b n m none = fails (λ hit. let w = (clash-exactly a b n).0 hit in (clash-exactly b a m).1 (w.0, w.2, w.1)) none

starts_apart : (a b : Entry) → 0 < a.size → 0 < b.size → clashes b a ≡ false → a.position ≡ b.position → ⊥
starts_apart a b n m none e =
    true≢false (sym ((clash-exactly b a m).1 (b.position, (omega arith, omega arith), (omega arith, omega arith))) ∙ none)

-- an empty one strictly inside the other
mark-clash : (m e : Entry) → m.size ≡ 0 → strictly_inside m.position e ≡ false → clashes m e ≡ false
mark-clash m e z none = fails (λ hit. (inside-exactly m.position e).1 ((clash-empty-exactly m e z).0 hit)) none

clash-mark : (m e : Entry) → m.size ≡ 0 → clashes m e ≡ false → strictly_inside m.position e ≡ false
clash-mark m e z none = fails (λ hit. (clash-empty-exactly m e z).1 ((inside-exactly m.position e).0 hit)) none

-- ---- one accepted offer

module _ (s : State) (e : Entry) where
  abbrev with_bits : State
  with_bits = holding (inserted s.intervals e) s.marks

  abbrev with_mark : State
  with_mark = holding s.intervals (marked s.marks e.position)

  takes-bits : 0 < e.size → clashes_any e s.intervals ≡ false → crosses_any e s.marks ≡ false → length s.intervals < max_stored
      → answer s e 0 ≡ Accepted
  takes-bits n free out room =
      answer-passes s e 0 (apart-clear s e free out) (room-below (length s.intervals) (length s.marks) e.size n room)

  takes-mark : e.size ≡ 0 → clashes_any e s.intervals ≡ false → length s.marks < max_stored → answer s e 0 ≡ Accepted
  takes-mark z free room =
      answer-passes s e 0 (apart-clear s e free (crosses-none e s.marks z))
      (mark-room (length s.intervals) (length s.marks) e.size z room)

  left-bits : 0 < e.size → answer s e 0 ≡ Accepted → after s e ≡ with_bits
  left-bits n given = accepted-keeps s e 0 given ∙ keeping-bits s e n

  left-mark : e.size ≡ 0 → answer s e 0 ≡ Accepted → after s e ≡ with_mark
  left-mark z given = accepted-keeps s e 0 given ∙ keeping-mark s e z

-- ---- two accepted offers

-- accepted the other way round, with the same left
pub record Exchanged (s : State) (a b : Entry) : Type 0 where
  pub first : answer s b 0 ≡ Accepted
  pub second : answer (after s b) a 0 ≡ Accepted
  pub same : after (after s b) a ≡ after (after s a) b

-- by the states between and at the end
exchanged : (s : State) (a b : Entry) (t u v w : State) → after s a ≡ t → after t b ≡ v → answer s b 0 ≡ Accepted → after s b ≡ u
    → answer u a 0 ≡ Accepted → after u a ≡ w → w ≡ v → Exchanged s a b
exchanged s a b t u v w sa tb first sb second ua one =
    record {
      first = first;
      second = ap (λ (x : State). answer x a 0) sb ∙ second;
      same = ap (λ (x : State). after x a) sb ∙ ua ∙ one ∙ sym (ap (λ (x : State). after x b) sa ∙ tb);
    }

module _ (s : State) (a b : Entry) (fits : Fits s) (wa : Within a) (wb : Within b) (given : answer s a 0 ≡ Accepted)
    (next : answer (after s a) b 0 ≡ Accepted) where
  abbrev l : List Entry
  l = s.intervals

  abbrev ms : List ℕ
  ms = s.marks

  bits-bits : 0 < a.size → 0 < b.size → Exchanged s a b
  bits-bits n m =
      let t = with_bits s a in
      let u = with_bits s b in
      let sa = left-bits s a n given in
      let then : answer t b 0 ≡ Accepted = sym (ap (λ (x : State). answer x b 0) sa) ∙ next in
      let (against, free) = neither _ _ (sym (clash-put b a (place_for a.position l) l) ∙ accepted-free t b 0 then) in
      let room : length (inserted l a) < max_stored = accepted-room t b 0 then m in
      let first = takes-bits s b m free (accepted-uncrossed t b 0 then) (omega (arith, room, length_inserted l a)) in
      let sb = left-bits s b m first in
      let clear = clash-put a b (place_for b.position l) l ∙ or-none (clash-turned a b n m against) (accepted-free s a 0 given) in
      let second = takes-bits u a n clear (accepted-uncrossed s a 0 given) (omega (arith, room, length_inserted l a, length_inserted l b)) in
      let up_a : Ascending 0 (inserted l a) = rw sa at (fits_after s a wa fits).up in
      let up_b : Ascending 0 (inserted l b) = rw sb at (fits_after s b wb fits).up in
      exchanged s a b t u (with_bits t b) (with_bits u a) sa (left-bits t b m then) first sb second (left-bits u a n second)
      (ap (λ (x : List Entry). holding x ms) (inserted-either l a b (starts_apart a b n m against) fits.up up_a up_b))

  bits-mark : 0 < a.size → b.size ≡ 0 → Exchanged s a b
  bits-mark n z =
      let t = with_bits s a in
      let u = with_mark s b in
      let sa = left-bits s a n given in
      let then : answer t b 0 ≡ Accepted = sym (ap (λ (x : State). answer x b 0) sa) ∙ next in
      let (against, free) = neither _ _ (sym (clash-put b a (place_for a.position l) l) ∙ accepted-free t b 0 then) in
      let first = takes-mark s b z free (accepted-mark-room t b 0 then z) in
      let clear = cross-put a b.position (count_below b.position ms) ms ∙ or-none (clash-mark b a z against) (accepted-uncrossed s a 0 given) in
      let second = takes-bits u a n (accepted-free s a 0 given) clear (accepted-room s a 0 given n) in
      exchanged s a b t u (with_mark t b) (with_bits u a) sa (left-mark t b z then) first (left-mark s b z first) second (left-bits u a n second) refl

  mark-bits : a.size ≡ 0 → 0 < b.size → Exchanged s a b
  mark-bits z m =
      let t = with_mark s a in
      let u = with_bits s b in
      let sa = left-mark s a z given in
      let then : answer t b 0 ≡ Accepted = sym (ap (λ (x : State). answer x b 0) sa) ∙ next in
      let (against, out) = neither _ _ (sym (cross-put b a.position (count_below a.position ms) ms) ∙ accepted-uncrossed t b 0 then) in
      let first = takes-bits s b m (accepted-free t b 0 then) out (accepted-room t b 0 then m) in
      let clear = clash-put a b (place_for b.position l) l ∙ or-none (mark-clash a b z against) (accepted-free s a 0 given) in
      let second = takes-mark u a z clear (accepted-mark-room s a 0 given z) in
      exchanged s a b t u (with_bits t b) (with_mark u a) sa (left-bits t b m then) first (left-bits s b m first) second (left-mark u a z second) refl

  mark-mark : a.size ≡ 0 → b.size ≡ 0 → Exchanged s a b
  mark-mark z y =
      let t = with_mark s a in
      let u = with_mark s b in
      let sa = left-mark s a z given in
      let then : answer t b 0 ≡ Accepted = sym (ap (λ (x : State). answer x b 0) sa) ∙ next in
      let room : length (marked ms a.position) < max_stored = accepted-mark-room t b 0 then y in
      let la = length_marked ms a.position in
      let lb = length_marked ms b.position in
      let first = takes-mark s b y (accepted-free t b 0 then) (omega (arith, room, la)) in
      let sb = left-mark s b y first in
      let second = takes-mark u a z (accepted-free s a 0 given) (omega (arith, room, la, lb)) in
      let fa : Fits t = rw sa at (fits_after s a wa fits) in
      let fb : Fits u = rw sb at (fits_after s b wb fits) in
      exchanged s a b t u (with_mark t b) (with_mark u a) sa (left-mark t b y then) first sb second (left-mark u a z second)
      (ap (holding l)
      (marked-either ms a.position b.position (resting-rising l 0 ms fits.rests)
      (resting-rising l 0 (marked ms a.position) fa.rests)
      (resting-rising l 0 (marked ms b.position) fb.rests)))

  -- Two offers within the limits that a sound state accepts one after the other.
  pub either_order : Exchanged s a b
  either_order =
      ⊎_elim
      (λ n. ⊎_elim (λ m. bits-bits n m) (λ y. bits-mark n (omega arith)) (lt-or-le 0 b.size))
      (λ z. ⊎_elim (λ m. mark-bits (omega arith) m) (λ y. mark-mark (omega arith) (omega arith)) (lt-or-le 0 b.size))
      (lt-or-le 0 a.size)
