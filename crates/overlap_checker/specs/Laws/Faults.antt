-- Laws that Theorems/Faults rests on.
use Rattle.std.specs.Prelude.{◌≡◌, List, [], ◌∷◌, ℕ, suc, ◌≤◌, ◌<◌, length, take}
use Rattle.std.proofs.Common.{sym, ap, ◌∙◌, ⊎_elim, true≢false, arith}
use Rattle.prelude.specs.Told.{Told, gives, refuses, Nothing, told_verdict}
use Rattle.prelude.specs.Verdict.{Verdict}
use Rattle.overlap_checker.specs.declared.Entry.{Entry}
use Rattle.overlap_checker.specs.Entries.{entry_at}
use Rattle.overlap_checker.specs.Interval.{end, ShareBit}
use Rattle.overlap_checker.specs.Stored.{at_fault, first_fault, Proper}
use Rattle.overlap_checker.specs.Marks.{mark_at_fault, first_mark_fault, ProperMarks}
use Rattle.overlap_checker.specs.Laws.MarkLaws.{Resting, lies, no-mark-fault, resting-proper, proper-resting}
use Rattle.overlap_checker.specs.Folds.{RefusedBy}
use Rattle.overlap_checker.specs.Laws.Ascending.{told, lt-or-le, sits-at}
use Rattle.overlap_checker.specs.Ascending.{Ascending}
use Rattle.overlap_checker.specs.Theorems.Ascending.{no-fault, sits}
use Rattle.overlap_checker.specs.Laws.Ascending.{ends-before}

-- ---- ascending is proper

pub ascending-proper : (l : List Entry) → Ascending 0 l → Proper l
ascending-proper l a =
    record {
      within = λ i m. (sits-at 0 l a i m).within;
      nonempty = λ i m. (sits-at 0 l a i m).nonempty;
      ascends = λ i j h m. omega (arith, ends-before 0 l a i j h m, (sits-at 0 l a i (omega arith)).nonempty);
      disjoint = λ i j h m b. omega (arith, ends-before 0 l a i j h m, b.1, b.2);
    }

tail : (e : Entry) (l : List Entry) → Proper (e ∷ l) → Proper l
tail e l p =
    record {
      within = λ i m. p.within (suc i) (omega arith);
      nonempty = λ i m. p.nonempty (suc i) (omega arith);
      ascends = λ i j h m. p.ascends (suc i) (suc j) (omega arith) (omega arith);
      disjoint = λ i j h m. p.disjoint (suc i) (suc j) (omega arith) (omega arith);
    }

-- two entries that ascend and share no bit: the first ends where the second starts, or before
apart : (e f : Entry) → e.position < f.position → 0 < f.size → (ShareBit e f → ⊥) → end e ≤ f.position
apart e f h n d =
    ⊎_elim (λ inside. absurd (d (f.position, (omega arith, inside), (omega arith, omega arith)))) (λ out. out)
    (lt-or-le f.position (end e))

proper-from : (floor : ℕ) (l : List Entry) → Proper l → ((i : ℕ) → i < length l → floor ≤ (entry_at l i).position) → Ascending floor l
proper-from floor [] p h = tt
proper-from floor (e ∷ l) p h = (
  record { above = h 0 (omega arith); nonempty = p.nonempty 0 (omega arith); within = p.within 0 (omega arith) },
  proper-from (end e) l (tail e l p)
      (λ i m. apart e (entry_at l i) (p.ascends 0 (suc i) (omega arith) (omega arith)) (p.nonempty (suc i) (omega arith))
      (p.disjoint 0 (suc i) (omega arith) (omega arith))),
)

pub proper-ascending : (l : List Entry) → Proper l → Ascending 0 l
proper-ascending l p = proper-from 0 l p (λ i m. omega arith)

-- ---- the first entry at fault

pub first-splits : (floor : ℕ) (l : List Entry) → first_fault floor l < length l
    → Ascending floor (take (first_fault floor l) l) × (Ascending floor (take (suc (first_fault floor l)) l) → ⊥)
unfolding first_fault
first-splits floor [] h = absurd (omega arith)
first-splits floor (e ∷ l) h =
    ⊎_elim
    (λ bad. rw bad (tt, (λ a. true≢false (sym bad ∙ no-fault floor e a.0))))
    (λ fine. let (before, with_it) = first-splits (end e) l (let g : suc (first_fault (end e) l) < suc (length l) = rw fine at h in omega arith) in
    rw fine ((sits floor e fine, before), (λ a. with_it a.1)))
    (told (at_fault floor e))

first-mark-splits : (l : List Entry) (floor : ℕ) (ms : List ℕ) → first_mark_fault l floor ms < length ms
    → Resting l floor (take (first_mark_fault l floor ms) ms) × (Resting l floor (take (suc (first_mark_fault l floor ms)) ms) → ⊥)
unfolding first_mark_fault
first-mark-splits l floor [] h = absurd (omega arith)
first-mark-splits l floor (m ∷ ms) h =
    ⊎_elim
    (λ bad. rw bad (tt, (λ a. true≢false (sym bad ∙ no-mark-fault l floor m a.0))))
    (λ fine. let (before, with_it) =
    first-mark-splits l m ms (let g : suc (first_mark_fault l m ms) < suc (length ms) = rw fine at h in omega arith) in
    rw fine ((lies l floor m fine, before), (λ a. with_it a.1)))
    (told (mark_at_fault l floor m))

-- The marks before the first at fault are proper, and with it they are not.
pub first-mark-fault-exactly : (l : List Entry) (ms : List ℕ) → first_mark_fault l 0 ms < length ms
    → ProperMarks l (take (first_mark_fault l 0 ms) ms) × (ProperMarks l (take (suc (first_mark_fault l 0 ms)) ms) → ⊥)
first-mark-fault-exactly l ms h =
    let (before, with_it) = first-mark-splits l 0 ms h in (
      resting-proper l (take (first_mark_fault l 0 ms) ms) before,
      (λ p. with_it (proper-resting l (take (suc (first_mark_fault l 0 ms)) ms) p)),
    )

-- ---- the call

abbrev pub number_in : Told Nothing → ℕ
number_in (gives x) = 0
number_in (refuses n p) = n

-- what is refused, by its figures
pub same_number : {t : Told Nothing} {n : ℕ} (v : Verdict) → told_verdict v ≡ t → RefusedBy n v → number_in t ≡ n
same_number v is r = sym (ap number_in is) ∙ ap number_in r.1
