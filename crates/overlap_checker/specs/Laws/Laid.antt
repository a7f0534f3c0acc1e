-- Intervals that stand in two lists, and a state laid into them: what is laid is held, and what is held, laid again, changes nothing.
use Rattle.std.specs.Prelude.{◌≡◌, refl, List, [], ◌∷◌, ℕ, zero, suc, ◌≤◌, ◌<◌, length, take, drop, get_or}
use Rattle.std.proofs.Common.{sym, ap, ap₂, ◌∙◌, le_of_suc-le-suc, not-suc-le-zero, arith, length-append, length-drop}
use Rattle.std.proofs.Common.{take-append-drop, length-take-le, get_or-take, take_at}
use Rattle.std.proofs.Math.Nat.{suc_inj}
use Rattle.std.proofs.lemmas.List.{length-map}
use Rattle.prelude.specs.Limits.{max_stored}
use Rattle.overlap_checker.specs.declared.Entry.{Entry}
use Rattle.overlap_checker.specs.Interval.{interval}
use Rattle.overlap_checker.specs.Entries.{entry_at}
use Rattle.overlap_checker.specs.State.{State, holding}
use Rattle.overlap_checker.specs.Lent.{Spans, spans, Lent, lent, spans_of, zipped, held_in, held_marks, state_in, laid, starts, lengths, laid_into}
use Rattle.overlap_checker.specs.Laws.Lent.{laid_spans}

pub length-zipped : (a b : List ℕ) → length a ≡ length b → length (zipped a b) ≡ length a
unfolding zipped
length-zipped [] b e = refl
length-zipped (x ∷ a) [] e = absurd (let z : suc (length a) ≡ 0 = e in omega arith)
length-zipped (x ∷ a) (y ∷ b) e = ap suc (length-zipped a b (suc_inj e))

zipped-at : (a b : List ℕ) (i : ℕ) → i < length a → i < length b → entry_at (zipped a b) i ≡ interval (get_or a i 0) (get_or b i 0)
unfolding zipped
zipped-at [] b i h k = absurd (not-suc-le-zero h)
zipped-at (x ∷ a) [] i h k = absurd (not-suc-le-zero k)
zipped-at (x ∷ a) (y ∷ b) zero h k = refl
zipped-at (x ∷ a) (y ∷ b) (suc i) h k = zipped-at a b i (le_of_suc-le-suc h) (le_of_suc-le-suc k)

starts-zipped : (a b : List ℕ) → length a ≡ length b → starts (zipped a b) ≡ a
unfolding zipped
starts-zipped [] b e = refl
starts-zipped (x ∷ a) [] e = absurd (let z : suc (length a) ≡ 0 = e in omega arith)
starts-zipped (x ∷ a) (y ∷ b) e = ap (λ (l : List ℕ). x ∷ l) (starts-zipped a b (suc_inj e))

lengths-zipped : (a b : List ℕ) → length a ≡ length b → lengths (zipped a b) ≡ b
unfolding zipped
lengths-zipped [] [] e = refl
lengths-zipped [] (y ∷ b) e = absurd (let z : 0 ≡ suc (length b) = e in omega arith)
lengths-zipped (x ∷ a) [] e = absurd (let z : suc (length a) ≡ 0 = e in omega arith)
lengths-zipped (x ∷ a) (y ∷ b) e = ap (λ (l : List ℕ). y ∷ l) (lengths-zipped a b (suc_inj e))

zipped-apart : (l : List Entry) → zipped (starts l) (lengths l) ≡ l
unfolding zipped
zipped-apart [] = refl
zipped-apart (e ∷ l) = ap (λ (m : List Entry). e ∷ m) (zipped-apart l)

-- ---- one list

pub laid-front : (front list : List ℕ) → take (length front) (laid front list) ≡ front
laid-front front list = take_at front (drop (length front) list) (length front) refl

pub laid-length : (front list : List ℕ) → length front ≤ length list → length (laid front list) ≡ length list
laid-length front list h = simp (length-append, length-drop) (omega arith)

-- a list's own front
pub laid-own : (n : ℕ) (list : List ℕ) → n ≤ length list → laid (take n list) list ≡ list
laid-own n list h = rw (length-take-le n list h) (take-append-drop n list)

-- ---- both lists

pub starts-length : (l : List Entry) → length (starts l) ≡ length l
starts-length l = length-map l (λ (e : Entry). e.position)

pub lengths-length : (l : List Entry) → length (lengths l) ≡ length l
lengths-length l = length-map l (λ (e : Entry). e.size)

-- What is laid into the arrays is held there.
pub held-laid : (a : Spans) (l : List Entry) → held_in (laid_spans a l) ≡ l
held-laid a l =
    ap₂ zipped
    (rw (← starts-length l) (laid-front (starts l) a.positions))
    (rw (← lengths-length l) (laid-front (lengths l) a.sizes))
    ∙ zipped-apart l

-- a count within the two arrays
module _ (a : Spans) (few : a.count ≤ max_stored) (wide : length a.positions ≡ max_stored) (long : length a.sizes ≡ max_stored) where
  take-positions : length (take a.count a.positions) ≡ a.count
  take-positions = length-take-le a.count a.positions (omega arith)

  take-sizes : length (take a.count a.sizes) ≡ a.count
  take-sizes = length-take-le a.count a.sizes (omega arith)

  pub held-length : length (held_in a) ≡ a.count
  held-length = length-zipped (take a.count a.positions) (take a.count a.sizes) (take-positions ∙ sym take-sizes) ∙ take-positions

  pub held_at : (i : ℕ) → i < a.count → entry_at (held_in a) i ≡ interval (get_or a.positions i 0) (get_or a.sizes i 0)
  held_at i h =
      zipped-at (take a.count a.positions) (take a.count a.sizes) i (omega (arith, take-positions)) (omega (arith, take-sizes))
      ∙ ap₂ interval (get_or-take a.count a.positions i 0 h) (get_or-take a.count a.sizes i 0 h)

  pub starts-held : starts (held_in a) ≡ take a.count a.positions
  starts-held = starts-zipped (take a.count a.positions) (take a.count a.sizes) (take-positions ∙ sym take-sizes)

  pub lengths-held : lengths (held_in a) ≡ take a.count a.sizes
  lengths-held = lengths-zipped (take a.count a.positions) (take a.count a.sizes) (take-positions ∙ sym take-sizes)

  -- What is held, laid again, changes nothing.
  pub laid-held : laid_spans a (held_in a) ≡ a
  laid-held =
      ap₂ (λ (f : List ℕ) (n : ℕ). spans f (laid (lengths (held_in a)) a.sizes) n)
      (ap (λ (f : List ℕ). laid f a.positions) starts-held ∙ laid-own a.count a.positions (omega arith))
      held-length
      ∙ ap (λ (f : List ℕ). spans a.positions f a.count)
      (ap (λ (f : List ℕ). laid f a.sizes) lengths-held ∙ laid-own a.count a.sizes (omega arith))

-- ---- all three

pub state-laid : (a : Lent) (s : State) → state_in (laid_into a s) ≡ s
state-laid a s = ap₂ holding (held-laid (spans_of a) s.intervals) (laid-front s.marks a.marks)

module _ (a : Lent) (few : a.count ≤ max_stored) (wide : length a.positions ≡ max_stored) (long : length a.sizes ≡ max_stored)
    (few_marks : a.mark_count ≤ max_stored) (broad : length a.marks ≡ max_stored) where
  pub marks-length : length (held_marks a) ≡ a.mark_count
  marks-length = length-take-le a.mark_count a.marks (omega arith)

  pub laid-state : laid_into a (state_in a) ≡ a
  laid-state =
      ap (λ (x : Spans). lent x.positions x.sizes x.count (laid (held_marks a) a.marks) (length (held_marks a)))
      (laid-held (spans_of a) few wide long)
      ∙ ap₂ (λ (l : List ℕ) (n : ℕ). lent a.positions a.sizes a.count l n)
      (laid-own a.mark_count a.marks (omega arith)) marks-length
