-- Laws of `sets`, the list with a run of stores made in it: one run after another, a store behind a run, a store before a run; and of text behind text in
-- a buffer where it is known to fit.
use Rattle.std.specs.Prelude.{◌≡◌, refl, List, [], ◌∷◌, ◌++◌, ℕ, suc, ◌+◌, ◌<◌, ◌≤◌, length, get_or, take, drop, set}
use Rattle.std.proofs.Common.{sym, ap, ◌∙◌, add-zero, add-suc, suc-add, add-one, arith, length-append, take-suc, length-take-le}
use Rattle.std.proofs.lemmas.List.Edits.{sets, sets-eq}
use Rattle.std.proofs.Math.Seq.{length-sets}
use Rattle.std.proofs.lemmas.List.{set_comm}
use Rattle.print_text.specs.Puts.{Writes}

-- A run of stores and another behind it are one run.
pub sets-append : (l : List ℕ) (i : ℕ) (xs ys : List ℕ) → sets l i (xs ++ ys) ≡ sets (sets l i xs) (i + length xs) ys
sets-append l i [] ys = ap (λ (k : ℕ). sets l k ys) (sym (add-zero i))
sets-append l i (x ∷ xs) ys =
    sets-append (set l i x) (suc i) xs ys
    ∙ ap (λ (k : ℕ). sets (sets (set l i x) (suc i) xs) k ys) (suc-add i (length xs) ∙ sym (add-suc i (length xs)))

-- A store before a run may be made first.
pub sets-before : (l : List ℕ) (j : ℕ) (vs : List ℕ) (i a : ℕ) → i < j → set (sets l j vs) i a ≡ sets (set l i a) j vs
sets-before l j [] i a h = refl
sets-before l j (v ∷ vs) i a h =
    sets-before (set l j v) (suc j) vs i a (omega arith)
    ∙ ap (λ (k : List ℕ). sets k (suc j) vs) (set_comm l j i v a (λ e. omega arith))

-- One element more of a list that is copied.
pub sets-take : (l : List ℕ) (at : ℕ) (s : List ℕ) (i : ℕ) → i < length s
    → set (sets l at (take i s)) (at + i) (get_or s i 0) ≡ sets l at (take (i + 1) s)
sets-take l at s i h =
    ap (λ (k : ℕ). set (sets l at (take i s)) (at + k) (get_or s i 0)) (sym (length-take-le i s (omega arith)))
    ∙ sym (sets-append l at (take i s) (get_or s i 0 ∷ []))
    ∙ ap (sets l at) (sym (take-suc s i 0 h) ∙ ap (λ (k : ℕ). take k s) (sym (add-one i)))

-- Text and more text behind it are one text.
pub writes_then : {a b old mid new : List ℕ} {at m end : ℕ} → Writes a old at m mid → Writes b mid m end new → Writes (a ++ b) old at end new
writes_then {a} {b} {old} {mid} {new} {at} {m} {end} p q =
    record {
      place = omega (arith, p.place, q.place, length-append a b);
      buffer = q.buffer ∙ ap (λ (l : List ℕ). sets l m b) p.buffer ∙ ap (λ (k : ℕ). sets (sets old at a) k b) p.place ∙ sym (sets-append old at a b);
    }

-- No text, and one byte, are text.
pub writes-none : (old : List ℕ) (at : ℕ) → Writes [] old at at old
writes-none old at = record { place = omega arith; buffer = refl }

pub writes_byte : (b : ℕ) {old : List ℕ} {at : ℕ} → Writes (b ∷ []) old at (at + 1) (set old at b)
writes_byte b = record { place = refl; buffer = refl }

-- The buffer keeps its length.
pub writes-long : {text old new : List ℕ} {at end : ℕ} → Writes text old at end new → length new ≡ length old
writes-long {text} {old} {new} {at} p = ap length p.buffer ∙ length-sets old at text

-- Where two texts fit, the second has room behind the first.
pub writes-room : (a b : List ℕ) {old mid : List ℕ} {at m : ℕ} → at + length (a ++ b) ≤ length old → Writes a old at m mid → m + length b ≤ length mid
writes-room a b h p = omega (arith, p.place, writes-long p, length-append a b)

-- What is written from the front on, where it fits.
pub writes-front : {text old new : List ℕ} {end : ℕ} → length text ≤ length old → Writes text old 0 end new → new ≡ text ++ drop (length text) old
writes-front {text} {old} h p =
    let none : 0 + length text ≡ length text = omega arith in
    p.buffer ∙ sets-eq text old 0 (omega arith) ∙ ap (λ (k : ℕ). text ++ drop k old) none
