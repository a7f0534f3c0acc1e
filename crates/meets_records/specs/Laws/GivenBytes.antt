-- The bytes that a file gives, by the sentences (empty pieces among them) and by the definitions (without those).
use Rattle.std.specs.Prelude.{◌≡◌, refl, true, ◌⊎◌, ℕ, zero, suc, ◌+◌, ◌-◌, ◌<◌, max, length, get_or}
use Rattle.std.proofs.Common.{sym, ◌∙◌, subst, ⊎_elim, arith}
use mathlib.Core.List.Memᴰ
use mathlib.Core.List.{List, [], ◌∷◌, ◌++◌, Memᴰ}
use Rattle.sort.specs.Laws.Sorted.{le-or-lt}
use Rattle.record_lines.specs.Pieces.{Piece, piece, end_of, GivesAt}
use Rattle.record_scan.specs.Steps.{highest}
use Rattle.record_read.specs.Given.{given}
use Rattle.record_read.specs.Laws.Facts.{given-gives, gives-given}
use Rattle.says.specs.Words.{At}
use Rattle.says.specs.Read as s
use Rattle.says.specs.Read.{Gives, GivenTo}
use Rattle.meets_records.specs.Laws.Sits.{new_of, solid}

-- ---- members
mem-left : {q : Piece} (l m : List Piece) → Memᴰ q l → Memᴰ q (l ++ m)
mem-left [] m x = absurd (Memᴰ.not-nil x)
mem-left (p ∷ l) m x = ⊎_elim (λ e. Memᴰ.head e) (λ y. Memᴰ.tail (mem-left l m y)) (Memᴰ.cases_cons x)

mem-right : {q : Piece} (l m : List Piece) → Memᴰ q m → Memᴰ q (l ++ m)
mem-right [] m x = x
mem-right (p ∷ l) m x = Memᴰ.tail (mem-right l m x)

new-has : (a : ℕ) (b : List ℕ) → 0 < length b → Memᴰ (piece a b) (new_of (piece a b))
unfolding new_of
new-has a [] h = absurd (omega arith)
new-has a (x ∷ b) h = Memᴰ.head refl

new-only : (a : ℕ) (b : List ℕ) (q : Piece) → Memᴰ q (new_of (piece a b)) → (q ≡ piece a b) × (0 < length b)
unfolding new_of
new-only a [] q m = absurd (Memᴰ.not-nil m)
new-only a (x ∷ b) q m = ⊎_elim (λ e. (e, omega arith)) (λ y. absurd (Memᴰ.not-nil y)) (Memᴰ.cases_cons m)

mem-of : (ps : List Piece) (i : ℕ) (q : Piece) → At ps i q → 0 < length q.bytes → Memᴰ q (solid ps)
mem-of [] i q at h = absurd (omega (arith, at.0))
mem-of (p ∷ ps) zero q at h =
    subst (λ (y : Piece). Memᴰ q (new_of y ++ solid ps)) (sym at.1) (mem-left (new_of q) (solid ps) (new-has q.address q.bytes h))
mem-of (p ∷ ps) (suc i) q at h = mem-right (new_of p) (solid ps) (mem-of ps i q (omega (arith, at.0), at.1) h)

pub of_mem : (ps : List Piece) (q : Piece) → Memᴰ q (solid ps) → (i : ℕ) × At ps i q × (0 < length q.bytes)
of_mem [] q m = absurd (Memᴰ.not-nil m)
of_mem (p ∷ ps) q m = ⊎_elim
    (λ x. let k = new-only p.address p.bytes q x in
    (0, (omega arith, sym k.0), subst (λ (y : Piece). 0 < length y.bytes) (sym k.0) k.1))
    (λ x. let k = of_mem ps q x in (suc k.0, (omega (arith, k.1.0), k.1.1), k.2))
    (Memᴰ.append_cases (new_of p) m)

-- ---- bytes
pub gives_at : (ps : List Piece) (i a b : ℕ) → Gives ps i a b → GivesAt (solid ps) a b
gives_at ps i a b (s.gives {p = q} {k = k} at h e f) =
    record { from = q; among = mem-of ps i q at (omega arith); index = k; inside = h; place = sym e; byte = sym f }

at_gives : (ps : List Piece) (a b : ℕ) → GivesAt (solid ps) a b → GivenTo ps a
at_gives ps a b g = let k = of_mem ps g.from g.among in
    (k.0, b, s.gives {p = g.from} {k = g.index} k.1 g.inside (sym g.place) (sym g.byte))

pub given_to : (ps : List Piece) (a : ℕ) → given (solid ps) a ≡ true → GivenTo ps a
given_to ps a e = let g = given-gives (solid ps) a e in at_gives ps a g.0 g.1

pub to-given : (ps : List Piece) (a : ℕ) → GivenTo ps a → given (solid ps) a ≡ true
to-given ps a g = gives-given (solid ps) a g.1 (gives_at ps g.0 a g.1 g.2)

-- ---- the last byte
top_of : (l : List Piece) → 0 < highest l → (q : Piece) × Memᴰ q l × (end_of q ≡ highest l)
unfolding highest
top_of [] h = absurd (omega arith)
top_of (p ∷ l) h = ⊎_elim
    (λ le. let k : end_of p ≡ max (end_of p) (highest l) = omega arith in (p, Memᴰ.head refl, k))
    (λ lt.
    let t = top_of l (omega arith) in
    let k : highest l ≡ max (end_of p) (highest l) = omega arith in
    (t.0, Memᴰ.tail t.1, t.2 ∙ k))
    (le-or-lt (highest l) (end_of p))

pub top-given : (ps : List Piece) → 0 < highest (solid ps) → (a : ℕ) × (suc a ≡ highest (solid ps)) × GivenTo ps a
top-given ps h =
    let t = top_of (solid ps) h in
    let q = t.0 in
    let k = of_mem ps q t.1 in
    let i = length q.bytes - 1 in
    let some = k.2 in
    let last : suc (q.address + i) ≡ highest (solid ps) = omega (arith, t.2) in
    (q.address + i, last, (k.0, get_or q.bytes i 0, s.gives {p = q} {k = i} k.1 (omega arith) refl refl))
