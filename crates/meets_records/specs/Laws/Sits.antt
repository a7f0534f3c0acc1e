-- Pieces that give no address twice, by the sentences and by the definition's test piece by piece: the same.
use Rattle.std.specs.Prelude.{◌≡◌, true, ◌&&◌, ◌||◌, ◌⊎◌, ℕ, zero, suc, ◌+◌, ◌-◌, ◌≤◌, ◌<◌, get_or}
use Rattle.std.proofs.Math.Path.{refl}
use Rattle.std.proofs.Common.{sym, ap, subst}
use mathlib.Core.List.{List, [], ◌∷◌, ◌++◌}
use Rattle.std.proofs.Math.Logic.{⊎_elim}
use native.Mathlib.Omega.{arith}
use borrow.Author.Tests.{le-leb, leb-true}
use Rattle.std.proofs.Math.Dec.{leb}
use Rattle.std.proofs.Math.ListN.{length}
use Rattle.prelude.specs.Laws.Bools.{either, both, or_right}
use Rattle.sort.specs.Laws.Sorted.{le-or-lt}
use Rattle.record_lines.specs.Items.{gives}
use Rattle.record_lines.specs.Pieces.{Piece, piece, end_of}
use Rattle.record_scan.specs.Reading.{new_pieces, is_new, fine}
use Rattle.says.specs.Read as s
use Rattle.says.specs.Read.{Gives, GivenTo}

-- The piece that a line gives, if it has a byte, and those of all lines.
unfoldable pub new_of : Piece → List Piece
new_of p = new_pieces (gives p.address p.bytes 0)

abbrev pub solid : List Piece → List Piece
solid [] = []
solid (p ∷ ps) = new_of p ++ solid ps

pub new_is : (a : ℕ) (b : List ℕ) (state : ℕ) → new_pieces (gives a b state) ≡ new_of (piece a b)
unfolding new_of
new_is a [] state = refl
new_is a (x ∷ b) state = refl

-- Pieces of which each is fine behind those before it.
abbrev pub Sits : ℕ → List Piece → List Piece → Type 0
Sits load given [] = Unit {0}
Sits load given (p ∷ ps) = (fine load given (new_of p) ≡ true) × Sits load (given ++ new_of p) ps

module _ (load : ℕ) where
  -- ---- pieces that give no address twice sit one behind the other
  abbrev pub Within : List Piece → Type 0
  Within ps = (i a b : ℕ) → Gives ps i a b → (load ≤ a) × (a < 4294967296)

  abbrev pub Apart : List Piece → Type 0
  Apart ps = (i j a b c : ℕ) → Gives ps i a b → Gives ps j a c → i ≡ j

  abbrev Clear : List Piece → List Piece → Type 0
  Clear ps [] = Unit {0}
  Clear ps (q ∷ g) = (0 < length q.bytes) × ((a : ℕ) → q.address ≤ a → a < end_of q → GivenTo ps a → ⊥) × Clear ps g

  pub head-gives : (p : Piece) (ps : List Piece) (a : ℕ) → p.address ≤ a → a < end_of p → Gives (p ∷ ps) 0 a (get_or p.bytes (a - p.address) 0)
  head-gives p ps a h k =
      let place : a ≡ p.address + (a - p.address) = omega arith in
      s.gives {p = p} {k = a - p.address} (omega arith, refl) (omega arith) place refl

  pub tail-gives : (p : Piece) (ps : List Piece) (i a b : ℕ) → Gives ps i a b → Gives (p ∷ ps) (suc i) a b
  tail-gives p ps i a b (s.gives {p = q} {k = k} x h e f) = s.gives {p = q} {k = k} (omega (arith, x.0), x.1) h e f

  new-for : (p : Piece) (ps given : List Piece) → 0 < length p.bytes → Clear (p ∷ ps) given → is_new given p.address (end_of p) ≡ true
  unfolding is_new
  new-for p ps [] n c = refl
  new-for p ps (q ∷ g) n c =
      let more = new-for p ps g n c.2 in
      ⊎_elim
      (λ le. rw (le-leb (end_of q) p.address le) more)
      (λ lt. ⊎_elim
      (λ le. rw (or_right (leb (end_of q) p.address) (leb (end_of p) q.address) (le-leb (end_of p) q.address le)) more)
      (λ gt. ⊎_elim
      (λ le. absurd (c.1 q.address (omega arith) (omega (arith, c.0)) (
        0,
        (get_or p.bytes (q.address - p.address) 0),
        head-gives p ps q.address le gt,
      )))
      (λ less. absurd (c.1 p.address (omega arith) lt
      (0, (get_or p.bytes (p.address - p.address) 0), head-gives p ps p.address (omega arith) (omega arith))))
      (le-or-lt p.address q.address))
      (le-or-lt (end_of p) q.address))
      (le-or-lt (end_of q) p.address)

  fine-for : (a : ℕ) (b : List ℕ) (ps given : List Piece) → Within (piece a b ∷ ps) → Clear (piece a b ∷ ps) given → fine load given (new_of (piece a b)) ≡ true
  unfolding new_of
  fine-for a [] ps given w c = refl
  fine-for a (x ∷ b) ps given w c =
      let p = piece a (x ∷ b) in
      let low = w 0 a (get_or p.bytes (a - a) 0) (head-gives p ps a (omega arith) (omega arith)) in
      let top = a + length b in
      let high = w 0 top (get_or p.bytes (top - a) 0) (head-gives p ps top (omega arith) (omega arith)) in
      rw (le-leb load a low.0, le-leb (end_of p) 4294967296 (omega (arith, high.1))) (new-for p ps given (omega arith) c)

  clear-more : (p : Piece) (ps given new : List Piece) → Clear (p ∷ ps) given → Clear ps new → Clear ps (given ++ new)
  clear-more p ps [] new c d = d
  clear-more p ps (q ∷ g) new c d = (c.0, λ a h k t. c.1 a h k (suc t.0, t.1, tail-gives p ps t.0 a t.1 t.2), clear-more p ps g new c.2 d)

  clear-own : (a : ℕ) (b : List ℕ) (ps : List Piece) → Apart (piece a b ∷ ps) → Clear ps (new_of (piece a b))
  unfolding new_of
  clear-own a [] ps d = tt
  clear-own a (x ∷ b) ps d = (
    omega arith,
    λ y h k t.
        let p = piece a (x ∷ b) in
        let same = d 0 (suc t.0) y (get_or p.bytes (y - a) 0) t.1 (head-gives p ps y h k) (tail-gives p ps t.0 y t.1 t.2) in
        omega arith,
    tt,
  )

  pub sits : (ps given : List Piece) → Within ps → Apart ps → Clear ps given → Sits load given ps
  sits [] given w d c = tt
  sits (p ∷ ps) given w d c = (
    fine-for p.address p.bytes ps given w c,
    sits ps (given ++ new_of p) (λ i a b g. w (suc i) a b (tail-gives p ps i a b g)) (λ i j a b e g h.
        let same = d (suc i) (suc j) a b e (tail-gives p ps i a b g) (tail-gives p ps j a e h) in omega arith)
        (clear-more p ps given (new_of p) c (clear-own p.address p.bytes ps d)),
  )

  -- ---- pieces that sit one behind the other give no address twice
  abbrev Free : List Piece → ℕ → Type 0
  Free [] a = Unit {0}
  Free (q ∷ g) a = (q.address ≤ a → a < end_of q → ⊥) × Free g a

  free_new : (given : List Piece) (first end a : ℕ) → is_new given first end ≡ true → first ≤ a → a < end → Free given a
  unfolding is_new
  free_new [] first end a e h k = tt
  free_new (q ∷ g) first end a e h k =
      let two = both (leb (end_of q) first || leb end q.address) (is_new g first end) e in (
        λ x y. either (leb (end_of q) first)
            (λ t. omega (arith, leb-true (end_of q) first t))
            (λ f. omega (arith, leb-true end q.address (rw f at two.0))),
        free_new g first end a two.1 h k,
      )

  fine-gives : (a : ℕ) (b : List ℕ) (given : List Piece) (k : ℕ) → fine load given (new_of (piece a b)) ≡ true → k < length b
      → (load ≤ a + k) × (a + k < 4294967296) × Free given (a + k)
  unfolding new_of
  fine-gives a [] given k e h = absurd (omega arith)
  fine-gives a (x ∷ b) given k e h =
      let p = piece a (x ∷ b) in
      let two = both (leb load a && leb (end_of p) 4294967296) (is_new given a (end_of p)) e in
      let one = both (leb load a) (leb (end_of p) 4294967296) two.0 in
      let low = leb-true load a one.0 in
      let high = leb-true (end_of p) 4294967296 one.1 in
      (omega arith, omega arith, free_new given a (end_of p) (a + k) two.1 (omega arith) (omega arith))

  free-front : (given new : List Piece) (a : ℕ) → Free (given ++ new) a → Free given a × Free new a
  free-front [] new a f = (tt, f)
  free-front (q ∷ g) new a f = let r = free-front g new a f.1 in ((f.0, r.0), r.1)

  free_own : (a : ℕ) (b : List ℕ) (k : ℕ) → k < length b → Free (new_of (piece a b)) (a + k) → ⊥
  unfolding new_of
  free_own a [] k h f = omega arith
  free_own a (x ∷ b) k h f = f.0 (omega arith) (omega arith)

  -- what piece i gives: within the limits, and free of what was given before
  pub sat : (ps given : List Piece) → Sits load given ps → (i a b : ℕ) → Gives ps i a b → (load ≤ a) × (a < 4294967296) × Free given a
  sat [] given x i a b (s.gives at h e f) = absurd (omega (arith, at.0))
  sat (p ∷ ps) given x zero a b (s.gives {p = q} {k = k} at h e f) =
      let same : p ≡ q = at.1 in
      let inside : k < length p.bytes = subst (λ (y : Piece). k < length y.bytes) (sym same) h in
      let place : p.address + k ≡ a = subst (λ (y : Piece). y.address + k ≡ a) (sym same) (sym e) in
      subst (λ (y : ℕ). (load ≤ y) × (y < 4294967296) × Free given y) place (fine-gives p.address p.bytes given k x.0 inside)
  sat (p ∷ ps) given x (suc i) a b (s.gives {p = q} {k = k} at h e f) =
      let later-one = sat ps (given ++ new_of p) x.1 i a b (s.gives {p = q} {k = k} (omega (arith, at.0), at.1) h e f) in
      (later-one.0, later-one.1, (free-front given (new_of p) a later-one.2).0)

  -- piece 0 and a later one
  sat-apart : (p : Piece) (ps given : List Piece) → Sits load given (p ∷ ps) → (i a b c : ℕ) → Gives (p ∷ ps) 0 a b → Gives ps i a c → ⊥
  sat-apart p ps given x i a b c (s.gives {p = q} {k = k} at h e f) g =
      let same : p ≡ q = at.1 in
      let inside : k < length p.bytes = subst (λ (y : Piece). k < length y.bytes) (sym same) h in
      let place : a ≡ p.address + k = subst (λ (y : Piece). a ≡ y.address + k) (sym same) e in
      let free = (free-front given (new_of p) a (sat ps (given ++ new_of p) x.1 i a c g).2).1 in
      free_own p.address p.bytes k inside (subst (Free (new_of p)) place free)

  pub behind : (p : Piece) (ps : List Piece) (i a b : ℕ) → Gives (p ∷ ps) (suc i) a b → Gives ps i a b
  behind p ps i a b (s.gives {p = q} {k = k} at h e f) = s.gives {p = q} {k = k} (omega (arith, at.0), at.1) h e f

  pub sits-apart : (ps given : List Piece) → Sits load given ps → Apart ps
  sits-apart [] given x i j a b c (s.gives at h e f) g = absurd (omega (arith, at.0))
  sits-apart (p ∷ ps) given x zero zero a b c g h = refl
  sits-apart (p ∷ ps) given x zero (suc j) a b c g h = absurd (sat-apart p ps given x j a b c g (behind p ps j a c h))
  sits-apart (p ∷ ps) given x (suc i) zero a b c g h = absurd (sat-apart p ps given x i a c b h (behind p ps i a b g))
  sits-apart (p ∷ ps) given x (suc i) (suc j) a b c g h =
      ap suc (sits-apart ps (given ++ new_of p) x.1 i j a b c (behind p ps i a b g) (behind p ps j a c h))
